use Rattle.std.proofs.Common.{◌<◌, ◌≤◌, arith, length}
use Rattle.inspect.proofs.Stated.{all_told, one_told}
use Rattle.inspect.proofs.states.members_text.Goals as goal

pub loop-member-preserved : goal.loop-member-preserved
loop-member-preserved c =
    let low : c.loop-member.member < length c.args.world.now.posts = omega (arith, c.loop-member-test.true, c.members-count.ensures.value) in
    one_told c.args.world.now.known c.args.world.now.posts c.loop-member.member c.loop-member.text c.add_member.new.text _ low c.loop-member.invariant c.in_ok-add_member.ensures

pub returns : goal.returns
returns c =
    let most : length c.args.world.now.posts ≤ c.loop-member.member = omega (arith, c.loop-member-test.false, c.members-count.ensures.value) in
    all_told c.args.world.now.known c.args.world.now.posts c.loop-member.member c.loop-member.text _ most c.loop-member.invariant
