use Rattle.std.proofs.Common.{◌≤◌, length, arith, below_more}
use Rattle.committee_core.proofs.Agreeing.{none_at_all, not_so}
use Rattle.committee_core.proofs.agreement.lowest_at.Goals as goal

pub loop-member-preserved : goal.loop-member-preserved
loop-member-preserved c = below_more _ _ c.loop-member.invariant (not_so c.if-differs.ensures)

pub returns-clause-none : goal.returns-clause-none
returns-clause-none c =
    let value = c.members-member-end.ensures.value in
    let past = c.loop-member-test.false in
    let most : length c.args.world.now.posts ≤ c.loop-member.member = grind arith in
    λ is. none_at_all c.args.world.now.posts c.args.place c.args.link.now c.loop-member.member c.loop-member.invariant most
