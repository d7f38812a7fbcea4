use Rattle.std.proofs.Common.{arith}
use Rattle.quorum_core.proofs.Weights.{adds_at, none_left, roll_at, weight_fits}
use Rattle.quorum_core.proofs.committee.sum_over.Goals as goal

pub bounds-stakes-member : goal.bounds-stakes-member
bounds-stakes-member c = (roll_at c.args.stakes.now c.args.members.now c.loop-member.member-index c.loop-member-test.true c.loop-member.invariant.roll).known

pub overflow_add-sum : goal.overflow_add-sum
overflow_add-sum c =
    let adds = adds_at c.args.stakes.now c.args.members.now c.loop-member.member-index c.loop-member-test.true c.loop-member.invariant.roll in
    let most = weight_fits c.args.stakes.now c.args.members.now (λ place. let one = c.type_inv.stakes place in omega arith) in
    omega (arith, adds, most, c.loop-member.invariant.rest, c.requires.short)

pub loop-member-preserved : goal.loop-member-preserved
loop-member-preserved c =
    let adds = adds_at c.args.stakes.now c.args.members.now c.loop-member.member-index c.loop-member-test.true c.loop-member.invariant.roll in
    record {
      roll = (roll_at c.args.stakes.now c.args.members.now c.loop-member.member-index c.loop-member-test.true c.loop-member.invariant.roll).roll;
      rest = omega (arith, adds, c.loop-member.invariant.rest);
    }

pub returns : goal.returns
returns c = none_left c.args.stakes.now c.args.members.now c.loop-member.member-index c.loop-member.sum (omega (arith, c.loop-member-test.false)) c.loop-member.invariant.rest
