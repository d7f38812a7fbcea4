use Rattle.std.proofs.Common.{◌≤◌, length, arith, below_more}
use Rattle.committee_core.proofs.Agreeing.{all_agree}
use Rattle.committee_core.proofs.agreement.first_difference.Goals as goal

pub loop-place-preserved : goal.loop-place-preserved
loop-place-preserved c = below_more _ _ c.loop-place.invariant (c.lowest_in.ensures.none c.in_default.is)

pub returns-clause-none : goal.returns-clause-none
returns-clause-none c =
    let past = c.loop-place-test.false in
    let most : length c.args.links.now ≤ c.loop-place.place = grind arith in
    λ is. all_agree c.args.world.now.posts c.args.links.now c.loop-place.place c.loop-place.invariant most
