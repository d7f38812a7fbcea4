use Rattle.world_core.proofs.Placing.{new_is}
use Rattle.world_core.proofs.seats.Seats.new.Goals as goal

pub invariant_of-result : goal.invariant_of-result
invariant_of-result g c =
    new_is c.args.terms.now c.args.opening.now c.args.honest.now c.copy.result c.in_ok-flags.flags c.in_ok-seats.seats.items c.copy.ensures c.in_ok-flags.ensures c.in_ok-seats.ensures c.requires.few
