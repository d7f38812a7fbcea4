use Rattle.std.proofs.Common.{ap, is_some, sym}
use Rattle.version_assign.proofs.Shelving.{popped}
use Rattle.version_assign.proofs.shelf.pop_place.Goals as goal

pub returns-in-Some : goal.returns-in-Some
returns-in-Some c =
    let w = c.pop_first.new.self in
    popped c.args.shelf.now.entries (c.get_mut.follows.lender w).entries c.args.name.now c.in-Some.set.now w c.pop_first.result (sym c.in-Some.ensures.value)
    ((c.get_mut.follows.holds w).3 (ap is_some (sym c.in-Some.ensures.value))).0
    c.pop_first.ensures.variant c.pop_first.ensures.removal c.pop_first.ensures.least c.pop_first.ensures.updates c.pop_first.ensures.unchanged
