use Rattle.version_store.proofs.Openings.{held_nothing}
use Rattle.version_store.proofs.store.Store.empty.Goals as goal

pub invariant_of-result : goal.invariant_of-result
invariant_of-result c = held_nothing c.new.result.entries c.new-2.result c.new.ensures.empty c.new-2.ensures
