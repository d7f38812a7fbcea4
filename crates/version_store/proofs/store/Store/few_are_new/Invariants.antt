use Rattle.std.proofs.Common.{◌≡◌, length}
use Rattle.version_store.specs.Stores.{are_new, held_in}
use Rattle.version_store.proofs.store.Store.few_are_new.Given as goal

-- what was passed is new, and does not come again
abbrev pub invariant-loop-rest : goal.invariant-loop-rest
invariant-loop-rest l = are_new (held_in l.self) l.rest ≡ are_new (held_in l.self) l.objects

abbrev pub decreases-loop-rest : goal.decreases-loop-rest
decreases-loop-rest l = length l.rest
