use Rattle.std.proofs.Common.{◌≡◌, [], length}
use Rattle.version_store.specs.Stores.{held_in}
use Rattle.version_store.specs.Fresh.{all_fresh}
use Rattle.version_store.proofs.store.Store.many_are_new.Given as goal

-- what is left is new after what was seen exactly if all are new
abbrev pub invariant-loop-rest : goal.invariant-loop-rest
invariant-loop-rest l = all_fresh (held_in l.self) l.seen.keys l.rest ≡ all_fresh (held_in l.self) [] l.objects

abbrev pub decreases-loop-rest : goal.decreases-loop-rest
decreases-loop-rest l = length l.rest
