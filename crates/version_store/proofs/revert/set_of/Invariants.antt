use Rattle.std.proofs.Common.{◌≡◌, [], drop}
use Rattle.indexmap.specs.IndexSet.{insert_all}
use Rattle.chain_types.specs.Equal.{digest_eq}
use Rattle.version_store.proofs.revert.set_of.Given as goal

-- from here the loop gives what the whole loop gives
abbrev pub invariant-loop-digest : goal.invariant-loop-digest
invariant-loop-digest l = insert_all digest_eq l.set.keys (drop l.digest-index l.digests) ≡ insert_all digest_eq [] l.digests
