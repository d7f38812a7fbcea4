use Rattle.std.proofs.Common.{◌≡◌, []}
use Rattle.indexmap.specs.IndexMap.{values}
use Rattle.version_store.specs.Reverts.{newest_staying}
use Rattle.version_store.proofs.revert.newest_staying.Given as goal

-- from here the loop gives what the whole loop gives
abbrev pub invariant-loop-version : goal.invariant-loop-version
invariant-loop-version l = newest_staying l.kept.keys l.newest.entries l.version-iterator ≡ newest_staying l.kept.keys [] (values l.versions)
