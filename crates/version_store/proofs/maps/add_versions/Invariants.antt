use Rattle.std.proofs.Common.{◌≡◌, ◌+◌, ◌≤◌, length, drop}
use Rattle.indexmap.specs.IndexMap.{spare}
use Rattle.version_store.specs.Steps.{with_versions}
use Rattle.version_store.proofs.maps.add_versions.Given as goal

-- there is room for what is left, and holding it gives what holding all gives
abbrev pub invariant-loop-object : goal.invariant-loop-object
invariant-loop-object l = record {
  room : length l.objects ≤ spare l.versions + l.object-index;
  same : with_versions l.producer l.versions.entries (drop l.object-index l.objects) ≡ with_versions l.producer l.fn.versions.entries l.objects;
}
