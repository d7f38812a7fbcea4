use Rattle.std.proofs.Common.{◌≡◌, ◌+◌, ◌≤◌, length, drop}
use Rattle.indexmap.specs.IndexMap.{spare}
use Rattle.version_store.specs.Steps.{with_all_newer}
use Rattle.version_store.proofs.maps.add_all_newer.Given as goal

-- there is room for what is left, and adding it gives what adding all gives
abbrev pub invariant-loop-object : goal.invariant-loop-object
invariant-loop-object l = record {
  room : length l.objects ≤ spare l.newest + l.object-index;
  same : with_all_newer l.newest.entries (drop l.object-index l.objects) ≡ with_all_newer l.fn.newest.entries l.objects;
}
