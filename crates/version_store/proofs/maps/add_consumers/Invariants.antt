use Rattle.std.proofs.Common.{◌≡◌, ◌+◌, ◌≤◌, length, drop}
use Rattle.indexmap.specs.IndexMap.{spare}
use Rattle.version_store.specs.Steps.{with_consumers}
use Rattle.version_store.proofs.maps.add_consumers.Given as goal

-- there is room for what is left, and adding it gives what adding all gives
abbrev pub invariant-loop-key : goal.invariant-loop-key
invariant-loop-key l = record {
  room : length l.keys ≤ spare l.consumers + l.key-index;
  same : with_consumers l.tx l.consumers.entries (drop l.key-index l.keys) ≡ with_consumers l.tx l.fn.consumers.entries l.keys;
}
