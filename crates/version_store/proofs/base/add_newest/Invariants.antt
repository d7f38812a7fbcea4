use Rattle.std.proofs.Common.{◌≡◌, ◌≤◌, length}
use Rattle.indexmap.specs.IndexMap.{spare, values}
use Rattle.version_store.specs.Steps.{with_all_newer}
use Rattle.version_store.proofs.base.add_newest.Given as goal

-- there is room for what is left, and adding it gives what adding all gives
abbrev pub invariant-loop-object : goal.invariant-loop-object
invariant-loop-object l = record {
  room : length l.object-iterator ≤ spare l.base;
  same : with_all_newer l.base.entries l.object-iterator ≡ with_all_newer l.fn.base.entries (values l.newest);
}
