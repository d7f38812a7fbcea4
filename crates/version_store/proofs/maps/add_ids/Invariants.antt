use Rattle.std.proofs.Common.{◌≡◌, ◌+◌, ◌≤◌, length, drop}
use Rattle.indexmap.specs.IndexSet.{insert_all, spare}
use Rattle.chain_types.specs.Equal.{id_eq}
use Rattle.version_store.proofs.maps.add_ids.Given as goal

-- there is room for what is left, and marking it gives what marking all gives
abbrev pub invariant-loop-id : goal.invariant-loop-id
invariant-loop-id l = record {
  room : length l.ids ≤ spare l.deleted + l.id-index;
  same : insert_all id_eq l.deleted.keys (drop l.id-index l.ids) ≡ insert_all id_eq l.fn.deleted.keys l.ids;
}
