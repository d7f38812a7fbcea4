use Rattle.std.proofs.Common.{◌≡◌, None, if◌then◌else◌}
use Rattle.std.specs.List.{list_any}
use Rattle.std.specs.Map.{lookup}
use Rattle.chain_types.specs.declared.objects.ObjectId.{ObjectId}
use Rattle.chain_types.specs.Equal.{id_eq}
use Rattle.version_store.proofs.base.take_out.Given as goal

-- if what is left is taken out too, all are
abbrev pub invariant-loop-id : goal.invariant-loop-id
invariant-loop-id l =
    (id : ObjectId) → (if list_any (id_eq id) l.id-iterator then None else lookup (id_eq id) l.base.entries)
    ≡ (if list_any (id_eq id) l.ids.keys then None else lookup (id_eq id) l.fn.base.entries)
