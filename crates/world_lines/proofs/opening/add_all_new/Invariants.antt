use Rattle.std.proofs.Common.{◌≡◌, drop, map}
use Rattle.std.specs.Prelude.{fold}
use Rattle.world_spec.specs.Setting.{with_new}
use Rattle.world_lines.specs.Openings.{object_id}
use Rattle.world_lines.proofs.opening.add_all_new.Given as goal

-- the objects that are left add what is missing, and the ids are those of the objects
abbrev pub invariant-loop-object : goal.invariant-loop-object
invariant-loop-object l =
    (fold with_new l.kept.items (drop l.object-index l.objects) ≡ fold with_new l.fn.kept.items l.objects)
    × (l.seen.keys ≡ map object_id l.kept.items)
