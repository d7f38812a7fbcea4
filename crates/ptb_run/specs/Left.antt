-- What left a block, by id: the first object of each; and what an object is at the end of the block.
use Rattle.std.specs.Prelude.{ℕ, List, [], ◌∷◌, ◌++◌, is_some, Option, Some, None, option_map, if◌then◌else◌}
use Rattle.std.specs.Map.{lookup}
use Rattle.chain_types.specs.declared.objects.ObjectId.{ObjectId}
use Rattle.chain_types.specs.declared.objects.Object.{Object}
use Rattle.chain_types.specs.Equal.{id_eq}
use Rattle.protocol_spec.specs.declared.pieces.Item.{Item}
use Rattle.protocol_spec.specs.declared.pieces.Placed.{Placed}
use Rattle.protocol_spec.specs.Block.Block.{Block, value_in}
use Rattle.protocol_spec.specs.Block.Commands.{piece_of}
use Rattle.protocol_spec.specs.Block.Execution.{object_at}
use Rattle.ptb_run.specs.declared.written.Moved.{Moved}
use Rattle.ptb_run.specs.Values.{spot_of}

abbrev pub Left : Type 0
Left = List (ObjectId × Placed)

abbrev pub with_first : Left → Placed → Left
with_first left p = if is_some (lookup (id_eq p.item.id) left) then left else left ++ (p.item.id, p) ∷ []

-- the map, and after it the first object of each id that it lacks
abbrev pub firsts_after : Left → List Placed → Left
firsts_after left [] = left
firsts_after left (p ∷ rest) = firsts_after (with_first left p) rest

abbrev pub object_left : ℕ → Left → ObjectId → Option Object
object_left version left id = option_map (λ (p : Placed). object_at version p.owner p.item) (lookup (id_eq id) left)

abbrev pub object_now : ℕ → Left → Object → Option Item → Option Object
object_now version left o (Some item) = Some (object_at version o.owner item)
object_now version left o None = object_left version left o.id

abbrev pub moved_now : ℕ → Left → Block → Moved → Option Object
moved_now version left b m = object_now version left m.object (piece_of (value_in (spot_of m.spot) b.slots))
