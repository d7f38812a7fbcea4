use Rattle.std.proofs.Common.{◌≡◌, ◌++◌, take}
use Rattle.std.specs.List.{flat_map}
use Rattle.light_check.specs.Said.{piece_text}
use Rattle.light_check.proofs.said.print.Given as goal

abbrev pub invariant-loop-piece : goal.invariant-loop-piece
invariant-loop-piece l = l.text ≡ l.fn.text ++ flat_map piece_text (take l.piece-index l.pieces)
