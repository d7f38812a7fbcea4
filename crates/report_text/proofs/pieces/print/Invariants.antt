use Rattle.std.proofs.Common.{◌≡◌, ◌++◌, take}
use Rattle.std.specs.List.{flat_map}
use Rattle.report_text.specs.Pieces.{piece_text}
use Rattle.report_text.proofs.pieces.print.Given as goal

abbrev pub invariant-loop-piece : goal.invariant-loop-piece
invariant-loop-piece l = l.out ≡ l.fn.out ++ flat_map (piece_text) (take l.piece-index l.pieces)
