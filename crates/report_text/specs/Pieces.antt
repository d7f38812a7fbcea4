-- The bytes of one piece of a line: a text, a name, or a number in decimal digits.
use Rattle.std.specs.Prelude.{ℕ, List, decimal}
use Rattle.report_text.specs.declared.pieces.Piece.{Piece}
use Rattle.report_text.specs.declared.pieces.Piece.TheVariants as piece

abbrev pub piece_text : Piece → List ℕ
piece_text (piece.Text text) = text.now
piece_text (piece.Name name) = name.now
piece_text (piece.Number n) = decimal n
piece_text (piece.Wide n) = decimal n
