-- The ids that lines name or draw, one line after the other.
use Rattle.std.specs.Prelude.{ℕ, List, ◌++◌, fold, map}
use Rattle.digest_core.specs.declared.Digest.{Digest}
use Rattle.digest_core.specs.Tagged.{created_id_of}
use Rattle.protocol_spec.specs.Chain.Words.{numbers_below}
use Rattle.world_spec.specs.World.{Drawn}
use Rattle.world_spec.specs.Names.{drawn_as}
use Rattle.world_lines.specs.declared.rows.DrawnRow.{DrawnRow}
use Rattle.world_lines.specs.declared.drawn.DrawnWord.{DrawnWord}
use Rattle.world_lines.specs.declared.drawn.LineIds.{LineIds}

abbrev pub row_as : Digest → ℕ → DrawnRow
row_as tx number = record { id = record { 0 = created_id_of tx number }; tx = tx; number = number }

-- what a word like `T.3` names: as a row of the table, and as the definition has it
abbrev pub word_row : DrawnWord → DrawnRow
word_row w = row_as w.tx w.number

abbrev pub word_drawn : DrawnWord → Drawn
word_drawn w = drawn_as w.tx w.number

-- the ids of a line: those of its words, then those of its transaction's first creation numbers
abbrev pub line_rows : LineIds → List DrawnRow
line_rows l = map word_row l.words.items ++ map (row_as l.tx) (numbers_below l.count)

-- these rows, followed by the rows of these lines
abbrev pub all_rows : List DrawnRow → List LineIds → List DrawnRow
all_rows rows lines = fold (λ done l. done ++ line_rows l) rows lines
