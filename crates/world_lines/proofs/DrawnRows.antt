-- The ids that lines name or draw: as the definition has them, and the first of an id.
use Rattle.std.proofs.Common.{◌≡◌, ◌∙◌, ap, sym, refl, ℕ, suc, ◌+◌, Bool, List, [], ◌∷◌, ◌++◌, Some, None, map, append_assoc, append-nil, arith}
use Rattle.std.specs.Prelude.{find}
use Rattle.std.specs.Option.{option_or}
use Rattle.std.proofs.lemmas.List.{map-append}
use Rattle.std.proofs.lemmas.List.Folds.{find-append}
use Rattle.digest_core.specs.declared.Digest.{Digest}
use Rattle.protocol_spec.specs.Chain.Words.{numbers_below}
use Rattle.world_spec.specs.Names.{drawn_as}
use Rattle.world_lines.specs.declared.rows.DrawnRow.{DrawnRow}
use Rattle.world_lines.specs.declared.drawn.DrawnWord.{DrawnWord}
use Rattle.world_lines.specs.declared.drawn.LineIds.{LineIds}
use Rattle.world_lines.specs.KnownRows.{drawn_of}
use Rattle.world_lines.specs.Drawn.{all_rows, line_rows, row_as, word_drawn, word_row}
use Rattle.world_lines.specs.Pushed.{each_pushed}
use Rattle.world_lines.proofs.Gathered.{map_push}
use Rattle.world_lines.proofs.Pushed.{all_pushed}

-- no creation number, and one more
pub no_number : (rows : List DrawnRow) (tx : Digest) → rows ≡ rows ++ map (row_as tx) (numbers_below 0)
no_number rows tx = sym (append-nil rows)

pub one_number : (rows : List DrawnRow) (tx : Digest) (n : ℕ) → (rows ++ map (row_as tx) (numbers_below n)) ++ row_as tx n ∷ [] ≡ rows ++ map (row_as tx) (numbers_below (n + 1))
one_number rows tx n =
    append_assoc rows (map (row_as tx) (numbers_below n)) (row_as tx n ∷ [])
    ∙ ap (λ xs. rows ++ xs) (sym (map_push (row_as tx) (numbers_below n) n))
    ∙ ap (λ m. rows ++ map (row_as tx) (numbers_below m)) (next n)
  where
    next : (m : ℕ) → suc m ≡ m + 1
    next m = omega arith

-- one line after what is there
pub line_added : (rows : List DrawnRow) (l : LineIds) → each_pushed word_row rows l.words.items ++ map (row_as l.tx) (numbers_below l.count) ≡ rows ++ line_rows l
line_added rows l =
    ap (λ xs. xs ++ map (row_as l.tx) (numbers_below l.count)) (all_pushed word_row rows l.words.items)
    ∙ append_assoc rows (map word_row l.words.items) (map (row_as l.tx) (numbers_below l.count))

pub line_pushed : (rows : List DrawnRow) (lines : List LineIds) (l : LineIds) → all_rows rows (lines ++ l ∷ []) ≡ all_rows rows lines ++ line_rows l
line_pushed rows [] l = refl
line_pushed rows (m ∷ lines) l = line_pushed (rows ++ line_rows m) lines l

-- what is there stands before the rest
pub all_behind : (rows : List DrawnRow) (lines : List LineIds) → rows ++ all_rows [] lines ≡ all_rows rows lines
all_behind rows [] = append-nil rows
all_behind rows (l ∷ lines) =
    ap (λ xs. rows ++ xs) (sym (all_behind (line_rows l) lines))
    ∙ sym (append_assoc rows (line_rows l) (all_rows [] lines))
    ∙ all_behind (rows ++ line_rows l) lines

same_words : (words : List DrawnWord) → map drawn_of (map word_row words) ≡ map word_drawn words
same_words [] = refl
same_words (w ∷ words) = ap (λ ds. word_drawn w ∷ ds) (same_words words)

same_numbers : (tx : Digest) (numbers : List ℕ) → map drawn_of (map (row_as tx) numbers) ≡ map (drawn_as tx) numbers
same_numbers tx [] = refl
same_numbers tx (n ∷ numbers) = ap (λ ds. drawn_as tx n ∷ ds) (same_numbers tx numbers)

-- the ids of a line, as the definition has them
pub line_drawn : (l : LineIds) → map drawn_of (line_rows l) ≡ map word_drawn l.words.items ++ map (drawn_as l.tx) (numbers_below l.count)
line_drawn l =
    map-append drawn_of (map word_row l.words.items) (map (row_as l.tx) (numbers_below l.count))
    ∙ ap (λ ds. ds ++ map drawn_of (map (row_as l.tx) (numbers_below l.count))) (same_words l.words.items)
    ∙ ap (λ ds. map word_drawn l.words.items ++ ds) (same_numbers l.tx (numbers_below l.count))

-- the first that passes a test is among what is there, else among the rest
found : (test : DrawnRow → Bool) (rows : List DrawnRow) (lines : List LineIds) → option_or (find test rows) (find test (all_rows [] lines)) ≡ find test (all_rows rows lines)
found test rows lines = sym (find-append test rows (all_rows [] lines)) ∙ ap (find test) (all_behind rows lines)

pub found_there : (test : DrawnRow → Bool) (rows : List DrawnRow) (lines : List LineIds) (row : DrawnRow) → Some row ≡ find test rows → Some row ≡ find test (all_rows rows lines)
found_there test rows lines row is = ap (λ o. option_or o (find test (all_rows [] lines))) is ∙ found test rows lines

pub found_behind : (test : DrawnRow → Bool) (rows : List DrawnRow) (lines : List LineIds) → None ≡ find test rows → find test (all_rows [] lines) ≡ find test (all_rows rows lines)
found_behind test rows lines is = ap (λ o. option_or o (find test (all_rows [] lines))) is ∙ found test rows lines
