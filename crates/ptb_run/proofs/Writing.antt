-- A write to a place of the list is one to the code's rows.
use Rattle.std.proofs.Common.{◌≡◌, ℕ, zero, suc, ◌+◌, ◌<◌, ◌≤◌, true, false, List, [], ◌∷◌, ◌++◌, length, Option, Some, refl, sym, ap, ◌∙◌, arith}
use Rattle.std.specs.Prelude.{◌==◌, slice_get, slice_set, slice_index_or}
use Rattle.ptb_run.specs.declared.value.Value.{Value}
use Rattle.ptb_run.specs.declared.slots.Slots.{Slots}
use Rattle.protocol_spec.specs.Block.Block as block
use Rattle.std.proofs.lemmas.Option.{slice_get_read}
use Rattle.ptb_run.specs.declared.value.Spot.{Spot}
use Rattle.ptb_run.specs.declared.value.Spot.TheVariants as spots
use Rattle.ptb_run.specs.Values.{held, spot_of}
use Rattle.ptb_run.specs.Slots.{input_row, result_row, result_rows, all_slots, slots_of}
use Rattle.ptb_run.proofs.SameNumber.{same_number, other_number}

put_here : (p : block.Place) (x : Option block.Value) (s : block.Slot) (rest : List block.Slot) → block.place_eq s.place p ≡ true → block.put_in p x (s ∷ rest) ≡ record s { value = x } ∷ rest
put_here p x s rest e = rw e

put_past : (p : block.Place) (x : Option block.Value) (s : block.Slot) (rest : List block.Slot) → block.place_eq s.place p ≡ false → block.put_in p x (s ∷ rest) ≡ s ∷ block.put_in p x rest
put_past p x s rest e = rw e

-- results
other_row : (c d k : ℕ) (x : Option block.Value) → (d == c) ≡ false → (j : ℕ) (row : List (Option Value)) (rest : List block.Slot)
    → block.put_in (block.result c k) x (result_row d j row ++ rest) ≡ result_row d j row ++ block.put_in (block.result c k) x rest
other_row c d k x e j [] rest = refl
other_row c d k x e j (v ∷ row) rest =
    put_past (block.result c k) x (record { place = block.result d j; value = held v }) (result_row d (j + 1) row ++ rest) (rw e)
    ∙ ap (λ (l : List block.Slot). record { place = block.result d j; value = held v } ∷ l) (other_row c d k x e (j + 1) row rest)

own_row : (c k j i : ℕ) (v : Option Value) → k ≡ j + i → (row : List (Option Value)) (rest : List block.Slot) → block.put_in (block.result c k) (held v) rest ≡ rest
    → block.put_in (block.result c k) (held v) (result_row c j row ++ rest) ≡ result_row c j (slice_set row i v) ++ rest
own_row c k j i v e [] rest none = none
own_row c k j zero v e (w ∷ row) rest none =
    put_here (block.result c k) (held v) (record { place = block.result c j; value = held w }) (result_row c (j + 1) row ++ rest) (rw (same_number c c refl, same_number j k (omega arith)))
own_row c k j (suc i) v e (w ∷ row) rest none =
    put_past (block.result c k) (held v) (record { place = block.result c j; value = held w }) (result_row c (j + 1) row ++ rest) (rw (same_number c c refl, other_number j k (omega arith)))
    ∙ ap (λ (l : List block.Slot). record { place = block.result c j; value = held w } ∷ l) (own_row c k (j + 1) i v (omega arith) row rest none)

none_below : (c k d : ℕ) (x : Option block.Value) → c < d → (rows : List (List (Option Value))) → block.put_in (block.result c k) x (result_rows d rows) ≡ result_rows d rows
none_below c k d x low [] = refl
none_below c k d x low (row ∷ rows) =
    other_row c d k x (other_number d c (omega arith)) 0 row (result_rows (d + 1) rows)
    ∙ ap (λ (l : List block.Slot). result_row d 0 row ++ l) (none_below c k (d + 1) x (omega arith) rows)

in_rows : (c k d i : ℕ) (v : Option Value) → c ≡ d + i → (rows : List (List (Option Value))) (row : List (Option Value)) → slice_get rows i ≡ Some row
    → block.put_in (block.result c k) (held v) (result_rows d rows) ≡ result_rows d (slice_set rows i (slice_set row k v))
in_rows c k d i v e [] row there = absurd (cc)
in_rows c k d zero v e (first ∷ rows) row there =
    let same : d ≡ c = omega arith in
    let is : first ≡ row = cc in
    ap (λ (n : ℕ). block.put_in (block.result c k) (held v) (result_row n 0 first ++ result_rows (d + 1) rows)) same
    ∙ own_row c k 0 k v (omega arith) first (result_rows (d + 1) rows) (none_below c k (d + 1) (held v) (omega arith) rows)
    ∙ ap (λ (n : ℕ). result_row n 0 (slice_set first k v) ++ result_rows (d + 1) rows) (sym same)
    ∙ ap (λ (r : List (Option Value)). result_row d 0 (slice_set r k v) ++ result_rows (d + 1) rows) is
in_rows c k d (suc i) v e (first ∷ rows) row there =
    other_row c d k (held v) (other_number d c (omega arith)) 0 first (result_rows (d + 1) rows)
    ∙ ap (λ (l : List block.Slot). result_row d 0 first ++ l) (in_rows c k (d + 1) i v (omega arith) rows row there)

not_in_rows : (c k d i : ℕ) (x : Option block.Value) → c ≡ d + i → (rows : List (List (Option Value))) → length rows ≤ i → block.put_in (block.result c k) x (result_rows d rows) ≡ result_rows d rows
not_in_rows c k d i x e [] past = refl
not_in_rows c k d zero x e (row ∷ rows) past = absurd (omega arith)
not_in_rows c k d (suc i) x e (row ∷ rows) past =
    other_row c d k x (other_number d c (omega arith)) 0 row (result_rows (d + 1) rows)
    ∙ ap (λ (l : List block.Slot). result_row d 0 row ++ l) (not_in_rows c k (d + 1) i x (omega arith) rows (omega arith))

past_inputs : (c k n : ℕ) (x : Option block.Value) (vs : List (Option Value)) (rest : List block.Slot) → block.put_in (block.result c k) x (input_row n vs ++ rest) ≡ input_row n vs ++ block.put_in (block.result c k) x rest
past_inputs c k n x [] rest = refl
past_inputs c k n x (v ∷ vs) rest = ap (λ (l : List block.Slot). record { place = block.input n; value = held v } ∷ l) (past_inputs c k (n + 1) x vs rest)

-- inputs
past_row : (m d j : ℕ) (x : Option block.Value) (row : List (Option Value)) (rest : List block.Slot) → block.put_in (block.input m) x (result_row d j row ++ rest) ≡ result_row d j row ++ block.put_in (block.input m) x rest
past_row m d j x [] rest = refl
past_row m d j x (v ∷ row) rest = ap (λ (l : List block.Slot). record { place = block.result d j; value = held v } ∷ l) (past_row m d (j + 1) x row rest)

past_rows : (m d : ℕ) (x : Option block.Value) (rows : List (List (Option Value))) → block.put_in (block.input m) x (result_rows d rows) ≡ result_rows d rows
past_rows m d x [] = refl
past_rows m d x (row ∷ rows) = past_row m d 0 x row (result_rows (d + 1) rows) ∙ ap (λ (l : List block.Slot). result_row d 0 row ++ l) (past_rows m (d + 1) x rows)

in_inputs : (m n i : ℕ) (v : Option Value) → m ≡ n + i → (vs : List (Option Value)) (rows : List (List (Option Value)))
    → block.put_in (block.input m) (held v) (input_row n vs ++ result_rows 0 rows) ≡ input_row n (slice_set vs i v) ++ result_rows 0 rows
in_inputs m n i v e [] rows = past_rows m 0 (held v) rows
in_inputs m n zero v e (w ∷ vs) rows =
    put_here (block.input m) (held v) (record { place = block.input n; value = held w }) (input_row (n + 1) vs ++ result_rows 0 rows) (same_number n m (omega arith))
in_inputs m n (suc i) v e (w ∷ vs) rows =
    put_past (block.input m) (held v) (record { place = block.input n; value = held w }) (input_row (n + 1) vs ++ result_rows 0 rows) (other_number n m (omega arith))
    ∙ ap (λ (l : List block.Slot). record { place = block.input n; value = held w } ∷ l) (in_inputs m (n + 1) i v (omega arith) vs rows)

pub gas_put : (s : Slots) (v : Option Value) → slots_of (record s { gas = v }) ≡ block.put_in block.gas (held v) (slots_of s)
unfolding slots_of
gas_put s v = refl

pub input_put : (s : Slots) (m : ℕ) (v : Option Value) → slots_of (record s { inputs = slice_set s.inputs m v }) ≡ block.put_in (block.input m) (held v) (slots_of s)
unfolding slots_of
input_put s m v = ap (λ (l : List block.Slot). record { place = block.gas; value = held s.gas } ∷ l) (sym (in_inputs m 0 m v (omega arith) s.inputs s.results.items))

pub result_put : (s t : Slots) (c k : ℕ) (v : Option Value) (row : List (Option Value)) → slice_get s.results.items c ≡ Some row
    → t.gas ≡ s.gas → t.inputs ≡ s.inputs → t.results.items ≡ slice_set s.results.items c (slice_set row k v)
    → slots_of t ≡ block.put_in (block.result c k) (held v) (slots_of s)
unfolding slots_of
result_put s t c k v row there same_gas same_inputs is =
    ap (λ (g : Option Value). all_slots g t.inputs t.results.items) same_gas
    ∙ ap (λ (i : List (Option Value)). all_slots s.gas i t.results.items) same_inputs
    ∙ ap (λ (r : List (List (Option Value))). all_slots s.gas s.inputs r) is
    ∙ ap (λ (l : List block.Slot). record { place = block.gas; value = held s.gas } ∷ l)
    (sym (past_inputs c k 0 (held v) s.inputs (result_rows 0 s.results.items) ∙ ap (λ (l : List block.Slot). input_row 0 s.inputs ++ l) (in_rows c k 0 c v (omega arith) s.results.items row there)))

pub row_put : (s t : Slots) (p : Spot) (c k : ℕ) (v : Option Value) (row changed : List (Option Value)) → p ≡ spots.Result c k → c < length s.results.items → row ≡ slice_index_or s.results.items c row
    → changed ≡ slice_set row k v → t.gas ≡ s.gas → t.inputs ≡ s.inputs → t.results.items ≡ slice_set s.results.items c changed
    → slots_of t ≡ block.put_in (spot_of p) (held v) (slots_of s)
row_put s t p c k v row changed at low is set same_gas same_inputs rows =
    result_put s t c k v row (slice_get_read s.results.items (length s.results.items) c row refl low is) same_gas same_inputs (rows ∙ ap (λ (r : List (Option Value)). slice_set s.results.items c r) set)
    ∙ ap (λ (q : Spot). block.put_in (spot_of q) (held v) (slots_of s)) (sym at)

pub no_result_put : (s : Slots) (c k : ℕ) (x : Option block.Value) → length s.results.items ≤ c → slots_of s ≡ block.put_in (block.result c k) x (slots_of s)
unfolding slots_of
no_result_put s c k x past =
    ap (λ (l : List block.Slot). record { place = block.gas; value = held s.gas } ∷ l)
    (sym (past_inputs c k 0 x s.inputs (result_rows 0 s.results.items) ∙ ap (λ (l : List block.Slot). input_row 0 s.inputs ++ l) (not_in_rows c k 0 c x (omega arith) s.results.items past)))
