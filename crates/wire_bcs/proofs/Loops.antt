-- Sequences, one item after another.
use Rattle.std.proofs.Common.{◌≡◌, ℕ, suc, ◌+◌, ◌-◌, ◌<◌, true, List, [], ◌∷◌, ◌++◌, length, get_or, take, drop, Ok, Err, refl, sym, ◌∙◌, ap, subst, arith, append_assoc}
use Rattle.std.specs.Prelude.{flat_map}
use Rattle.std.proofs.lemmas.List.{take-append-drop, drop_more}
use Rattle.std.proofs.lemmas.Grind.{flat_map-append}
use Rattle.wire_bcs.specs.Place.{Place, Read, ◌>>=◌}
use Rattle.wire_bcs.specs.Uleb.{uleb}
use Rattle.wire_bcs.specs.Shapes.{items_read, seq_spell}
use Rattle.wire_bcs.specs.Wrote.{is_part, part_first, part_then}

-- what was read before, and what is still read
abbrev pub with_front : {A : Type 0} → List A → Read (List A) → Read (List A)
with_front front read = read >>= λ x. Ok (front ++ x.0, x.1)

regroup : {A : Type 0} (front : List A) (x : A) (read : Read (List A)) → with_front front (read >>= λ y. Ok (x ∷ y.0, y.1)) ≡ with_front (front ++ x ∷ []) read
regroup {A} front x (Ok y) =
    let found : List A → Read (List A) = λ xs. Ok (xs, y.1) in
    ap found (sym (append_assoc front (x ∷ []) y.0))
regroup front x (Err s) = refl

pub goes_on : {A : Type 0} (one : Place → Read A) (front : List A) (count i : ℕ) (p : Place) (x : A) (q : Place) (total : Read (List A)) → i < count → one p ≡ Ok (x, q)
    → with_front front (items_read one (count - i) p) ≡ total → with_front (front ++ x ∷ []) (items_read one (count - (i + 1)) q) ≡ total
goes_on one front count i p x q total lt e so_far =
    let k : count - i ≡ suc (count - (i + 1)) = omega arith in
    let step : with_front front (items_read one (count - i) p) ≡ with_front (front ++ x ∷ []) (items_read one (count - (i + 1)) q) = rw (k, e) (regroup front x (items_read one (count - (i + 1)) q)) in
    sym step ∙ so_far

-- ---- writing

pub parts_of : {A : Type 0} (spell : A → List ℕ) (xs : List A) (i : ℕ) (x : A) → i < length xs → x ≡ get_or xs i x
    → flat_map spell xs ≡ flat_map spell (take i xs) ++ (spell x ++ flat_map spell (drop (i + 1) xs))
parts_of {A} spell xs i x lt e =
    let rest : drop i xs ≡ x ∷ drop (i + 1) xs = drop_more xs i x lt ∙ ap (λ (y : A). y ∷ drop (i + 1) xs) (sym e) in
    let whole : xs ≡ take i xs ++ (x ∷ drop (i + 1) xs) = sym (take-append-drop i xs) ∙ ap (λ (ys : List A). take i xs ++ ys) rest in
    ap (flat_map spell) whole ∙ flat_map-append spell (take i xs) (x ∷ drop (i + 1) xs)

pub part_of : {A : Type 0} (spell : A → List ℕ) (xs : List A) (i : ℕ) (x : A) (old new : List ℕ) → i < length xs → x ≡ get_or xs i x
    → is_part (old ++ (uleb (length xs) ++ flat_map spell (take i xs))) new (spell x) ≡ true → is_part old new (seq_spell spell xs) ≡ true
unfolding seq_spell
part_of {A} spell xs i x old new lt e h =
    let front = uleb (length xs) ++ flat_map spell (take i xs) in
    let more = part_first (old ++ front) new (spell x) (flat_map spell (drop (i + 1) xs)) h in
    let all = part_then old new front (spell x ++ flat_map spell (drop (i + 1) xs)) more in
    let same : front ++ (spell x ++ flat_map spell (drop (i + 1) xs)) ≡ uleb (length xs) ++ flat_map spell xs
    = append_assoc (uleb (length xs)) (flat_map spell (take i xs)) (spell x ++ flat_map spell (drop (i + 1) xs)) ∙ ap (λ (t : List ℕ). uleb (length xs) ++ t) (sym (parts_of spell xs i x lt e)) in
    subst (λ (t : List ℕ). is_part old new t ≡ true) same all
