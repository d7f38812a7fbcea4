-- Texts of bytes that pass a test: cut at a byte that fails it, split there, and joined.
use Rattle.std.proofs.Common.{◌≡◌, ◌==◌, ℕ, zero, suc, ◌+◌, ◌-◌, ◌<◌, Bool, true, false, List, [], ◌∷◌, ◌++◌, length, take, drop, get_or, slice_index, nat_lt, Some, None, refl, ap, ◌∙◌, subst, arith, append-nil, add-one}
use Rattle.std.proofs.lemmas.Bool.{and_parts, and_from, and_right, false_from_ne_true, both_ways, eqb-true, eq-eqb, lt-ltb, le-ltb}
use Rattle.std.proofs.lemmas.List.Folds.{list_all-append}
use Rattle.std.proofs.lemmas.List.Splits.{slice_split-cons_yes, slice_split-cons_no}
use Rattle.std.specs.List.{list_all, slice_split, onto_first, position_or_len, join_with_byte}
use Rattle.schedule_text.specs.Bytes.{cut_at, has_mark, without_mark}
use Rattle.run_law.specs.Canonical.{sign}

-- every byte passes
abbrev pub Passes : (ℕ → Bool) → List ℕ → Type 0
Passes p xs = list_all p xs ≡ true

-- every byte of each word passes
abbrev pub EachPasses : (ℕ → Bool) → List (List ℕ) → Type 0
EachPasses p words = list_all (λ w. list_all p w) words ≡ true

pub wider : (p q : ℕ → Bool) → ((b : ℕ) → p b ≡ true → q b ≡ true) → (xs : List ℕ) → Passes p xs → Passes q xs
wider p q f [] h = refl
wider p q f (x ∷ xs) h =
    let hs = and_parts (p x) (list_all p xs) h in
    and_from (q x) (list_all q xs) (f x hs.0) (wider p q f xs hs.1)

pub passes-append : (p : ℕ → Bool) (xs ys : List ℕ) → Passes p xs → Passes p ys → Passes p (xs ++ ys)
passes-append p xs ys hx hy = list_all-append p xs ys ∙ and_from (list_all p xs) (list_all p ys) hx hy

-- a byte that passes is not one that fails
other : (p : ℕ → Bool) (c b : ℕ) → p c ≡ false → p b ≡ true → (b == c) ≡ false
other p c b fails fine = false_from_ne_true (b == c) (λ e. both_ways (p c) fails (subst (λ (x : ℕ). p x ≡ true) (eqb-true b c e) fine))

-- ---- the first place of a byte

module _ (p : ℕ → Bool) (c : ℕ) (fails : p c ≡ false) where
  at_end : (xs : List ℕ) → Passes p xs → position_or_len (λ b. b == c) xs ≡ length xs
  at_end [] h = refl
  at_end (x ∷ xs) h =
      let hs = and_parts (p x) (list_all p xs) h in
      let ih = at_end xs hs.1 in
      rw (other p c x fails hs.0) (omega (arith, ih))

  at_cut : (xs ys : List ℕ) → Passes p xs → position_or_len (λ b. b == c) (xs ++ c ∷ ys) ≡ length xs
  at_cut [] ys h = rw (eq-eqb c c refl) refl
  at_cut (x ∷ xs) ys h =
      let hs = and_parts (p x) (list_all p xs) h in
      let ih = at_cut xs ys hs.1 in
      rw (other p c x fails hs.0) (omega (arith, ih))

take_front : (xs ys : List ℕ) → take (length xs) (xs ++ ys) ≡ xs
take_front [] ys = refl
take_front (x ∷ xs) ys = ap (λ t. x ∷ t) (take_front xs ys)

drop_front : (c : ℕ) (xs ys : List ℕ) → drop (suc (length xs)) (xs ++ c ∷ ys) ≡ ys
drop_front c [] ys = refl
drop_front c (x ∷ xs) ys = drop_front c xs ys

length-front : (c : ℕ) (xs ys : List ℕ) → length (xs ++ c ∷ ys) ≡ length xs + suc (length ys)
length-front c [] ys = omega arith
length-front c (x ∷ xs) ys = let ih = length-front c xs ys in omega (arith, ih)

pub cut_yes : (p : ℕ → Bool) (c : ℕ) → p c ≡ false → (xs ys : List ℕ) → Passes p xs → cut_at c (xs ++ c ∷ ys) ≡ Some (xs, ys)
unfolding cut_at
cut_yes p c fails xs ys h =
    let at = at_cut p c fails xs ys h in
    let long = length-front c xs ys in
    let low = lt-ltb (length xs) (length (xs ++ c ∷ ys)) (omega (arith, long)) in
    rw (at, low, take_front xs (c ∷ ys), add-one, drop_front c xs ys) refl

pub cut_no : (p : ℕ → Bool) (c : ℕ) → p c ≡ false → (xs : List ℕ) → Passes p xs → cut_at c xs ≡ None
unfolding cut_at
cut_no p c fails xs h =
    let at = at_end p c fails xs h in
    let high = le-ltb (length xs) (length xs) (omega arith) in
    rw (at, high) refl

-- ---- the parts between bytes

pub split_yes : (p : ℕ → Bool) (c : ℕ) → p c ≡ false → (xs ys : List ℕ) → Passes p xs → slice_split (λ b. b == c) (xs ++ c ∷ ys) ≡ xs ∷ slice_split (λ b. b == c) ys
split_yes p c fails [] ys h = slice_split-cons_yes (λ b. b == c) c ys (eq-eqb c c refl)
split_yes p c fails (x ∷ xs) ys h =
    let hs = and_parts (p x) (list_all p xs) h in
    slice_split-cons_no (λ b. b == c) x (xs ++ c ∷ ys) (other p c x fails hs.0) ∙ ap (onto_first x) (split_yes p c fails xs ys hs.1)

pub split_no : (p : ℕ → Bool) (c : ℕ) → p c ≡ false → (xs : List ℕ) → Passes p xs → slice_split (λ b. b == c) xs ≡ xs ∷ []
split_no p c fails [] h = refl
split_no p c fails (x ∷ xs) h =
    let hs = and_parts (p x) (list_all p xs) h in
    slice_split-cons_no (λ b. b == c) x xs (other p c x fails hs.0) ∙ ap (onto_first x) (split_no p c fails xs hs.1)

-- what is joined is split into the same words
pub split_join : (p : ℕ → Bool) (c : ℕ) → p c ≡ false → (w : List ℕ) (ws : List (List ℕ)) → EachPasses p (w ∷ ws)
    → slice_split (λ b. b == c) (join_with_byte c (w ∷ ws)) ≡ w ∷ ws
split_join p c fails w [] h = let hs = and_parts (list_all p w) true h in split_no p c fails w hs.0
split_join p c fails w (v ∷ ws) h =
    let hs = and_parts (list_all p w) (list_all (λ w. list_all p w) (v ∷ ws)) h in
    split_yes p c fails w (join_with_byte c (v ∷ ws)) hs.0 ∙ ap (λ t. w ∷ t) (split_join p c fails v ws hs.1)

-- what is joined of words that pass passes a wider test
pub passes-join : (p q : ℕ → Bool) → ((b : ℕ) → p b ≡ true → q b ≡ true) → (c : ℕ) → q c ≡ true → (ws : List (List ℕ)) → EachPasses p ws → Passes q (join_with_byte c ws)
passes-join p q f c fine [] h = refl
passes-join p q f c fine (w ∷ []) h = let hs = and_parts (list_all p w) true h in wider p q f w hs.0
passes-join p q f c fine (w ∷ v ∷ ws) h =
    let hs = and_parts (list_all p w) (list_all (λ w. list_all p w) (v ∷ ws)) h in
    passes-append q w (c ∷ join_with_byte c (v ∷ ws)) (wider p q f w hs.0)
    (and_from (q c) (list_all q (join_with_byte c (v ∷ ws))) fine (passes-join p q f c fine (v ∷ ws) hs.1))

-- ---- a byte at the end

index_passes : (p : ℕ → Bool) (xs : List ℕ) (i : ℕ) → i < length xs → Passes p xs → p (get_or xs i 0) ≡ true
index_passes p [] i low h = absurd (omega arith)
index_passes p (x ∷ xs) zero low h = (and_parts (p x) (list_all p xs) h).0
index_passes p (x ∷ xs) (suc i) low h = index_passes p xs i (omega arith) (and_parts (p x) (list_all p xs) h).1

last_is : (c : ℕ) (xs : List ℕ) → get_or (xs ++ c ∷ []) (length xs) 0 ≡ c
last_is c [] = refl
last_is c (x ∷ xs) = last_is c xs

mark_no : (p : ℕ → Bool) (c : ℕ) → p c ≡ false → (xs : List ℕ) → Passes p xs → has_mark c xs ≡ false
unfolding has_mark
mark_no p c fails [] h = refl
mark_no p c fails (x ∷ xs) h =
    and_right (nat_lt 0 (length (x ∷ xs))) (slice_index (x ∷ xs) (length (x ∷ xs) - 1) == c)
    (other p c (get_or (x ∷ xs) (length (x ∷ xs) - 1) 0) fails (index_passes p (x ∷ xs) (length (x ∷ xs) - 1) (omega arith) h))

mark_yes : (c : ℕ) (xs : List ℕ) → has_mark c (xs ++ c ∷ []) ≡ true
unfolding has_mark
mark_yes c xs =
    let long = length-front c xs [] in
    let low = lt-ltb 0 (length (xs ++ c ∷ [])) (omega (arith, long)) in
    let at : length (xs ++ c ∷ []) - 1 ≡ length xs = omega (arith, long) in
    rw (low, at, last_is c xs) (eq-eqb c c refl)

-- the mark that stands after a word only if it is said
pub mark_read : (p : ℕ → Bool) (c : ℕ) → p c ≡ false → (xs : List ℕ) (b : Bool) → Passes p xs → has_mark c (xs ++ sign b (c ∷ [])) ≡ b
mark_read p c fails xs true h = mark_yes c xs
mark_read p c fails xs false h = ap (has_mark c) (append-nil xs) ∙ mark_no p c fails xs h

pub mark_taken : (p : ℕ → Bool) (c : ℕ) → p c ≡ false → (xs : List ℕ) (b : Bool) → Passes p xs → without_mark c (xs ++ sign b (c ∷ [])) ≡ xs
unfolding without_mark
mark_taken p c fails xs true h =
    let long = length-front c xs [] in
    let at : length (xs ++ c ∷ []) - 1 ≡ length xs = omega (arith, long) in
    rw (mark_yes c xs, at, take_front xs (c ∷ [])) refl
mark_taken p c fails xs false h = rw (append-nil xs, mark_no p c fails xs h) refl
