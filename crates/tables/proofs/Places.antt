-- Places of rows, in lists that grow at their end.
use Rattle.std.proofs.Common.{◌≡◌, ◌∙◌, ap, sym, refl, ℕ, suc, ◌+◌, Bool, true, false, cond, not, List, [], ◌∷◌, ◌++◌, length, Option, Some, None, is_some, option_map, nat_lt, arith}
use Rattle.std.specs.Prelude.{position, find, slice_get, option_and_then, bytes_eq}
use Rattle.std.specs.List.{position_or_len}
use Rattle.std.specs.Map.{lookup}
use Rattle.std.proofs.lemmas.Slice.Eq.{bytes_eq-Decides}
use Rattle.digest_core.specs.declared.Digest.{Digest}
use Rattle.indexmap.specs.IndexMap.{insert_entry}
use Rattle.tables.proofs.Lookups.{goes_last, lookup_push, or_else}
use Rattle.tables.specs.Tables.{Placed, same_digest, with_place}

-- a place, counted from the start
below_suc : (p n : ℕ) → nat_lt (1 + p) (suc n) ≡ nat_lt p n
below_suc p n = grind arith

place_at : (b : Bool) (p n : ℕ)
    → cond (nat_lt (cond (not b) (1 + p) 0) (suc n)) (Some (cond (not b) (1 + p) 0)) None ≡ cond b (Some 0) (option_map suc (cond (nat_lt p n) (Some p) None))
place_at true p n = ap (λ b. cond b (Some 0) None) (first n)
  where
    first : (m : ℕ) → nat_lt 0 (suc m) ≡ true
    first m = grind arith
place_at false p n = ap (λ b. cond b (Some (1 + p)) None) (below_suc p n) ∙ by (nat_lt p n)
  where
    by : (b : Bool) → cond b (Some (1 + p)) None ≡ option_map suc (cond b (Some p) None)
    by true = ap Some (omega arith)
    by false = refl

place : {T : Type 0} → (test : T → Bool) (y : T) (ys : List T) → position test (y ∷ ys) ≡ cond (test y) (Some 0) (option_map suc (position test ys))
place test y ys = place_at (test y) (position_or_len test ys) (length ys)

pub position_push : {T : Type 0} → (test : T → Bool) (xs : List T) (x : T) → position test (xs ++ x ∷ []) ≡ or_else (position test xs) (cond (test x) (Some (length xs)) None)
position_push test [] x = place test x []
position_push test (y ∷ ys) x =
    place test y (ys ++ x ∷ [])
    ∙ ap (λ o. cond (test y) (Some 0) (option_map suc o)) (position_push test ys x)
    ∙ by (test y) (position test ys) (test x) (length ys)
    ∙ sym (ap (λ o. or_else o (cond (test x) (Some (length (y ∷ ys))) None)) (place test y ys))
  where
    by : (b : Bool) (o : Option ℕ) (t : Bool) (n : ℕ)
        → cond b (Some 0) (option_map suc (or_else o (cond t (Some n) None))) ≡ or_else (cond b (Some 0) (option_map suc o)) (cond t (Some (suc n)) None)
    by true o t n = refl
    by false (Some i) t n = refl
    by false None true n = refl
    by false None false n = refl

-- what stands at the first place is what is found
pub found : {T : Type 0} → (test : T → Bool) (xs : List T) → option_and_then (slice_get xs) (position test xs) ≡ find test xs
found test [] = refl
found test (y ∷ ys) =
    ap (option_and_then (slice_get (y ∷ ys))) (place test y ys) ∙ by (test y) (position test ys) ∙ ap (cond (test y) (Some y)) (found test ys)
  where
    by : (b : Bool) (o : Option ℕ) → option_and_then (slice_get (y ∷ ys)) (cond b (Some 0) (option_map suc o)) ≡ cond b (Some y) (option_and_then (slice_get ys) o)
    by true o = refl
    by false None = refl
    by false (Some i) = refl

-- a row at a place that was found, and none if no place was found
pub got : {T : Type 0} → (test : T → Bool) (xs : List T) (i : ℕ) (r : Option T) → Some i ≡ position test xs → r ≡ slice_get xs i → r ≡ find test xs
got test xs i r at is = is ∙ ap (option_and_then (slice_get xs)) at ∙ found test xs

pub missed : {T : Type 0} → (test : T → Bool) (xs : List T) → None ≡ position test xs → None ≡ find test xs
missed test xs at = ap (option_and_then (slice_get xs)) at ∙ found test xs

-- one more row, and its place
module _ {K T : Type 0} (same : K → K → Bool) (one : (a b : K) → same a b ≡ true → a ≡ b) (key : T → K) where
  keeps : (es : List (K × ℕ)) (x : T) (n : ℕ) (k : K) → lookup (same k) (with_place same es (key x) n) ≡ or_else (lookup (same k) es) (cond (same k (key x)) (Some n) None)
  keeps es x n k = by (lookup (same (key x)) es) refl
    where
      there : (m : ℕ) → lookup (same (key x)) es ≡ Some m → (b : Bool) → same k (key x) ≡ b → lookup (same k) es ≡ or_else (lookup (same k) es) (cond b (Some n) None)
      there m is true h =
          let at : lookup (same k) es ≡ Some m = ap (λ q. lookup (same q) es) (one k (key x) h) ∙ is in
          at ∙ sym (ap (λ o. or_else o (Some n)) at)
      there m is false h = none (lookup (same k) es)
        where
          none : (o : Option ℕ) → o ≡ or_else o None
          none None = refl
          none (Some i) = refl

      by : (o : Option ℕ) → lookup (same (key x)) es ≡ o → lookup (same k) (with_place same es (key x) n) ≡ or_else (lookup (same k) es) (cond (same k (key x)) (Some n) None)
      by None is = ap (λ o. lookup (same k) (cond (is_some o) es (es ++ (key x, n) ∷ []))) is ∙ lookup_push (same k) es (key x) n
      by (Some m) is =
          ap (λ o. lookup (same k) (cond (is_some o) es (es ++ (key x, n) ∷ []))) is
          ∙ there m is (same k (key x)) refl

  pub placed_more : (xs ys : List T) (es : List (K × ℕ)) {fs : List (K × ℕ)} {k : K} {n : ℕ} (x : T)
      → Placed same key xs es → fs ≡ with_place same es k n → k ≡ key x → n ≡ length xs → ys ≡ xs ++ x ∷ [] → Placed same key ys fs
  placed_more xs ys es {fs} {k} {n} x placed puts at last adds q =
      ap (lookup (same q)) puts
      ∙ ap (λ j. lookup (same q) (with_place same es j n)) at
      ∙ keeps es x n q
      ∙ ap (λ m. or_else (lookup (same q) es) (cond (same q (key x)) (Some m) None)) last
      ∙ ap (λ o. or_else o (cond (same q (key x)) (Some (length xs)) None)) (placed q)
      ∙ sym (position_push (λ row. same q (key row)) xs x)
      ∙ sym (ap (position (λ row. same q (key row))) adds)

pub name_one : (a b : List ℕ) → bytes_eq a b ≡ true → a ≡ b
name_one a b h = (bytes_eq-Decides a b).0 h

pub digest_one : (a b : Digest) → same_digest a b ≡ true → a ≡ b
digest_one a b h = ap (λ (x : List ℕ). let d : Digest = record { 0 = x } in d) (name_one a.0 b.0 h)

-- a new place goes last
pub place_put : (es : List (Digest × ℕ)) (k : Digest) (n : ℕ) → false ≡ is_some (lookup (same_digest k) es) → insert_entry same_digest es k n ≡ with_place same_digest es k n
place_put es k n new = goes_last same_digest es k n (sym new) ∙ sym (ap (λ b. cond b es (es ++ (k, n) ∷ [])) (sym new))
