-- Entries of maps that keep the order of insertion.
use Rattle.std.proofs.Common.{◌≡◌, Bool, true, false, cond, List, [], ◌∷◌, ◌++◌, Option, Some, None, is_some, map, refl, ap, sym, ◌∙◌}
use Rattle.std.specs.Map.{lookup}
use Rattle.indexmap.specs.IndexMap.{insert_entry}
use Rattle.tables.specs.Named.{Named, named, with_name}
use Rattle.std.specs.Prelude.{ℕ}

module _ {K V : Type 0} (same : K → K → Bool) where
  -- a new key goes last
  pub goes_last : (es : List (K × V)) (k : K) (v : V) → is_some (lookup (same k) es) ≡ false → insert_entry same es k v ≡ es ++ (k, v) ∷ []
  goes_last [] k v none = refl
  goes_last (e ∷ es) k v none = by (same k e.0) refl none (goes_last es k v)
    where
      by : (b : Bool) → same k e.0 ≡ b → is_some (cond b (Some e.1) (lookup (same k) es)) ≡ false → (is_some (lookup (same k) es) ≡ false → insert_entry same es k v ≡ es ++ (k, v) ∷ [])
          → insert_entry same (e ∷ es) k v ≡ (e ∷ es) ++ (k, v) ∷ []
      by true is none more = absurd (cc)
      by false is none more = ap (λ b. cond b ((e.0, v) ∷ es) (e ∷ insert_entry same es k v)) is ∙ ap (λ xs. e ∷ xs) (more none)

clash : true ≡ false → ⊥
clash h = cc

-- a look-up after an insertion
module _ {K V : Type 0} (same : K → K → Bool) (one : (a b : K) → same a b ≡ true → a ≡ b) (self : (a : K) → same a a ≡ true) where
  pub lookup_insert : (es : List (K × V)) (k : K) (v : V) (q : K) → lookup (same q) (insert_entry same es k v) ≡ cond (same q k) (Some v) (lookup (same q) es)
  lookup_insert [] k v q = refl
  lookup_insert (e ∷ es) k v q = by (same k e.0) refl (lookup_insert es k v q)
    where
      by : (b : Bool) → same k e.0 ≡ b → lookup (same q) (insert_entry same es k v) ≡ cond (same q k) (Some v) (lookup (same q) es)
          → lookup (same q) (insert_entry same (e ∷ es) k v) ≡ cond (same q k) (Some v) (cond (same q e.0) (Some e.1) (lookup (same q) es))
      by true is more =
          ap (λ b. lookup (same q) (cond b ((e.0, v) ∷ es) (e ∷ insert_entry same es k v))) is
          ∙ ap (λ x. cond (same q x) (Some v) (lookup (same q) es)) (sym (one k e.0 is))
          ∙ at (same q k) refl
        where
          at : (b : Bool) → same q k ≡ b → cond (same q k) (Some v) (lookup (same q) es) ≡ cond (same q k) (Some v) (cond (same q e.0) (Some e.1) (lookup (same q) es))
          at true h = ap (λ b. cond b (Some v) (lookup (same q) es)) h ∙ sym (ap (λ b. cond b (Some v) (cond (same q e.0) (Some e.1) (lookup (same q) es))) h)
          at false h =
              ap (λ b. cond b (Some v) (lookup (same q) es)) h
              ∙ sym (ap (λ b. cond b (Some e.1) (lookup (same q) es)) (ap (same q) (sym (one k e.0 is)) ∙ h))
              ∙ sym (ap (λ b. cond b (Some v) (cond (same q e.0) (Some e.1) (lookup (same q) es))) h)
      by false is more =
          ap (λ b. lookup (same q) (cond b ((e.0, v) ∷ es) (e ∷ insert_entry same es k v))) is
          ∙ ap (λ x. cond (same q e.0) (Some e.1) x) more
          ∙ swap (same q e.0) (same q k) refl refl
        where
          swap : (b c : Bool) → same q e.0 ≡ b → same q k ≡ c
              → cond (same q e.0) (Some e.1) (cond (same q k) (Some v) (lookup (same q) es)) ≡ cond (same q k) (Some v) (cond (same q e.0) (Some e.1) (lookup (same q) es))
          swap true true h i = absurd (clash (sym (ap (λ x. same k x) (sym (one q e.0 h) ∙ one q k i) ∙ self k) ∙ is))
          swap true false h i =
              ap (λ b. cond b (Some e.1) (cond (same q k) (Some v) (lookup (same q) es))) h
              ∙ sym (ap (λ c. cond c (Some v) (cond (same q e.0) (Some e.1) (lookup (same q) es))) i ∙ ap (λ b. cond b (Some e.1) (lookup (same q) es)) h)
          swap false c h i =
              ap (λ b. cond b (Some e.1) (cond (same q k) (Some v) (lookup (same q) es))) h
              ∙ sym (ap (λ b. cond (same q k) (Some v) (cond b (Some e.1) (lookup (same q) es))) h)

-- a look-up by what the keys stand for
pub lookup_map : {K L V : Type 0} → (f : K → L) (test : L → Bool) (es : List (K × V)) → lookup test (map (λ (e : K × V). (f e.0, e.1)) es) ≡ lookup (λ k. test (f k)) es
lookup_map f test [] = refl
lookup_map f test (e ∷ es) = ap (λ x. cond (test (f e.0)) (Some e.1) x) (lookup_map f test es)

map_append : {A B : Type 0} → (f : A → B) (xs ys : List A) → map f (xs ++ ys) ≡ map f xs ++ map f ys
map_append f [] ys = refl
map_append f (x ∷ xs) ys = ap (λ zs. f x ∷ zs) (map_append f xs ys)

-- a map whose keys stand for names, as what is known under them
abbrev pub named_by : {K A : Type 0} → (K → List ℕ) → List (K × A) → Named A
named_by f es = map (λ e. (f e.0, e.1)) es

-- one more name
pub one_more : {K A : Type 0} → (f : K → List ℕ) (es : List (K × A)) (k : K) (name : List ℕ) (x : A) → f k ≡ name → is_some (named (named_by f es) name) ≡ false
    → named_by f (es ++ (k, x) ∷ []) ≡ with_name (named_by f es) name x
one_more {K} {A} f es k name x is none =
    map_append (λ (e : K × A). (f e.0, e.1)) es ((k, x) ∷ [])
    ∙ ap (λ n. named_by f es ++ (n, x) ∷ []) is
    ∙ sym (ap (λ b. cond b (named_by f es) (named_by f es ++ (name, x) ∷ [])) none)

abbrev pub or_else : {A : Type 0} → Option A → Option A → Option A
or_else None y = y
or_else (Some x) y = Some x

pub lookup_push : {K V : Type 0} → (test : K → Bool) (es : List (K × V)) (k : K) (v : V) → lookup test (es ++ (k, v) ∷ []) ≡ or_else (lookup test es) (cond (test k) (Some v) None)
lookup_push test [] k v = refl
lookup_push test (e ∷ es) k v = by (test e.0) (lookup_push test es k v)
  where
    by : (b : Bool) → lookup test (es ++ (k, v) ∷ []) ≡ or_else (lookup test es) (cond (test k) (Some v) None)
        → cond b (Some e.1) (lookup test (es ++ (k, v) ∷ [])) ≡ or_else (cond b (Some e.1) (lookup test es)) (cond (test k) (Some v) None)
    by true more = refl
    by false more = more
