-- Places of last rows, in lists that grow at their end.
use Rattle.std.proofs.Common.{◌≡◌, ◌∙◌, ap, sym, refl, ℕ, suc, Bool, true, false, cond, List, [], ◌∷◌, ◌++◌, length, Option, Some, None, option_map}
use Rattle.std.specs.Prelude.{slice_get, option_and_then}
use Rattle.std.specs.Map.{lookup}
use Rattle.indexmap.specs.IndexMap.{insert_entry}
use Rattle.protocol_spec.specs.Chain.Words.{first_some, last_where, where_true}
use Rattle.world_lines.specs.Places.{last_place, LastPlaced}

-- ---- the last row

-- there is no such row, or the last one stands at its place
data Finds {T : Type 0} (test : T → Bool) (xs : List T) : Type 0 where
  nowhere : last_place test xs ≡ None → last_where test xs ≡ None → Finds test xs
  somewhere : (i : ℕ) (y : T) → last_place test xs ≡ Some i → slice_get xs i ≡ Some y → last_where test xs ≡ Some y → Finds test xs

finds : {T : Type 0} → (test : T → Bool) (xs : List T) → Finds test xs
finds test [] = nowhere refl refl
finds {T} test (x ∷ xs) = go (finds test xs)
  where
    first : last_place test xs ≡ None → last_where test xs ≡ None → (b : Bool) → test x ≡ b → Finds test (x ∷ xs)
    first p w true is =
        somewhere 0 x
        (ap (λ o. first_some (option_map suc o ∷ where_true (test x) 0 ∷ [])) p ∙ ap (λ b. first_some (where_true b 0 ∷ [])) is)
        refl
        (ap (λ o. first_some (o ∷ where_true (test x) x ∷ [])) w ∙ ap (λ b. first_some (where_true b x ∷ [])) is)
    first p w false is =
        nowhere
        (ap (λ o. first_some (option_map suc o ∷ where_true (test x) 0 ∷ [])) p ∙ ap (λ b. first_some (where_true b 0 ∷ [])) is)
        (ap (λ o. first_some (o ∷ where_true (test x) x ∷ [])) w ∙ ap (λ b. first_some (where_true b x ∷ [])) is)

    go : Finds test xs → Finds test (x ∷ xs)
    go (nowhere p w) = first p w (test x) refl
    go (somewhere i y p s w) =
        somewhere (suc i) y (ap (λ o. first_some (option_map suc o ∷ where_true (test x) 0 ∷ [])) p) s
        (ap (λ o. first_some (o ∷ where_true (test x) x ∷ [])) w)

-- what stands at the last place is what is found
pub found : {T : Type 0} → (test : T → Bool) (xs : List T) → option_and_then (slice_get xs) (last_place test xs) ≡ last_where test xs
found test xs = go (finds test xs)
  where
    go : Finds test xs → option_and_then (slice_get xs) (last_place test xs) ≡ last_where test xs
    go (nowhere p w) = ap (option_and_then (slice_get xs)) p ∙ sym w
    go (somewhere i y p s w) = ap (option_and_then (slice_get xs)) p ∙ s ∙ sym w

last_push : {T : Type 0} → (test : T → Bool) (xs : List T) (x : T) → last_place test (xs ++ x ∷ []) ≡ cond (test x) (Some (length xs)) (last_place test xs)
last_push test [] x = by (test x)
  where
    by : (b : Bool) → first_some {A = ℕ} (where_true b 0 ∷ []) ≡ cond b (Some 0) None
    by true = refl
    by false = refl
last_push test (y ∷ ys) x =
    ap (λ o. first_some (option_map suc o ∷ where_true (test y) 0 ∷ [])) (last_push test ys x) ∙ by (test x) (last_place test ys)
  where
    by : (b : Bool) (o : Option ℕ)
        → first_some (option_map suc (cond b (Some (length ys)) o) ∷ where_true (test y) 0 ∷ [])
        ≡ cond b (Some (length (y ∷ ys))) (first_some (option_map suc o ∷ where_true (test y) 0 ∷ []))
    by true o = refl
    by false o = refl

-- ---- a value put under a key

-- a look-up under a test is a test of keys that are equal
module _ {K L : Type 0} (same : K → L → Bool) (equal : L → L → Bool)
    (respects : (k : K) (a b : L) → equal a b ≡ true → same k a ≡ same k b) (meets : (k : K) (a b : L) → same k a ≡ true → same k b ≡ true → equal a b ≡ true) where
  clash : true ≡ false → ⊥
  clash h = cc

  lookup_put : {V : Type 0} (k : K) (l : L) (v : V) (es : List (L × V)) → lookup (same k) (insert_entry equal es l v) ≡ cond (same k l) (Some v) (lookup (same k) es)
  lookup_put k l v [] = refl
  lookup_put {V} k l v (e ∷ es) = by (equal l e.0) refl (lookup_put k l v es)
    where
      twice : (a : Bool) (x y : Option V) → cond a (Some v) y ≡ cond a (Some v) (cond a x y)
      twice true x y = refl
      twice false x y = refl

      turned : (a b : Bool) (x y : Option V) → (b ≡ true → a ≡ true → ⊥) → cond a x (cond b (Some v) y) ≡ cond b (Some v) (cond a x y)
      turned true true x y apart = absurd (apart refl refl)
      turned true false x y apart = refl
      turned false b x y apart = refl

      by : (b : Bool) → equal l e.0 ≡ b → lookup (same k) (insert_entry equal es l v) ≡ cond (same k l) (Some v) (lookup (same k) es)
          → lookup (same k) (cond b ((e.0, v) ∷ es) (e ∷ insert_entry equal es l v)) ≡ cond (same k l) (Some v) (lookup (same k) (e ∷ es))
      by true is more =
          twice (same k e.0) (Some e.1) (lookup (same k) es)
          ∙ ap (λ b. cond b (Some v) (lookup (same k) (e ∷ es))) (sym (respects k l e.0 is))
      by false is more =
          ap (cond (same k e.0) (Some e.1)) more
          ∙ turned (same k e.0) (same k l) (Some e.1) (lookup (same k) es) (λ a b. clash (sym (meets k l e.0 a b) ∙ is))

  -- one more row, of this key
  pub placed_more : {T : Type 0} (is_of : K → T → Bool) (rows : List T) (places : List (L × ℕ)) {ys : List T} {fs : List (L × ℕ)} {l : L} {n : ℕ} (x : T)
      → LastPlaced same is_of rows places → fs ≡ insert_entry equal places l n → n ≡ length rows → ys ≡ rows ++ x ∷ [] → ((k : K) → same k l ≡ is_of k x) → LastPlaced same is_of ys fs
  placed_more is_of rows places {l = l} x placed puts last adds at k =
      ap (lookup (same k)) (puts ∙ ap (insert_entry equal places l) last)
      ∙ lookup_put k l (length rows) places
      ∙ ap (cond (same k l) (Some (length rows))) (placed k)
      ∙ ap (λ b. cond b (Some (length rows)) (last_place (is_of k) rows)) (at k)
      ∙ sym (last_push (is_of k) rows x)
      ∙ sym (ap (last_place (is_of k)) adds)

  -- one more row, of no key
  pub placed_same : {T : Type 0} (is_of : K → T → Bool) (rows : List T) (places : List (L × ℕ)) {ys : List T} {fs : List (L × ℕ)} (x : T)
      → LastPlaced same is_of rows places → fs ≡ places → ys ≡ rows ++ x ∷ [] → ((k : K) → is_of k x ≡ false) → LastPlaced same is_of ys fs
  placed_same is_of rows places x placed stays adds other k =
      ap (lookup (same k)) stays
      ∙ placed k
      ∙ sym (ap (λ b. cond b (Some (length rows)) (last_place (is_of k) rows)) (other k))
      ∙ sym (last_push (is_of k) rows x)
      ∙ sym (ap (last_place (is_of k)) adds)
