-- Look-ups and searches in lists that grow at their end.
use Rattle.std.proofs.Common.{◌≡◌, Bool, true, false, cond, ◌||◌, not, List, [], ◌∷◌, ◌++◌, refl, ap, ◌∙◌}
use Rattle.std.specs.List.{list_any}
use Rattle.indexmap.specs.IndexSet.{insert_all, insert_key}
use Rattle.protocol_spec.proofs.ListLemmas.{any_last}

pub not_true : (a : Bool) → not a ≡ true → a ≡ false
not_true false h = refl
not_true true h = absurd (cc)

-- ---- keys of which each is kept once

module _ {K : Type 0} (same : K → K → Bool) (one : (a b : K) → same a b ≡ true → a ≡ b) where
  any_insert : (ks : List K) (k q : K) → list_any (same q) (insert_key same ks k) ≡ (list_any (same q) ks || same q k)
  any_insert ks k q = by (list_any (same k) ks) refl
    where
      has : (xs : List K) → same q k ≡ true → list_any (same k) xs ≡ true → list_any (same q) xs ≡ true
      has xs h there = ap (λ x. list_any (same x) xs) (one q k h) ∙ there

      absorb : (a b : Bool) → (b ≡ true → a ≡ true) → a ≡ (a || b)
      absorb true b f = refl
      absorb false false f = refl
      absorb false true f = f refl

      by : (b : Bool) → list_any (same k) ks ≡ b → list_any (same q) (insert_key same ks k) ≡ (list_any (same q) ks || same q k)
      by true there =
          ap (λ b. list_any (same q) (cond b ks (ks ++ k ∷ []))) there
          ∙ absorb (list_any (same q) ks) (same q k) (λ h. has ks h there)
      by false there = ap (λ b. list_any (same q) (cond b ks (ks ++ k ∷ []))) there ∙ any_last (same q) ks k

  -- a key is among those that were put in, or was there before
  pub any_insert_all : (more ks : List K) (q : K) → list_any (same q) (insert_all same ks more) ≡ (list_any (same q) ks || list_any (same q) more)
  any_insert_all [] ks q = or_none (list_any (same q) ks)
    where
      or_none : (a : Bool) → a ≡ (a || false)
      or_none true = refl
      or_none false = refl
  any_insert_all (k ∷ more) ks q =
      any_insert_all more (insert_key same ks k) q
      ∙ ap (λ b. b || list_any (same q) more) (any_insert ks k q)
      ∙ or_swap (list_any (same q) ks) (same q k) (list_any (same q) more)
    where
      or_swap : (a b c : Bool) → ((a || b) || c) ≡ (a || (b || c))
      or_swap true b c = refl
      or_swap false b c = refl
