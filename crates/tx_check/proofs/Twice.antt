-- Whether an element comes twice, seen from the elements that came before.
use Rattle.std.proofs.Common.{◌≡◌, Bool, true, false, cond, ◌||◌, List, [], ◌∷◌, ◌++◌, refl, ap, sym, ◌∙◌, append-nil, append_assoc}
use Rattle.std.specs.List.{list_any}
use Rattle.chain_types.specs.declared.objects.ObjectId.{ObjectId}
use Rattle.chain_types.specs.Equal.{id_eq}
use Rattle.protocol_spec.proofs.Equality.{id_turned}
use Rattle.protocol_spec.proofs.Truth.{or_right, or_false_left, or_false_right}
use Rattle.protocol_spec.specs.Chain.Words.{repeats}
use Rattle.tx_check.specs.Parts.{repeats_after}

module _ {A : Type 0} (same : A → A → Bool) (symmetric : (x y : A) → same x y ≡ same y x) where
  any_later : (x y : A) (xs rest : List A) → same x y ≡ true → list_any (same x) (xs ++ y ∷ rest) ≡ true
  any_later x y [] rest e = ap (λ b. b || list_any (same x) rest) e
  any_later x y (z ∷ zs) rest e = or_right (same x z) (list_any (same x) (zs ++ y ∷ rest)) (any_later x y zs rest e)

  -- an element that came before comes twice
  pub found_twice : (y : A) (xs rest : List A) → list_any (same y) xs ≡ true → repeats same (xs ++ y ∷ rest) ≡ true
  found_twice y [] rest e = absurd (cc)
  found_twice y (x ∷ xs) rest e = go (same y x) refl e (found_twice y xs rest)
    where
      go : (b : Bool) → same y x ≡ b → (b || list_any (same y) xs) ≡ true → (list_any (same y) xs ≡ true → repeats same (xs ++ y ∷ rest) ≡ true)
          → (list_any (same x) (xs ++ y ∷ rest) || repeats same (xs ++ y ∷ rest)) ≡ true
      go true is h more = ap (λ b. b || repeats same (xs ++ y ∷ rest)) (any_later x y xs rest (symmetric x y ∙ is))
      go false is h more = or_right (list_any (same x) (xs ++ y ∷ rest)) (repeats same (xs ++ y ∷ rest)) (more h)

  none_later : (x y : A) (xs : List A) → list_any (same x) xs ≡ false → same x y ≡ false → list_any (same x) (xs ++ y ∷ []) ≡ false
  none_later x y [] none e = ap (λ b. b || false) e
  none_later x y (z ∷ zs) none e = ap (λ b. b || list_any (same x) (zs ++ y ∷ [])) (or_false_left (same x z) (list_any (same x) zs) none) ∙ none_later x y zs (or_false_right (same x z) (list_any (same x) zs) none) e

  -- a new element after a list without repeats makes none
  pub still_once : (y : A) (xs : List A) → list_any (same y) xs ≡ false → repeats same xs ≡ false → repeats same (xs ++ y ∷ []) ≡ false
  still_once y [] new once = refl
  still_once y (x ∷ xs) new once =
      ap (λ b. b || repeats same (xs ++ y ∷ [])) (none_later x y xs (or_false_left (list_any (same x) xs) (repeats same xs) once) (symmetric x y ∙ or_false_left (same y x) (list_any (same y) xs) new))
      ∙ still_once y xs (or_false_right (same y x) (list_any (same y) xs) new) (or_false_right (list_any (same x) xs) (repeats same xs) once)

-- the two lemmas for ids: an id that is seen comes twice if it comes again, and a new one does not
pub id_found : (id : ObjectId) (seen rest : List ObjectId) → list_any (id_eq id) seen ≡ true → repeats id_eq (seen ++ id ∷ rest) ≡ true
id_found id seen rest e = found_twice id_eq id_turned id seen rest e

pub id_once : (id : ObjectId) (seen : List ObjectId) → list_any (id_eq id) seen ≡ false → repeats id_eq seen ≡ false → repeats id_eq (seen ++ id ∷ []) ≡ false
id_once id seen new once = still_once id_eq id_turned id seen new once

after_is : (seen rest : List ObjectId) → repeats id_eq seen ≡ false → repeats_after seen rest ≡ repeats id_eq (seen ++ rest)
after_is seen [] once = sym once ∙ ap (repeats id_eq) (sym (append-nil seen))
after_is seen (id ∷ rest) once = go (list_any (id_eq id) seen) refl (after_is (seen ++ id ∷ []) rest)
  where
    go : (b : Bool) → list_any (id_eq id) seen ≡ b → (repeats id_eq (seen ++ id ∷ []) ≡ false → repeats_after (seen ++ id ∷ []) rest ≡ repeats id_eq ((seen ++ id ∷ []) ++ rest))
        → cond (list_any (id_eq id) seen) true (repeats_after (seen ++ id ∷ []) rest) ≡ repeats id_eq (seen ++ id ∷ rest)
    go true is more = ap (λ b. cond b true (repeats_after (seen ++ id ∷ []) rest)) is ∙ sym (id_found id seen rest is)
    go false is more = ap (λ b. cond b true (repeats_after (seen ++ id ∷ []) rest)) is ∙ more (id_once id seen is once) ∙ ap (repeats id_eq) (append_assoc seen (id ∷ []) rest)

-- seen from the start, an id comes twice if one does
pub repeats_whole : (ids : List ObjectId) → repeats_after [] ids ≡ repeats id_eq ids
repeats_whole ids = after_is [] ids refl
