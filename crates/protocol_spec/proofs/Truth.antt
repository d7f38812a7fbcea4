-- Lemmas on truth values, options and results.
use Rattle.std.proofs.Common.{◌≡◌, Bool, true, false, ◌||◌, refl, ◌&&◌, ap, ◌⊎◌, inl, inr, None, ℕ, Option, Some, is_some, option_map, not}
use Rattle.std.proofs.lemmas.Bool.{and_from, eqb-true}
use Rattle.std.specs.Prelude.{Result, Ok, Err, OnOk, ◌==◌}
use Rattle.protocol_spec.specs.Chain.Words.{where_true}

-- the first of two, if it is there
abbrev pub or_else : {A : Type 0} → Option A → Option A → Option A
or_else None o = o
or_else (Some x) o = Some x

pub or_false : (a b : Bool) → (a || b) ≡ false → (a ≡ false) × (b ≡ false)
or_false true b e = absurd (cc)
or_false false b e = (refl, e)

pub and_true : (a b : Bool) → (a && b) ≡ true → (a ≡ true) × (b ≡ true)
and_true true b is = (refl, is)
and_true false b is = absurd (cc)

pub or_right : (a b : Bool) → b ≡ true → (a || b) ≡ true
or_right true b e = refl
or_right false b e = e

pub or_left : (a b : Bool) → a ≡ true → (a || b) ≡ true
or_left a b h = ap (λ x. x || b) h

pub or_true : (a b : Bool) → (a || b) ≡ true → (a ≡ true) ⊎ (b ≡ true)
or_true true b h = inl refl
or_true false b h = inr h

pub or_false_left : (a b : Bool) → (a || b) ≡ false → a ≡ false
or_false_left true b e = absurd (cc)
or_false_left false b e = refl

pub or_false_right : (a b : Bool) → (a || b) ≡ false → b ≡ false
or_false_right true b e = absurd (cc)
or_false_right false b e = e

pub both_true : (a b : Bool) → a ≡ true → b ≡ true → (a && b) ≡ true
both_true a b h k = and_from a b h k

pub or_assoc : (a b c : Bool) → ((a || b) || c) ≡ (a || (b || c))
or_assoc true b c = refl
or_assoc false b c = refl

pub where_false : {A : Type 0} (b : Bool) (x : A) → where_true b x ≡ None → b ≡ false
where_false true x e = absurd (cc)
where_false false x e = refl

pub where_not_true : {A : Type 0} (b : Bool) (x : A) → where_true (not b) x ≡ None → b ≡ true
where_not_true true x h = refl
where_not_true false x h = absurd (cc)

pub where_false_number : (b : Bool) (n : ℕ) → where_true b n ≡ None → b ≡ false
where_false_number true n e = absurd (cc)
where_false_number false n e = refl

pub some_same : {A : Type 0} (y x : A) → Some y ≡ Some x → y ≡ x
some_same y x e = cc

pub map_none : {A B : Type 0} (f : A → B) (o : Option A) → option_map f o ≡ None → o ≡ None
map_none f None e = refl
map_none f (Some x) e = absurd (cc)

pub some_mapped : {A B : Type 0} → (f : A → B) (o : Option A) → is_some (option_map f o) ≡ is_some o
some_mapped f None = refl
some_mapped f (Some x) = refl

pub on_ok_then : {A E : Type 0} (result : Result A E) (P Q : Type 0) → (P → Q) → OnOk result P → OnOk result Q
on_ok_then (Ok a) P Q to h = to h
on_ok_then (Err e) P Q to h = tt

pub equal_numbers : (a b : ℕ) → not (a == b) ≡ false → a ≡ b
equal_numbers a b e = go (a == b) refl e
  where
    go : (t : Bool) → (a == b) ≡ t → not t ≡ false → a ≡ b
    go true is n = eqb-true a b is
    go false is n = absurd (cc)
