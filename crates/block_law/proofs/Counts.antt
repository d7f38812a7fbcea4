-- How often an id stands in a list; a list without repeats has each at most once.
use Rattle.std.proofs.Common.{refl, ap, subst}
use Rattle.std.specs.Prelude.{◌≡◌, ◌≤◌, ◌+◌, ℕ, Bool, true, false, ◌||◌, List, [], ◌∷◌, ◌++◌}
use Rattle.std.specs.List.{list_any}
use native.Mathlib.Omega.{arith}
use Rattle.chain_types.specs.declared.objects.ObjectId.{ObjectId}
use Rattle.chain_types.specs.Equal.{id_eq}
use Rattle.protocol_spec.proofs.Equality.{id_same, id_back, id_self}
use Rattle.protocol_spec.proofs.Truth.{or_false_left, or_false_right}
use Rattle.protocol_spec.specs.Chain.Words.{repeats}

pub id_equal : (a b : ObjectId) → a ≡ b → id_eq a b ≡ true
id_equal a b e = subst (λ x. id_eq a x ≡ true) e (id_self a)

abbrev pub hit : Bool → ℕ
hit true = 1
hit false = 0

abbrev pub times : ObjectId → List ObjectId → ℕ
times x [] = 0
times x (y ∷ ys) = hit (id_eq y x) + times x ys

pub times-append : (x : ObjectId) (xs ys : List ObjectId) → times x (xs ++ ys) ≡ times x xs + times x ys
times-append x [] ys = omega arith
times-append x (y ∷ xs) ys = let rest = times-append x xs ys in omega (arith, rest)

pub none-times : (x : ObjectId) (ys : List ObjectId) → list_any (id_eq x) ys ≡ false → times x ys ≡ 0
none-times x [] e = refl
none-times x (y ∷ ys) e = go (id_eq y x) refl (none-times x ys (or_false_right (id_eq x y) (list_any (id_eq x) ys) e))
  where
    go : (b : Bool) → id_eq y x ≡ b → times x ys ≡ 0 → hit b + times x ys ≡ 0
    go true h rest = absurd (let h' = id_back y x h in let f = or_false_left (id_eq x y) (list_any (id_eq x) ys) e in cc)
    go false h rest = omega arith

pub times-none : (x : ObjectId) (ys : List ObjectId) → times x ys ≡ 0 → list_any (id_eq x) ys ≡ false
times-none x [] e = refl
times-none x (y ∷ ys) e = go (id_eq x y) refl (times-none x ys (counted (id_eq y x) refl e).1)
  where
    counted : (b : Bool) → id_eq y x ≡ b → hit b + times x ys ≡ 0 → (b ≡ false) × (times x ys ≡ 0)
    counted true h e = absurd (omega arith)
    counted false h e = (refl, omega arith)

    go : (b : Bool) → id_eq x y ≡ b → list_any (id_eq x) ys ≡ false → (b || list_any (id_eq x) ys) ≡ false
    go true h rest = absurd (let h' = id_back x y h in let f = (counted (id_eq y x) refl e).0 in cc)
    go false h rest = rest

-- without repeats each id stands there at most once
pub once-each : (xs : List ObjectId) → repeats id_eq xs ≡ false → (x : ObjectId) → times x xs ≤ 1
once-each [] e x = omega arith
once-each (y ∷ ys) e x = go (id_eq y x) refl (once-each ys (or_false_right (list_any (id_eq y) ys) (repeats id_eq ys) e) x)
  where
    go : (b : Bool) → id_eq y x ≡ b → times x ys ≤ 1 → hit b + times x ys ≤ 1
    go true h rest = let none = subst (λ z. times z ys ≡ 0) (id_same y x h) (none-times y ys (or_false_left (list_any (id_eq y) ys) (repeats id_eq ys) e)) in omega (arith, none)
    go false h rest = omega (arith, rest)

-- a list in which each id stands at most once has no repetition
pub each-once : (xs : List ObjectId) → ((x : ObjectId) → times x xs ≤ 1) → repeats id_eq xs ≡ false
each-once [] once = refl
each-once (y ∷ ys) once = go (list_any (id_eq y) ys) (times-none y ys here) (each-once ys below)
  where
    here : times y ys ≡ 0
    here = let one : hit (id_eq y y) + times y ys ≤ 1 = once y in let same = ap hit (id_self y) in omega (arith, one, same)

    below : (x : ObjectId) → times x ys ≤ 1
    below x = let one : hit (id_eq y x) + times x ys ≤ 1 = once x in omega (arith, one)

    go : (b : Bool) → b ≡ false → repeats id_eq ys ≡ false → (b || repeats id_eq ys) ≡ false
    go true e rest = absurd (cc)
    go false e rest = rest
