-- What stands at the end of a writer after a call that may have been refused memory on the way.
use Rattle.std.specs.Prelude.{◌≡◌, ℕ, Bool, true, false, ◌&&◌, ◌==◌, List, [], ◌∷◌, ◌++◌, Result, Ok, Err, refl}
use Rattle.std.proofs.Common.{subst, append_assoc}
use Rattle.std.proofs.lemmas.Bool.{and_parts, and_from, eq-eqb}
use Rattle.wire_bcs.specs.declared.seq.OutOfMemory.{OutOfMemory}

-- the first list is a prefix of the second
abbrev pub is_front : List ℕ → List ℕ → Bool
is_front [] ys = true
is_front (x ∷ xs) [] = false
is_front (x ∷ xs) (y ∷ ys) = (x == y) && is_front xs ys

-- new is old with a prefix of the text after it
unfoldable pub is_part : List ℕ → List ℕ → List ℕ → Bool
is_part old new text = is_front old new && is_front new (old ++ text)

-- the text was written after what stood there; a refused call has written a prefix of it
abbrev pub Writes : {X : Type 0} → List ℕ → List ℕ → List ℕ → Result X OutOfMemory → Type 0
Writes old new text (Ok x) = new ≡ old ++ text
Writes old new text (Err e) = is_part old new text ≡ true

-- the text was written after what stood there; a refused call has written nothing
abbrev pub Appends : {X : Type 0} → List ℕ → List ℕ → List ℕ → Result X OutOfMemory → Type 0
Appends old new text (Ok x) = new ≡ old ++ text
Appends old new text (Err e) = new ≡ old

-- ---- laws

front_append : (xs ys : List ℕ) → is_front xs (xs ++ ys) ≡ true
front_append [] ys = refl
front_append (x ∷ xs) ys = and_from (x == x) (is_front xs (xs ++ ys)) (eq-eqb x x refl) (front_append xs ys)

front_more : (xs ys zs : List ℕ) → is_front xs ys ≡ true → is_front xs (ys ++ zs) ≡ true
front_more [] ys zs h = refl
front_more (x ∷ xs) [] zs h = absurd cc
front_more (x ∷ xs) (y ∷ ys) zs h =
    let p = and_parts (x == y) (is_front xs ys) h in
    and_from (x == y) (is_front xs (ys ++ zs)) p.0 (front_more xs ys zs p.1)

front_less : (xs ys zs : List ℕ) → is_front (xs ++ ys) zs ≡ true → is_front xs zs ≡ true
front_less [] ys zs h = refl
front_less (x ∷ xs) ys [] h = absurd cc
front_less (x ∷ xs) ys (z ∷ zs) h =
    let p = and_parts (x == z) (is_front (xs ++ ys) zs) h in
    and_from (x == z) (is_front xs zs) p.0 (front_less xs ys zs p.1)

front_self : (xs : List ℕ) → is_front xs xs ≡ true
front_self [] = refl
front_self (x ∷ xs) = and_from (x == x) (is_front xs xs) (eq-eqb x x refl) (front_self xs)

pub part_none : (old text : List ℕ) → is_part old old text ≡ true
unfolding is_part
part_none old text = and_from (is_front old old) (is_front old (old ++ text)) (front_self old) (front_append old text)

pub part_first : (old new a b : List ℕ) → is_part old new a ≡ true → is_part old new (a ++ b) ≡ true
unfolding is_part
part_first old new a b h =
    let p = and_parts (is_front old new) (is_front new (old ++ a)) h in
    let whole : is_front new (old ++ (a ++ b)) ≡ true = subst (λ (t : List ℕ). is_front new t ≡ true) (append_assoc old a b) (front_more new (old ++ a) b p.1) in
    and_from (is_front old new) (is_front new (old ++ (a ++ b))) p.0 whole

pub part_then : (old new a b : List ℕ) → is_part (old ++ a) new b ≡ true → is_part old new (a ++ b) ≡ true
unfolding is_part
part_then old new a b h =
    let p = and_parts (is_front (old ++ a) new) (is_front new ((old ++ a) ++ b)) h in
    let whole : is_front new (old ++ (a ++ b)) ≡ true = subst (λ (t : List ℕ). is_front new t ≡ true) (append_assoc old a b) p.1 in
    and_from (is_front old new) (is_front new (old ++ (a ++ b))) (front_less old a new p.0) whole

pub ruleset parts = (part_none, part_first, part_then, append_assoc)
