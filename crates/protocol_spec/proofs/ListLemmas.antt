-- Lemmas on the words of lists.
use Rattle.std.proofs.Common.{refl, sym, subst, ap, append_assoc, append-nil, arith, ◌∙◌, length, take, ◌-◌, drop, None, Option, ℕ, zero, suc, ◌+◌, inl, inr, get_or, ◌<◌}
use Rattle.std.proofs.lemmas.Bool.{eqb-true, eqb-false}
use Rattle.std.proofs.lemmas.List.{length-append}
use Rattle.std.specs.Prelude.{◌≡◌, Bool, true, false, cond, not, ◌&&◌, ◌||◌, List, [], ◌∷◌, ◌++◌, filter, find, Some, ◌≤◌, slice_get, slice_set, map, flat_map, ◌==◌, ◌⊎◌}
use Rattle.std.specs.List.{list_any}
use Rattle.protocol_spec.proofs.Truth.{or_else, some_same}
use Rattle.protocol_spec.specs.Chain.Words.{Each, Along, IsFront, first_some, Has, numbers_below}

-- one more element, of which P holds with all before it
pub along-push : {A : Type 0} (P : List A → A → Type 0) (before xs : List A) (x : A) → Along P before xs → P (before ++ xs) x → Along P before (xs ++ x ∷ [])
along-push P before [] x along last = (subst (λ ys. P ys x) (append_nil before) last, tt)
  where
    append_nil : {A : Type 0} (ys : List A) → ys ++ [] ≡ ys
    append_nil [] = refl
    append_nil (y ∷ ys) = ap (λ zs. y ∷ zs) (append_nil ys)
along-push P before (y ∷ ys) x along last = (along.0, along-push P (before ++ y ∷ []) ys x along.1 (subst (λ zs. P zs x) (sym (append_assoc before (y ∷ []) ys)) last))

-- what was found has been tested
pub find-test : {A : Type 0} (test : A → Bool) (xs : List A) (x : A) → find test xs ≡ Some x → test x ≡ true
find-test test [] x e = absurd (cc)
find-test {A = A} test (y ∷ ys) x e = go (test y) refl e (find-test test ys x)
  where
    go : (b : Bool) → test y ≡ b → cond b (Some y) (find test ys) ≡ Some x → (find test ys ≡ Some x → test x ≡ true) → test x ≡ true
    go true t e rest = subst (λ z. test z ≡ true) (some_same y x e) t
    go false t e rest = rest e

-- what was found has what each element has
pub find-each : {A : Type 0} (P : A → Type 0) (test : A → Bool) (xs : List A) (x : A) → Each P xs → find test xs ≡ Some x → P x
find-each P test [] x each e = absurd (cc)
find-each P test (y ∷ ys) x each e = go (test y) e (find-each P test ys x each.1)
  where
    go : (b : Bool) → cond b (Some y) (find test ys) ≡ Some x → (find test ys ≡ Some x → P x) → P x
    go true e rest = subst P (some_same y x e) each.0
    go false e rest = rest e

-- each element of a filtered list passed the test
pub filter-each : {A : Type 0} (P Q : A → Type 0) (test : A → Bool) (xs : List A) → ((x : A) → test x ≡ true → P x → Q x) → Each P xs → Each Q (filter test xs)
filter-each P Q test [] h each = tt
filter-each P Q test (y ∷ ys) h each = go (test y) refl (filter-each P Q test ys h each.1)
  where
    go : (b : Bool) → test y ≡ b → Each Q (filter test ys) → Each Q (cond b (y ∷ filter test ys) (filter test ys))
    go true t rest = (h y t each.0, rest)
    go false t rest = rest

-- a test of a list with one more element
pub any-push : {A : Type 0} (test : A → Bool) (xs : List A) (x : A) → list_any test xs ≡ false → test x ≡ false → list_any test (xs ++ x ∷ []) ≡ false
any-push test [] x none last = rw last refl
any-push test (y ∷ ys) x none last = go (test y) none (any-push test ys x)
  where
    go : (b : Bool) → (b || list_any test ys) ≡ false → (list_any test ys ≡ false → test x ≡ false → list_any test (ys ++ x ∷ []) ≡ false) → (b || list_any test (ys ++ x ∷ [])) ≡ false
    go true e rest = absurd (cc)
    go false e rest = rest e last

pub and-first : (a b : Bool) → (a && b) ≡ true → a ≡ true
and-first true b e = refl
and-first false b e = absurd (cc)

pub and-second : (a b : Bool) → (a && b) ≡ true → b ≡ true
and-second true b e = e
and-second false b e = absurd (cc)

pub not-true : (b : Bool) → not b ≡ true → b ≡ false
not-true true e = absurd (cc)
not-true false e = refl

pub front_then : {A : Type 0} (xs ys zs : List A) → IsFront xs ys → IsFront ys zs → IsFront xs zs
front_then xs ys zs (more, e) (rest, h) = (more ++ rest, rw (h, e) (append_assoc xs more rest))

pub front_whole : {A : Type 0} (xs : List A) → IsFront xs xs
front_whole xs = ([], sym (append-nil xs))

pub front_length : {A : Type 0} (xs ys : List A) → IsFront xs ys → length xs ≤ length ys
front_length xs ys (more, e) = let n = ap length e ∙ length-append xs more in omega (arith, n)

pub all_taken : {A : Type 0} (xs : List A) → take (length xs) xs ≡ xs
all_taken [] = refl
all_taken (x ∷ xs) = ap (λ l. x ∷ l) (all_taken xs)

pub tail_is : {A : Type 0} (x : A) (xs : List A) → take (length (x ∷ xs) - 1) (drop 1 (x ∷ xs)) ≡ xs
tail_is x xs = let less : length (x ∷ xs) - 1 ≡ length xs = omega arith in rw less (all_taken xs)

pub any_last : {A : Type 0} (test : A → Bool) (xs : List A) (x : A) → list_any test (xs ++ x ∷ []) ≡ (list_any test xs || test x)
any_last test [] x = go (test x)
  where
    go : (b : Bool) → (b || false) ≡ b
    go true = refl
    go false = refl
any_last test (y ∷ ys) x = ap (λ t. test y || t) (any_last test ys x) ∙ go (test y) (list_any test ys) (test x)
  where
    go : (a b c : Bool) → (a || (b || c)) ≡ ((a || b) || c)
    go true b c = refl
    go false b c = refl

pub find_last : {A : Type 0} → (test : A → Bool) (xs : List A) (x : A) → find test (xs ++ x ∷ []) ≡ or_else (find test xs) (cond (test x) (Some x) None)
find_last test [] x = refl
find_last test (y ∷ ys) x = by (test y) (find_last test ys x)
  where
    by : (b : Bool) → find test (ys ++ x ∷ []) ≡ or_else (find test ys) (cond (test x) (Some x) None)
        → cond b (Some y) (find test (ys ++ x ∷ [])) ≡ or_else (cond b (Some y) (find test ys)) (cond (test x) (Some x) None)
    by true more = refl
    by false more = more

pub all_none : {A : Type 0} (cases : List (Option A)) → first_some cases ≡ None → Each (λ (x : Option A). x ≡ None) cases
all_none [] e = tt
all_none (None ∷ cases) e = (refl, all_none cases e)
all_none (Some x ∷ cases) e = absurd (cc)

pub each_front : {A : Type 0} (P : A → Type 0) (xs ys : List A) → Each P (xs ++ ys) → Each P xs
each_front P [] ys all = tt
each_front P (x ∷ xs) ys all = (all.0, each_front P xs ys all.1)

pub each_back : {A : Type 0} (P : A → Type 0) (xs ys : List A) → Each P (xs ++ ys) → Each P ys
each_back P [] ys all = all
each_back P (x ∷ xs) ys all = each_back P xs ys all.1

pub each_at : {A : Type 0} (P : A → Type 0) (xs : List A) (place : ℕ) (x : A) → Each P xs → slice_get xs place ≡ Some x → P x
each_at P [] place x each at = absurd (cc)
each_at P (y ∷ ys) zero x each at = subst P (same at) each.0
  where
    same : Some y ≡ Some x → y ≡ x
    same e = cc
each_at P (y ∷ ys) (suc n) x each at = each_at P ys n x each.1 at

pub each_join : {A : Type 0} (P : A → Type 0) (xs ys : List A) → Each P xs → Each P ys → Each P (xs ++ ys)
each_join P [] ys p q = q
each_join P (x ∷ xs) ys p q = (p.0, each_join P xs ys p.1 q)

pub each_push : {A : Type 0} (P : A → Type 0) (xs : List A) (x : A) → Each P xs → P x → Each P (xs ++ x ∷ [])
each_push P [] x each last = (last, tt)
each_push P (y ∷ ys) x each last = (each.0, each_push P ys x each.1 last)

pub set_get : {A : Type 0} (xs : List A) (m : ℕ) (x y : A) → slice_get xs m ≡ Some x → slice_get (slice_set xs m y) m ≡ Some y
set_get [] m x y e = absurd (cc)
set_get (z ∷ zs) zero x y e = refl
set_get (z ∷ zs) (suc m) x y e = set_get zs m x y e

pub set_same : {A : Type 0} (xs : List A) (m : ℕ) (x : A) → slice_get xs m ≡ Some x → slice_set xs m x ≡ xs
set_same [] m x e = refl
set_same {A} (y ∷ ys) zero x e = ap (λ (z : A). z ∷ ys) (let same : Some y ≡ Some x = e in sym (cc))
set_same {A} (y ∷ ys) (suc m) x e = ap (λ (zs : List A). y ∷ zs) (set_same ys m x e)

pub set_length : {A : Type 0} (xs : List A) (k : ℕ) (x : A) → length (slice_set xs k x) ≡ length xs
set_length [] k x = refl
set_length (y ∷ ys) zero x = refl
set_length (y ∷ ys) (suc k) x = ap suc (set_length ys k x)

pub push_length : {A : Type 0} → (xs : List A) (x : A) → length (xs ++ x ∷ []) ≡ length xs + 1
push_length xs x = length-append xs (x ∷ [])

pub push_has : {A : Type 0} → (xs : List A) (x : A) → Has (xs ++ x ∷ []) x
push_has [] x = inl refl
push_has (z ∷ zs) x = inr (push_has zs x)

pub find_back : {A : Type 0} (test : A → Bool) (xs ys : List A) → find test xs ≡ None → find test (xs ++ ys) ≡ find test ys
find_back test [] ys e = refl
find_back test (x ∷ xs) ys e = go (test x) e (find_back test xs ys)
  where
    go : (b : Bool) → cond b (Some x) (find test xs) ≡ None → (find test xs ≡ None → find test (xs ++ ys) ≡ find test ys) → cond b (Some x) (find test (xs ++ ys)) ≡ find test ys
    go true e rest = absurd (cc)
    go false e rest = rest e

pub find_front : {A : Type 0} (test : A → Bool) (xs ys : List A) (x : A) → find test xs ≡ Some x → find test (xs ++ ys) ≡ Some x
find_front test [] ys x e = absurd (cc)
find_front test (z ∷ xs) ys x e = go (test z) e (find_front test xs ys x)
  where
    go : (b : Bool) → cond b (Some z) (find test xs) ≡ Some x → (find test xs ≡ Some x → find test (xs ++ ys) ≡ Some x) → cond b (Some z) (find test (xs ++ ys)) ≡ Some x
    go true e rest = e
    go false e rest = rest e

pub any_front : {A : Type 0} (test : A → Bool) (xs ys : List A) → list_any test xs ≡ true → list_any test (xs ++ ys) ≡ true
any_front test [] ys e = absurd (cc)
any_front test (z ∷ xs) ys e = go (test z) e (any_front test xs ys)
  where
    go : (b : Bool) → (b || list_any test xs) ≡ true → (list_any test xs ≡ true → list_any test (xs ++ ys) ≡ true) → (b || list_any test (xs ++ ys)) ≡ true
    go true e rest = refl
    go false e rest = rest e

pub drop_all : {A : Type 0} (xs ys : List A) → drop (length xs) (xs ++ ys) ≡ ys
drop_all [] ys = refl
drop_all (x ∷ xs) ys = drop_all xs ys

pub map_length : {A B : Type 0} (f : A → B) (xs : List A) → length (map f xs) ≡ length xs
map_length f [] = refl
map_length f (x ∷ xs) = ap suc (map_length f xs)

pub along_join : {A : Type 0} (P : List A → A → Type 0) (before xs ys : List A) → Along P before xs → Along P (before ++ xs) ys → Along P before (xs ++ ys)
along_join P before [] ys p q = subst (λ b. Along P b ys) (append-nil before) q
along_join P before (x ∷ xs) ys p q = (p.0, along_join P (before ++ x ∷ []) xs ys p.1 (subst (λ b. Along P b ys) (sym (append_assoc before (x ∷ []) xs)) q))

pub each_as : {A : Type 0} (P Q : A → Type 0) (xs : List A) → ((x : A) → P x → Q x) → Each P xs → Each Q xs
each_as P Q [] to each = tt
each_as P Q (x ∷ xs) to each = (to x each.0, each_as P Q xs to each.1)

pub each_filter : {A : Type 0} (P : A → Type 0) (test : A → Bool) (xs : List A) → Each P xs → Each P (filter test xs)
each_filter P test [] each = tt
each_filter {A} P test (x ∷ xs) each = by (test x) (each_filter P test xs each.1)
  where
    by : (b : Bool) → Each P (filter test xs) → Each P (cond b (x ∷ filter test xs) (filter test xs))
    by true rest = (each.0, rest)
    by false rest = rest

pub has_left : {A : Type 0} (xs ys : List A) (y : A) → Has xs y → Has (xs ++ ys) y
has_left [] ys y h = absurd h
has_left (x ∷ xs) ys y (inl e) = inl e
has_left (x ∷ xs) ys y (inr h) = inr (has_left xs ys y h)

pub has_right : {A : Type 0} (xs ys : List A) (y : A) → Has ys y → Has (xs ++ ys) y
has_right [] ys y h = h
has_right (x ∷ xs) ys y h = inr (has_right xs ys y h)

pub flat_has : {A B : Type 0} (f : A → List B) (xs : List A) (x : A) (y : B) → Has xs x → Has (f x) y → Has (flat_map f xs) y
flat_has f [] x y h k = absurd h
flat_has f (z ∷ xs) x y (inl e) k = has_left (f z) (flat_map f xs) y (subst (λ w. Has (f w) y) (sym e) k)
flat_has f (z ∷ xs) x y (inr h) k = has_right (f z) (flat_map f xs) y (flat_has f xs x y h k)

pub is_below : (k n : ℕ) → n < k → Has (numbers_below k) n
is_below zero n less = absurd (omega (arith, less))
is_below (suc k) n less = go (k == n) refl (is_below k n)
  where
    go : (b : Bool) → (k == n) ≡ b → (n < k → Has (numbers_below k) n) → Has (numbers_below (suc k)) n
    go true e rest = has_right (numbers_below k) (k ∷ []) n (inl (eqb-true k n e))
    go false e rest = let apart = eqb-false k n e in has_left (numbers_below k) (k ∷ []) n (rest (omega (arith, less, apart)))

pub each_has : {A : Type 0} (P : A → Type 0) (xs : List A) (x : A) → Each P xs → Has xs x → P x
each_has P [] x each h = absurd h
each_has P (y ∷ ys) x each (inl e) = subst P e each.0
each_has P (y ∷ ys) x each (inr h) = each_has P ys x each.1 h

pub append_nil : {A : Type 0} (xs : List A) → xs ++ [] ≡ xs
append_nil [] = refl
append_nil (x ∷ xs) = ap (λ ys. x ∷ ys) (append_nil xs)

pub has_map : {A B : Type 0} (f : A → B) (xs : List A) (x : A) → Has xs x → Has (map f xs) (f x)
has_map f [] x h = absurd h
has_map f (y ∷ ys) x (inl e) = inl (ap f e)
has_map f (y ∷ ys) x (inr h) = inr (has_map f ys x h)

pub has_parts : {A : Type 0} (xs ys : List A) (y : A) → Has (xs ++ ys) y → Has xs y ⊎ Has ys y
has_parts [] ys y h = inr h
has_parts (x ∷ xs) ys y (inl e) = inl (inl e)
has_parts (x ∷ xs) ys y (inr h) = go (has_parts xs ys y h)
  where
    go : Has xs y ⊎ Has ys y → Has (x ∷ xs) y ⊎ Has ys y
    go (inl h) = inl (inr h)
    go (inr h) = inr h

pub has_mapped : {A B : Type 0} (f : A → B) (xs : List A) (y : B) → Has (map f xs) y → (x : A) × Has xs x × (f x ≡ y)
has_mapped f [] y h = absurd h
has_mapped f (x ∷ xs) y (inl e) = (x, inl refl, e)
has_mapped f (x ∷ xs) y (inr h) = let r = has_mapped f xs y h in (r.0, inr r.1, r.2)

pub find_has : {A : Type 0} (test : A → Bool) (xs : List A) (x : A) → find test xs ≡ Some x → Has xs x
find_has test [] x e = absurd (cc)
find_has test (y ∷ ys) x e = go (test y) e (find_has test ys x)
  where
    same : Some y ≡ Some x → y ≡ x
    same e = cc

    go : (b : Bool) → cond b (Some y) (find test ys) ≡ Some x → (find test ys ≡ Some x → Has ys x) → Has (y ∷ ys) x
    go true e rest = inl (same e)
    go false e rest = inr (rest e)

pub nil_of : {X : Type 0} (xs : List X) → length xs ≡ 0 → xs ≡ []
nil_of [] h = refl
nil_of (x ∷ xs) h = absurd (omega arith)

pub none_at : (cases : List (Option ℕ)) (place : ℕ) → first_some cases ≡ None → get_or cases place None ≡ None
none_at [] place e = refl
none_at (Some n ∷ cases) place e = absurd (cc)
none_at (None ∷ cases) zero e = refl
none_at (None ∷ cases) (suc place) e = none_at cases place e

pub flat_append : {A B : Type 0} (f : A → List B) (xs ys : List A) → flat_map f (xs ++ ys) ≡ flat_map f xs ++ flat_map f ys
flat_append f [] ys = refl
flat_append f (x ∷ xs) ys = ap (λ zs. f x ++ zs) (flat_append f xs ys) ∙ sym (append_assoc (f x) (flat_map f xs) (flat_map f ys))
