-- Lemmas on lists.
use Rattle.std.proofs.Common.{inl, inr, refl, sym, subst, ap, ◌∙◌, append_assoc, append-nil}
use Rattle.std.specs.Prelude.{◌≡◌, Bool, true, false, cond, ◌&&◌, ◌||◌, List, [], ◌∷◌, ◌++◌, map, find, Option, Some, None}
use Rattle.std.specs.List.{list_any, list_all}
use Rattle.protocol_spec.proofs.Truth.{some_same}
use Rattle.protocol_spec.specs.Chain.Words.{Has, Each, Along, first_some, first_of, where_true, last_where}

-- ---- elements

pub has-split : {A : Type 0} (xs : List A) (x : A) → Has xs x → (front : List A) × (back : List A) × (xs ≡ front ++ (x ∷ back))
has-split [] x h = absurd h
has-split {A = A} (y ∷ ys) x (inl e) = ([], ys, ap (λ (z : A). z ∷ ys) e)
has-split {A = A} (y ∷ ys) x (inr h) = let r = has-split ys x h in (y ∷ r.0, r.1, ap (λ (zs : List A). y ∷ zs) r.2)

pub has-middle : {A : Type 0} (front : List A) (x : A) (back : List A) → Has (front ++ (x ∷ back)) x
has-middle [] x back = inl refl
has-middle (y ∷ front) x back = inr (has-middle front x back)

pub each-mapped : {A B : Type 0} (P : B → Type 0) (f : A → B) (xs : List A) → Each (λ (x : A). P (f x)) xs → Each P (map f xs)
each-mapped P f [] each = tt
each-mapped P f (x ∷ xs) each = (each.0, each-mapped P f xs each.1)

-- ---- along a list

-- an element of a list of which P holds along, with those before it
pub along-split : {A : Type 0} (P : List A → A → Type 0) (before xs : List A) (x : A) → Along P before xs → Has xs x → (front : List A) × (back : List A) × (xs ≡ front ++ (x ∷ back)) × P (before ++ front) x
along-split P before [] x along h = absurd h
along-split {A = A} P before (y ∷ ys) x along (inl e) = ([], ys, ap (λ (z : A). z ∷ ys) e, subst (λ (zs : List A). P zs x) (sym (append-nil before)) (subst (P before) e along.0))
along-split {A = A} P before (y ∷ ys) x along (inr h) =
    let r = along-split P (before ++ y ∷ []) ys x along.1 h in
    (y ∷ r.0, r.1, ap (λ (zs : List A). y ∷ zs) r.2, subst (λ (zs : List A). P zs x) (append_assoc before (y ∷ []) r.0) r.3)

pub along-front : {A : Type 0} (P : List A → A → Type 0) (before front back : List A) → Along P before (front ++ back) → Along P before front
along-front P before [] back along = tt
along-front P before (x ∷ front) back along = (along.0, along-front P (before ++ x ∷ []) front back along.1)

-- ---- what a test finds

pub all-has : {A : Type 0} (test : A → Bool) (xs : List A) (x : A) → list_all test xs ≡ true → Has xs x → test x ≡ true
all-has test [] x e h = absurd h
all-has {A = A} test (y ∷ ys) x e h = go (test y) refl e h (all-has test ys x)
  where
    go : (b : Bool) → test y ≡ b → (b && list_all test ys) ≡ true → Has (y ∷ ys) x → (list_all test ys ≡ true → Has ys x → test x ≡ true) → test x ≡ true
    go true t e (inl q) rest = subst (λ (z : A). test z ≡ true) q t
    go true t e (inr h) rest = rest e h
    go false t e h rest = absurd (cc)

pub find-past : {A : Type 0} (test : A → Bool) (before : List A) (x : A) (back : List A) → list_any test before ≡ false → test x ≡ true → find test (before ++ (x ∷ back)) ≡ Some x
find-past test [] x back none t = rw t refl
find-past test (y ∷ before) x back none t = go (test y) none (find-past test before x back)
  where
    go : (b : Bool) → (b || list_any test before) ≡ false → (list_any test before ≡ false → test x ≡ true → find test (before ++ (x ∷ back)) ≡ Some x) → cond b (Some y) (find test (before ++ (x ∷ back))) ≡ Some x
    go true none rest = absurd (cc)
    go false none rest = rest none t

pub first-says : {A B : Type 0} (says : A → Option B) (xs : List A) (r : B) → first_of says xs ≡ Some r → (x : A) × Has xs x × (says x ≡ Some r)
first-says says [] r e = absurd (cc)
first-says {A = A} {B = B} says (y ∷ ys) r e = go (says y) refl (first_of says ys) refl e (first-says says ys r)
  where
    go : (o : Option B) → says y ≡ o → (p : Option B) → first_of says ys ≡ p → first_some (o ∷ p ∷ []) ≡ Some r → (first_of says ys ≡ Some r → (x : A) × Has ys x × (says x ≡ Some r)) → (x : A) × Has (y ∷ ys) x × (says x ≡ Some r)
    go (Some z) h p k e rest = (y, inl refl, h ∙ e)
    go None h (Some z) k e rest = let q = rest (k ∙ e) in (q.0, inr q.1, q.2)
    go None h None k e rest = absurd (cc)

pub last-none : {A : Type 0} (test : A → Bool) (xs : List A) → last_where test xs ≡ None → Each (λ (y : A). test y ≡ false) xs
last-none test [] e = tt
last-none {A = A} test (x ∷ xs) e = go (last_where test xs) refl (test x) refl e (last-none test xs)
  where
    go : (o : Option A) → last_where test xs ≡ o → (b : Bool) → test x ≡ b → first_some (o ∷ where_true b x ∷ []) ≡ None → (last_where test xs ≡ None → Each (λ (y : A). test y ≡ false) xs) → (test x ≡ false) × Each (λ (y : A). test y ≡ false) xs
    go (Some y) h b t e rest = absurd (cc)
    go None h true t e rest = absurd (cc)
    go None h false t e rest = (t, rest h)

pub last-split : {A : Type 0} (test : A → Bool) (xs : List A) (y : A) → last_where test xs ≡ Some y → (front : List A) × (back : List A) × (xs ≡ front ++ (y ∷ back)) × Each (λ (z : A). test z ≡ false) back
last-split test [] y e = absurd (cc)
last-split {A = A} test (x ∷ xs) y e = go (last_where test xs) refl (test x) refl e (last-split test xs y)
  where
    go : (o : Option A) → last_where test xs ≡ o → (b : Bool) → test x ≡ b → first_some (o ∷ where_true b x ∷ []) ≡ Some y
        → (last_where test xs ≡ Some y → (front : List A) × (back : List A) × (xs ≡ front ++ (y ∷ back)) × Each (λ (z : A). test z ≡ false) back)
        → (front : List A) × (back : List A) × (x ∷ xs ≡ front ++ (y ∷ back)) × Each (λ (z : A). test z ≡ false) back
    go (Some z) h b t e rest = let r = rest (h ∙ e) in (x ∷ r.0, r.1, ap (λ (zs : List A). x ∷ zs) r.2, r.3)
    go None h true t e rest = ([], xs, ap (λ (z : A). z ∷ xs) (some_same x y e), last-none test xs h)
    go None h false t e rest = absurd (cc)
