-- Words on lists, options and results that the definitions share.
use Rattle.std.specs.Prelude.{◌≡◌, ◌⊎◌, ℕ, zero, suc, Bool, true, false, ◌||◌, List, [], ◌∷◌, ◌++◌, Option, Some, None, Result, Ok, Err}
use Rattle.std.specs.List.{list_any}

-- ---- the first case that applies

-- the first value of a list of cases
abbrev pub first_some : {A : Type 0} → List (Option A) → Option A
first_some [] = None
first_some (Some x ∷ cases) = Some x
first_some (None ∷ cases) = first_some cases

-- what the test says of the first element of which it says anything
abbrev pub first_of : {A B : Type 0} → (A → Option B) → List A → Option B
first_of says [] = None
first_of says (x ∷ xs) = first_some (says x ∷ first_of says xs ∷ [])

-- this value, if the test holds
abbrev pub where_true : {A : Type 0} → Bool → A → Option A
where_true true x = Some x
where_true false x = None

-- a refusal if there is one, and else this answer
abbrev pub unless_refused : {A E : Type 0} → Option E → A → Result A E
unless_refused None answer = Ok answer
unless_refused (Some refusal) answer = Err refusal

-- a refusal if there is one, and else what comes next
abbrev pub refused_or : {A E : Type 0} → Option E → Result A E → Result A E
refused_or None rest = rest
refused_or (Some refusal) rest = Err refusal

-- the next step of what may be refused
abbrev pub and_then : {A B E : Type 0} → Result A E → (A → Result B E) → Result B E
and_then (Ok x) next = next x
and_then (Err refusal) next = Err refusal

-- ---- lists

-- a list with one more element before it, if there is one
abbrev pub onto_some : {A : Type 0} → A → Option (List A) → Option (List A)
onto_some x None = None
onto_some x (Some xs) = Some (x ∷ xs)

-- all the values, if there is one in each place
abbrev pub all_some : {A : Type 0} → List (Option A) → Option (List A)
all_some [] = Some []
all_some (None ∷ rest) = None
all_some (Some x ∷ rest) = onto_some x (all_some rest)

-- 0, 1, .. below n
abbrev pub numbers_below : ℕ → List ℕ
numbers_below zero = []
numbers_below (suc n) = numbers_below n ++ n ∷ []

-- whether some element comes twice, by a test of equality
abbrev pub repeats : {A : Type 0} → (A → A → Bool) → List A → Bool
repeats same [] = false
repeats same (x ∷ xs) = list_any (same x) xs || repeats same xs

-- the last element of which the test holds
abbrev pub last_where : {A : Type 0} → (A → Bool) → List A → Option A
last_where test [] = None
last_where test (x ∷ xs) = first_some (last_where test xs ∷ where_true (test x) x ∷ [])

-- the last element
abbrev pub last_of : {A : Type 0} → List A → Option A
last_of [] = None
last_of (x ∷ []) = Some x
last_of (x ∷ y ∷ xs) = last_of (y ∷ xs)

-- ---- facts on lists

-- x is an element of the list
abbrev pub Has : {A : Type 0} → List A → A → Type 0
Has [] x = ⊥
Has (y ∷ ys) x = (y ≡ x) ⊎ Has ys x

-- P of each element
abbrev pub Each : {A : Type 0} → (A → Type 0) → List A → Type 0
Each P [] = Unit {0}
Each P (x ∷ xs) = P x × Each P xs

-- P of each element and of those before it; first comes what was before the list
abbrev pub Along : {A : Type 0} → (List A → A → Type 0) → List A → List A → Type 0
Along P before [] = Unit {0}
Along P before (x ∷ xs) = P before x × Along P (before ++ x ∷ []) xs

-- the first list is a prefix of the second
abbrev pub IsFront : {A : Type 0} → List A → List A → Type 0
IsFront {A} xs ys = (rest : List A) × (ys ≡ xs ++ rest)
