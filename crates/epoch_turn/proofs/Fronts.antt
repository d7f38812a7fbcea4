-- How many at the start of a list pass a test.
use Rattle.std.proofs.Common.{◌≡◌, ◌∙◌, refl, sym, ap, arith, ℕ, zero, suc, ◌+◌, ◌≤◌, Bool, true, false, not, cond, ◌&&◌, List, [], ◌∷◌, ◌++◌, length, take, drop}
use Rattle.std.specs.Prelude.{Option, Some, None, find, is_some, option_map, slice_get}
use Rattle.std.specs.Option.{option_or}
use Rattle.std.specs.List.{list_all}
use Rattle.std.proofs.lemmas.List.Folds.{find-append}
use Rattle.protocol_spec.specs.declared.answers.Held.{Held}
use Rattle.protocol_spec.specs.Chain.Words.{first_of, first_some, where_true}
use Rattle.protocol_spec.specs.Member.Admission.{Admission}
use Rattle.version_assign.proofs.Freeing.{alone}
use Rattle.epoch_turn.specs.Dues.{front_length, is_ordered, unordered}

pub front_most : {A : Type 0} (test : A → Bool) (xs : List A) → front_length test xs ≤ length xs
front_most test [] = omega arith
front_most test (x ∷ xs) = by (test x) (front_most test xs)
  where
    by : (b : Bool) → front_length test xs ≤ length xs → cond b (suc (front_length test xs)) 0 ≤ suc (length xs)
    by true most = omega (arith, most)
    by false most = omega arith

-- a prefix that passes is no longer than the longest
pub front_reaches : {A : Type 0} (test : A → Bool) (n : ℕ) (xs : List A) → n ≤ length xs → list_all test (take n xs) ≡ true → n ≤ front_length test xs
front_reaches test zero xs few all = omega arith
front_reaches test (suc n) [] few all = absurd (omega (arith, few))
front_reaches test (suc n) (x ∷ xs) few all = by (test x) all (front_reaches test n xs (omega (arith, few)))
  where
    by : (b : Bool) → (b && list_all test (take n xs)) ≡ true → (list_all test (take n xs) ≡ true → n ≤ front_length test xs) → suc n ≤ cond b (suc (front_length test xs)) 0
    by true e more = let m = more e in omega (arith, m)
    by false e more = absurd (cc)

pub front_passes : {A : Type 0} (test : A → Bool) (n : ℕ) (xs : List A) → n ≤ front_length test xs → list_all test (take n xs) ≡ true
front_passes test zero xs few = refl
front_passes test (suc n) [] few = absurd (omega (arith, few))
front_passes test (suc n) (x ∷ xs) few = by (test x) few (front_passes test n xs)
  where
    by : (b : Bool) → suc n ≤ cond b (suc (front_length test xs)) 0 → (n ≤ front_length test xs → list_all test (take n xs) ≡ true) → (b && list_all test (take n xs)) ≡ true
    by true e more = more (omega (arith, e))
    by false e more = absurd (omega (arith, e))

-- after a prefix that passes, what is left of the longest
pub front_behind : {A : Type 0} (test : A → Bool) (n : ℕ) (xs : List A) → n ≤ front_length test xs → n + front_length test (drop n xs) ≡ front_length test xs
front_behind test zero xs few = omega arith
front_behind test (suc n) [] few = absurd (omega (arith, few))
front_behind test (suc n) (x ∷ xs) few = by (test x) few (front_behind test n xs)
  where
    by : (b : Bool) → suc n ≤ cond b (suc (front_length test xs)) 0 → (n ≤ front_length test xs → n + front_length test (drop n xs) ≡ front_length test xs) → suc n + front_length test (drop n xs) ≡ cond b (suc (front_length test xs)) 0
    by true e more = let m = more (omega (arith, e)) in omega (arith, m)
    by false e more = absurd (omega (arith, e))

-- what is found first is found in a longer list too
pub found_stays : {A : Type 0} (test : A → Bool) (xs more : List A) → is_some (find test xs) ≡ true → find test (xs ++ more) ≡ find test xs
found_stays test xs more some = find-append test xs more ∙ first (find test xs) (find test more) some
  where
    first : {A : Type 0} (o p : Option A) → is_some o ≡ true → option_or o p ≡ o
    first None p some = absurd (cc)
    first (Some x) p some = refl

-- the first that does not pass stands after the prefix
pub first_behind : {A B : Type 0} (test : A → Bool) (of : A → B) (xs : List A) → option_map of (slice_get xs (front_length test xs)) ≡ first_of (λ x. where_true (not (test x)) (of x)) xs
first_behind test of [] = refl
first_behind {A} {B} test of (x ∷ xs) = by (test x) (first_behind test of xs)
  where
    by : (b : Bool) → option_map of (slice_get xs (front_length test xs)) ≡ first_of (λ y. where_true (not (test y)) (of y)) xs
        → option_map of (slice_get (x ∷ xs) (cond b (suc (front_length test xs)) 0)) ≡ first_some (where_true (not b) (of x) ∷ first_of (λ y. where_true (not (test y)) (of y)) xs ∷ [])
    by true rest = rest ∙ alone (first_of (λ y. where_true (not (test y)) (of y)) xs)
      where
        alone : (o : Option B) → o ≡ first_some (o ∷ [])
        alone None = refl
        alone (Some y) = refl
    by false rest = refl

-- this many more are found after it
pub front_further : {A : Type 0} (test : A → Bool) (n more : ℕ) (xs rest : List A) → n ≤ front_length test xs → rest ≡ drop n xs → more ≡ front_length test rest → n + more ≡ front_length test xs
front_further test n more xs rest front is count = let all = front_behind test n xs front in let same = count ∙ ap (front_length test) is in omega (arith, same, all)

pub front_within : {A : Type 0} (test : A → Bool) (n : ℕ) (xs : List A) → n ≤ front_length test xs → n ≤ length xs
front_within test n xs front = let most = front_most test xs in omega (arith, front, most)

-- ---- the first that is held and not in the sequence

first_dropped : (a : Admission) (n : ℕ) (held : List Held) → n ≤ front_length (is_ordered a) held → first_of (unordered a) (drop n held) ≡ first_of (unordered a) held
first_dropped a zero held few = refl
first_dropped a (suc n) [] few = absurd (omega (arith, few))
first_dropped a (suc n) (h ∷ hs) few = by (is_ordered a h) few (first_dropped a n hs)
  where
    by : (b : Bool) → suc n ≤ cond b (suc (front_length (is_ordered a) hs)) 0 → (n ≤ front_length (is_ordered a) hs → first_of (unordered a) (drop n hs) ≡ first_of (unordered a) hs)
        → first_of (unordered a) (drop n hs) ≡ first_some (where_true (not b) h.digest ∷ first_of (unordered a) hs ∷ [])
    by true e more = more (omega (arith, e)) ∙ sym (alone (first_of (unordered a) hs))
    by false e more = absurd (omega (arith, e))

pub found_first : (n count : ℕ) (a : Admission) (held : List Held) → n ≤ front_length (is_ordered a) held → count ≡ front_length (is_ordered a) (drop n held)
    → option_map (λ (h : Held). h.digest) (slice_get (drop n held) count) ≡ first_of (unordered a) held
found_first n count a held front is =
    ap (λ k. option_map (λ (h : Held). h.digest) (slice_get (drop n held) k)) is
    ∙ first_behind (is_ordered a) (λ (h : Held). h.digest) (drop n held)
    ∙ first_dropped a n held front
