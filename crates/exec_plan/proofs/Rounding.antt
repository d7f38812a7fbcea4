-- A round of some places is the round of all certificates, if those left out are not ready; a run's rounds.
use Rattle.std.proofs.Common.{◌≡◌, ℕ, zero, suc, ◌+◌, ◌-◌, ◌<◌, Bool, true, false, List, [], ◌∷◌, ◌++◌, length, Some, None, inl, inr, refl, ap, sym, subst, ◌∙◌, append-nil, arith}
use Rattle.std.specs.Prelude.{◌⊎◌, ◌==◌, ◌≤◌, slice_get}
use Rattle.std.specs.List.{AllByRecursion}
use Rattle.std.specs.List.Sorted.{IsStrictlySortedBy}
use Rattle.std.specs.Ordering.{nat_cmp}
use Rattle.std.specs.declared.cmp.Ordering.TheVariants.{Less}
use Rattle.protocol_spec.specs.declared.answers.Held.{Held}
use Rattle.protocol_spec.proofs.ListLemmas.{each_has}
use Rattle.protocol_spec.specs.Chain.Words.{Each, Has}
use Rattle.exec_plan.specs.Places.{Picks}

-- ---- places

-- the element after a prefix
pub at_front : {A : Type 0} (front : List A) (x : A) (xs : List A) → slice_get (front ++ x ∷ xs) (length front) ≡ Some x
at_front [] x xs = refl
at_front (y ∷ front) x xs = at_front front x xs

pub longer : {A : Type 0} (front : List A) (x : A) → length (front ++ x ∷ []) ≡ suc (length front)
longer [] x = refl
longer (y ∷ front) x = ap suc (longer front x)

-- places that ascend
abbrev pub Ascends : List ℕ → Type 0
Ascends [] = Unit {0}
Ascends (p ∷ ps) = Each (λ q. p < q) ps × Ascends ps

pub ascends : (places : List ℕ) → IsStrictlySortedBy nat_cmp places → Ascends places
unfolding IsStrictlySortedBy
ascends [] sorted = tt
ascends (p ∷ ps) sorted = (above ps sorted.0, ascends ps sorted.1)
  where
    above : (qs : List ℕ) → AllByRecursion (λ q. nat_cmp p q ≡ Less) qs → Each (λ q. p < q) qs
    above [] all = tt
    above (q ∷ qs) all = (grind (arith, all.0), above qs all.1)

each_map : {A : Type 0} → (P Q : A → Type 0) → ((x : A) → P x → Q x) → (xs : List A) → Each P xs → Each Q xs
each_map P Q weaker [] each = tt
each_map P Q weaker (x ∷ xs) each = (weaker x each.0, each_map P Q weaker xs each.1)

-- ascending places pick what they name, if all else is idle
module _ (Idle : Held → Type 0) where
  -- which certificates of a tail are picked
  abbrev Names : ℕ → List ℕ → List Held → Type 0
  Names n places hs = (i : ℕ) (h : Held) → slice_get hs i ≡ Some h → Has places (n + i) ⊎ Idle h

  abbrev Below : ℕ → List ℕ → Type 0
  Below n places = Each (λ p. n ≤ p) places

  later : (n : ℕ) (places : List ℕ) (h : Held) (hs : List Held) → Names n places (h ∷ hs) → Names (suc n) places hs
  later n places h hs names i k at =
      let next : n + suc i ≡ suc n + i = omega arith in
      subst (λ m. Has places m ⊎ Idle k) next (names (suc i) k at)

  first_idle : (n p : ℕ) (ps : List ℕ) (h : Held) → n < p → Each (λ q. p < q) ps → Has (p ∷ ps) (n + 0) ⊎ Idle h → Idle h
  first_idle n p ps h less above (inr idle) = idle
  first_idle n p ps h less above (inl (inl is)) = absurd (omega (arith, less, is))
  first_idle n p ps h less above (inl (inr has)) =
      let more : p < n + 0 = each_has (λ q. p < q) ps (n + 0) above has in
      absurd (omega (arith, less, more))

  behind_first : (n : ℕ) (ps : List ℕ) (h : Held) (hs : List Held) → Names n (n ∷ ps) (h ∷ hs) → Names (suc n) ps hs
  behind_first n ps h hs names i k at = go (later n (n ∷ ps) h hs names i k at)
    where
      go : Has (n ∷ ps) (suc n + i) ⊎ Idle k → Has ps (suc n + i) ⊎ Idle k
      go (inr idle) = inr idle
      go (inl (inr has)) = inl has
      go (inl (inl is)) = absurd (omega (arith, is))

  pub picks_of : (hs : List Held) (n : ℕ) (places : List ℕ) → Ascends places → Below n places → Names n places hs → Picks Idle n places hs
  picks_of [] n places up below names = below
  picks_of (h ∷ hs) n [] up below names = (first (names 0 h refl), picks_of hs (suc n) [] tt tt (later n [] h hs names))
    where
      first : Has [] (n + 0) ⊎ Idle h → Idle h
      first (inl has) = absurd has
      first (inr idle) = idle
  picks_of (h ∷ hs) n (p ∷ ps) up below names = go (n == p) refl (λ qs. picks_of hs (suc n) qs)
    where
      go : (b : Bool) → (n == p) ≡ b → ((qs : List ℕ) → Ascends qs → Below (suc n) qs → Names (suc n) qs hs → Picks Idle (suc n) qs hs) → Picks Idle n (p ∷ ps) (h ∷ hs)
      go true is more =
          let same : n ≡ p = grind (arith, is) in
          inl (
            sym same,
            more ps up.1 (each_map (λ q. p < q) (λ q. suc n ≤ q) (λ q less. omega (arith, same, less)) ps up.0)
                (behind_first n ps h hs (subst (λ m. Names n (m ∷ ps) (h ∷ hs)) (sym same) names)),
          )
      go false is more =
          let less : n < p = grind (arith, is, below.0) in
          inr (
            first_idle n p ps h less up.0 (names 0 h refl),
            more (p ∷ ps) up (omega (arith, less), each_map (λ q. p < q) (λ q. suc n ≤ q) (λ q next. omega (arith, less, next)) ps up.0) (later n (p ∷ ps) h hs names),
          )

-- after the last certificate there is none
pub at_none : (hs : List Held) (p : ℕ) → length hs ≤ p → slice_get hs p ≡ None
at_none [] p far = refl
at_none (h ∷ hs) zero far = absurd (omega (arith, far))
at_none (h ∷ hs) (suc p) far = at_none hs p (omega (arith, far))

pub all_far : (all : List Held) (places : List ℕ) (front : List Held) → all ≡ front ++ [] → Each (λ p. length front ≤ p) places → Each (λ p. length all ≤ p) places
all_far all places front is far = subst (λ (hs : List Held). Each (λ p. length hs ≤ p) places) (sym (is ∙ append-nil front)) far
