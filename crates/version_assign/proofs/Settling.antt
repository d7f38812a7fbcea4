-- Taking what is free, one after the other: how often does not matter, and if nothing is free all is taken.
use Rattle.std.proofs.Common.{◌≡◌, ℕ, zero, suc, Bool, true, false, cond, not, List, [], ◌∷◌, Option, Some, None, length, refl, ap, sym, subst, ◌∙◌, ◌≤◌, ◌<◌, ◌+◌, arith, length-append}
use Rattle.std.specs.Prelude.{find, filter}
use Rattle.chain_types.specs.declared.objects.Object.{Object}
use Rattle.protocol_spec.specs.declared.answers.Held.{Held}
use Rattle.protocol_spec.proofs.Equality.{digest_self}
use Rattle.protocol_spec.specs.Member.Admission.{Admission, is_dropped, is_free, not_of, take_all, take_free, taken, taken_as, taken_next}
use Rattle.version_assign.specs.Calls.{Admitting, settled, with_taken}
use Rattle.version_assign.specs.Steps.{is_free_one}

filter_le : (p : Held → Bool) (xs : List Held) → length (filter p xs) ≤ length xs
filter_le p [] = omega arith
filter_le p (x ∷ xs) = by (p x) (filter_le p xs)
  where
    by : (b : Bool) → length (filter p xs) ≤ length xs → length (cond b (x ∷ filter p xs) (filter p xs)) ≤ length (x ∷ xs)
    by true h = omega arith
    by false h = omega arith

-- without a certificate that is among them they are fewer
pub shorter : (test : Held → Bool) (h : Held) (xs : List Held) → find test xs ≡ Some h → length (filter (not_of h) xs) + 1 ≤ length xs
shorter test h [] e = absurd (cc)
shorter test h (x ∷ xs) e = by (test x) e (shorter test h xs)
  where
    here : x ≡ h → (b : Bool) → not_of h x ≡ b → length (cond b (x ∷ filter (not_of h) xs) (filter (not_of h) xs)) + 1 ≤ length (x ∷ xs)
    here is false out = let l : length (filter (not_of h) xs) ≤ length xs = filter_le (not_of h) xs in omega arith
    here is true out = absurd (clash (sym out ∙ ap (not_of h) is ∙ ap not (digest_self h.digest)))
      where
        clash : true ≡ false → ⊥
        clash f = cc

    there : (b : Bool) → length (filter (not_of h) xs) + 1 ≤ length xs → length (cond b (x ∷ filter (not_of h) xs) (filter (not_of h) xs)) + 1 ≤ length (x ∷ xs)
    there true l = omega arith
    there false l = omega arith

    same : Some x ≡ Some h → x ≡ h
    same f = cc

    by : (b : Bool) → cond b (Some x) (find test xs) ≡ Some h → (find test xs ≡ Some h → length (filter (not_of h) xs) + 1 ≤ length xs)
        → length (cond (not_of h x) (x ∷ filter (not_of h) xs) (filter (not_of h) xs)) + 1 ≤ length (x ∷ xs)
    by true f more = here (same f) (not_of h x) refl
    by false f more = there (not_of h x) (more f)

empty : (test : Held → Bool) (xs : List Held) → length xs ≤ 0 → find test xs ≡ None
empty test [] h = refl
empty test (x ∷ xs) h = absurd (omega (arith, h))

pub pending_as : (b : Bool) (opening : List Object) (a : Admission) (h : Held) → (taken_as b opening a h).pending ≡ filter (not_of h) a.pending
pending_as true opening a h = refl
pending_as false opening a h = refl

admitted_as_most : (b : Bool) (opening : List Object) (a : Admission) (h : Held) → length (taken_as b opening a h).admitted ≤ length a.admitted + 1
admitted_as_most true opening a h = omega arith
admitted_as_most false opening a h = simp length-append (omega arith)

dropped_as_most : (b : Bool) (opening : List Object) (a : Admission) (h : Held) → length (taken_as b opening a h).dropped ≤ length a.dropped + 1
dropped_as_most true opening a h = simp length-append (omega arith)
dropped_as_most false opening a h = omega arith

module _ (writers : Option ℕ) (opening : List Object) where
  smaller : (a : Admission) (h : Held) → find (is_free writers a) a.pending ≡ Some h → length (taken opening a h).pending + 1 ≤ length a.pending
  smaller a h e =
      subst (λ (xs : List Held). length xs + 1 ≤ length a.pending) (sym (pending_as (is_dropped opening a.admitted h.cert) opening a h)) (shorter (is_free writers a) h a.pending e)

  next_none : (n : ℕ) (a : Admission) → find (is_free writers a) a.pending ≡ None → take_free writers opening n a ≡ a
  next_none zero a e = refl
  next_none (suc n) a e = ap (taken_next (take_free writers opening n) opening a) e

  next_some : (n : ℕ) (a : Admission) (h : Held) → find (is_free writers a) a.pending ≡ Some h → take_free writers opening (suc n) a ≡ take_free writers opening n (taken opening a h)
  next_some n a h e = ap (taken_next (take_free writers opening n) opening a) e

  same_fuel : (n m : ℕ) (a : Admission) → length a.pending ≤ n → length a.pending ≤ m → take_free writers opening n a ≡ take_free writers opening m a
  same_fuel zero m a p q = sym (next_none m a (empty (is_free writers a) a.pending p))
  same_fuel (suc n) zero a p q = next_none (suc n) a (empty (is_free writers a) a.pending q)
  same_fuel (suc n) (suc m) a p q = go (same_fuel n m) (find (is_free writers a) a.pending) refl
    where
      go : ((b : Admission) → length b.pending ≤ n → length b.pending ≤ m → take_free writers opening n b ≡ take_free writers opening m b)
          → (o : Option Held) → find (is_free writers a) a.pending ≡ o → take_free writers opening (suc n) a ≡ take_free writers opening (suc m) a
      go more None e = next_none (suc n) a e ∙ sym (next_none (suc m) a e)
      go more (Some h) e =
          let l : length (taken opening a h).pending + 1 ≤ length a.pending = smaller a h e in
          next_some n a h e ∙ more (taken opening a h) (omega arith) (omega arith) ∙ sym (next_some m a h e)

  pub settles_some : (a : Admission) (h : Held) → find (is_free writers a) a.pending ≡ Some h → take_all writers opening (taken opening a h) ≡ take_all writers opening a
  settles_some a h e =
      let l : length (taken opening a h).pending + 1 ≤ length a.pending = smaller a h e in
      same_fuel (length (taken opening a h).pending) (length a.pending) (taken opening a h) (omega arith) (omega arith)
      ∙ sym (next_some (length a.pending) a h e)
      ∙ same_fuel (suc (length a.pending)) (length a.pending) a (omega arith) (omega arith)

  -- no more is admitted, or dropped, than waited
  pub few_admitted : (n : ℕ) (a : Admission) → length (take_free writers opening n a).admitted ≤ length a.admitted + length a.pending
  few_admitted zero a = omega arith
  few_admitted (suc n) a = go (few_admitted n) (find (is_free writers a) a.pending) refl
    where
      go : ((b : Admission) → length (take_free writers opening n b).admitted ≤ length b.admitted + length b.pending)
          → (o : Option Held) → find (is_free writers a) a.pending ≡ o → length (take_free writers opening (suc n) a).admitted ≤ length a.admitted + length a.pending
      go more None e = subst (λ (b : Admission). length b.admitted ≤ length a.admitted + length a.pending) (sym (next_none (suc n) a e)) (omega arith)
      go more (Some h) e =
          let l : length (taken opening a h).pending + 1 ≤ length a.pending = smaller a h e in
          let m : length (taken opening a h).admitted ≤ length a.admitted + 1 = admitted_as_most (is_dropped opening a.admitted h.cert) opening a h in
          let i : length (take_free writers opening n (taken opening a h)).admitted ≤ length (taken opening a h).admitted + length (taken opening a h).pending = more (taken opening a h) in
          subst (λ (b : Admission). length b.admitted ≤ length a.admitted + length a.pending) (sym (next_some n a h e)) (omega arith)

  pub few_dropped : (n : ℕ) (a : Admission) → length (take_free writers opening n a).dropped ≤ length a.dropped + length a.pending
  few_dropped zero a = omega arith
  few_dropped (suc n) a = go (few_dropped n) (find (is_free writers a) a.pending) refl
    where
      go : ((b : Admission) → length (take_free writers opening n b).dropped ≤ length b.dropped + length b.pending)
          → (o : Option Held) → find (is_free writers a) a.pending ≡ o → length (take_free writers opening (suc n) a).dropped ≤ length a.dropped + length a.pending
      go more None e = subst (λ (b : Admission). length b.dropped ≤ length a.dropped + length a.pending) (sym (next_none (suc n) a e)) (omega arith)
      go more (Some h) e =
          let l : length (taken opening a h).pending + 1 ≤ length a.pending = smaller a h e in
          let m : length (taken opening a h).dropped ≤ length a.dropped + 1 = dropped_as_most (is_dropped opening a.admitted h.cert) opening a h in
          let i : length (take_free writers opening n (taken opening a h)).dropped ≤ length (taken opening a h).dropped + length (taken opening a h).pending = more (taken opening a h) in
          subst (λ (b : Admission). length b.dropped ≤ length a.dropped + length a.pending) (sym (next_some n a h e)) (omega arith)

-- ---- likewise for what an admission is seen as

pub one_smaller : (s : Admitting) (o : Option Held) → o ≡ find (is_free s.writers s.admission) s.admission.pending → is_free_one s o ≡ true → length (with_taken s o).admission.pending < length s.admission.pending
one_smaller s None e free = absurd (cc)
one_smaller s (Some h) e free = let l : length (taken s.opening s.admission h).pending + 1 ≤ length s.admission.pending = smaller s.writers s.opening s.admission h (sym e) in omega arith

pub one_same : (s : Admitting) (o : Option Held) → o ≡ find (is_free s.writers s.admission) s.admission.pending → is_free_one s o ≡ true → settled (with_taken s o) ≡ settled s
one_same s None e free = absurd (cc)
one_same s (Some h) e free = ap (λ (a : Admission). let t : Admitting = record s { admission = a } in t) (settles_some s.writers s.opening s.admission h (sym e))
