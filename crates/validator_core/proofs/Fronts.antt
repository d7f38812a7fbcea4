-- Held certificates whose transactions are in the sequence: how many at the start, after each step.
use Rattle.std.proofs.Common.{◌≡◌, ◌∙◌, refl, arith, ap, sym, subst, ℕ, zero, suc, ◌≤◌, Bool, true, false, cond, not, ◌||◌, List, [], ◌∷◌, ◌++◌, filter, length, inl, inr}
use Rattle.std.specs.Prelude.{◌⊎◌, Option, Some, None, find, is_some}
use Rattle.std.specs.List.{list_any}
use Rattle.digest_core.specs.declared.Digest.{Digest}
use Rattle.chain_types.specs.declared.objects.Object.{Object}
use Rattle.chain_types.specs.Equal.{digest_eq}
use Rattle.protocol_spec.specs.declared.answers.Held.{Held}
use Rattle.protocol_spec.proofs.Equality.{digest_same, digest_self}
use Rattle.protocol_spec.proofs.ListLemmas.{any_front}
use Rattle.protocol_spec.proofs.Truth.{or_right, or_left, or_true}
use Rattle.protocol_spec.specs.Chain.Committee.{is_quorum, weight}
use Rattle.protocol_spec.specs.Member.Admission.{Admission, Admitted, admit, entered, is_admitted, is_dropped, is_free, is_known, not_of, passed_mark, take_free, taken, taken_as, taken_next}
use Rattle.protocol_spec.specs.Member.Checkpoints.{held_of}
use Rattle.protocol_spec.specs.Member.Sequence.{counted_as}
use Rattle.epoch_turn.specs.Dues.{front_length, is_ordered}
use Rattle.validator_core.specs.declared.entries.EntryOutcome.{EntryOutcome}
use Rattle.validator_core.specs.declared.entries.EntryOutcome.TheVariants as arrivals
use Rattle.validator_core.specs.Courses.{Coursed, arrives, numbered_in, with_held}
use Rattle.validator_core.specs.Sound.{ordered_front}

-- ---- prefixes of lists

pub front_grows : {A : Type 0} (test : A → Bool) (xs more : List A) → front_length test xs ≤ front_length test (xs ++ more)
front_grows test [] more = omega arith
front_grows test (x ∷ xs) more = by (test x) (front_grows test xs more)
  where
    by : (b : Bool) → front_length test xs ≤ front_length test (xs ++ more) → cond b (suc (front_length test xs)) 0 ≤ cond b (suc (front_length test (xs ++ more))) 0
    by true fewer = omega (arith, fewer)
    by false fewer = omega arith

pub front_more : {A : Type 0} (p q : A → Bool) (xs : List A) → ((x : A) → p x ≡ true → q x ≡ true) → front_length p xs ≤ front_length q xs
front_more p q [] to = omega arith
front_more p q (x ∷ xs) to = by (p x) (q x) (to x) (front_more p q xs to)
  where
    by : (b c : Bool) → (b ≡ true → c ≡ true) → front_length p xs ≤ front_length q xs → cond b (suc (front_length p xs)) 0 ≤ cond c (suc (front_length q xs)) 0
    by true true h fewer = omega (arith, fewer)
    by true false h fewer = absurd (let e = h refl in cc)
    by false c h fewer = omega arith

-- ---- what is in the sequence stays there

any_last : {A : Type 0} (test : A → Bool) (xs : List A) (y : A) → test y ≡ true → list_any test (xs ++ y ∷ []) ≡ true
any_last test [] y e = or_left (test y) false e
any_last test (x ∷ xs) y e = or_right (test x) (list_any test (xs ++ y ∷ [])) (any_last test xs y e)

abbrev pub is_of : Digest → Held → Bool
is_of tx g = digest_eq g.digest tx

-- it still waits, or is the one that is taken
waits_or_is : (h : Held) (tx : Digest) (gs : List Held) → list_any (is_of tx) gs ≡ true → (list_any (is_of tx) (filter (not_of h) gs) ≡ true) ⊎ (digest_eq h.digest tx ≡ true)
waits_or_is h tx [] e = absurd (cc)
waits_or_is h tx (g ∷ gs) e = by (digest_eq h.digest g.digest) refl (or_true (is_of tx g) (list_any (is_of tx) gs) e) (waits_or_is h tx gs)
  where
    by : (b : Bool) → digest_eq h.digest g.digest ≡ b → (is_of tx g ≡ true) ⊎ (list_any (is_of tx) gs ≡ true)
        → (list_any (is_of tx) gs ≡ true → (list_any (is_of tx) (filter (not_of h) gs) ≡ true) ⊎ (digest_eq h.digest tx ≡ true))
        → (list_any (is_of tx) (cond (not b) (g ∷ filter (not_of h) gs) (filter (not_of h) gs)) ≡ true) ⊎ (digest_eq h.digest tx ≡ true)
    by true same (inl here) rest = inr (ap (λ (d : Digest). digest_eq d tx) (digest_same h.digest g.digest same) ∙ here)
    by true same (inr later) rest = rest later
    by false other (inl here) rest = inl (or_left (is_of tx g) (list_any (is_of tx) (filter (not_of h) gs)) here)
    by false other (inr later) rest = more (rest later)
      where
        more : (list_any (is_of tx) (filter (not_of h) gs) ≡ true) ⊎ (digest_eq h.digest tx ≡ true) → (list_any (is_of tx) (g ∷ filter (not_of h) gs) ≡ true) ⊎ (digest_eq h.digest tx ≡ true)
        more (inl left) = inl (or_right (is_of tx g) (list_any (is_of tx) (filter (not_of h) gs)) left)
        more (inr is) = inr is

abbrev pub StaysKnown : Digest → Admission → Admission → Type 0
StaysKnown tx old new = is_known old tx ≡ true → is_known new tx ≡ true

-- it was admitted or dropped, waits, or is the one that is taken
known_with : (tx : Digest) (h : Held) (old new : Admission) → (is_admitted old.admitted tx ≡ true → is_admitted new.admitted tx ≡ true)
    → (list_any (digest_eq tx) old.dropped ≡ true → list_any (digest_eq tx) new.dropped ≡ true) → new.pending ≡ filter (not_of h) old.pending
    → (digest_eq h.digest tx ≡ true → is_known new tx ≡ true) → StaysKnown tx old new
known_with tx h old new admits drops waits gone known =
    by (or_true (is_admitted old.admitted tx || list_any (digest_eq tx) old.dropped) (list_any (is_of tx) old.pending) known)
  where
    settled : (is_admitted new.admitted tx || list_any (digest_eq tx) new.dropped) ≡ true → is_known new tx ≡ true
    settled e = or_left (is_admitted new.admitted tx || list_any (digest_eq tx) new.dropped) (list_any (is_of tx) new.pending) e

    before : (is_admitted old.admitted tx ≡ true) ⊎ (list_any (digest_eq tx) old.dropped ≡ true) → is_known new tx ≡ true
    before (inl let_in) = settled (or_left (is_admitted new.admitted tx) (list_any (digest_eq tx) new.dropped) (admits let_in))
    before (inr out) = settled (or_right (is_admitted new.admitted tx) (list_any (digest_eq tx) new.dropped) (drops out))

    waiting : (list_any (is_of tx) (filter (not_of h) old.pending) ≡ true) ⊎ (digest_eq h.digest tx ≡ true) → is_known new tx ≡ true
    waiting (inl left) = or_right (is_admitted new.admitted tx || list_any (digest_eq tx) new.dropped) (list_any (is_of tx) new.pending) (ap (list_any (is_of tx)) waits ∙ left)
    waiting (inr is) = gone is

    by : ((is_admitted old.admitted tx || list_any (digest_eq tx) old.dropped) ≡ true) ⊎ (list_any (is_of tx) old.pending ≡ true) → is_known new tx ≡ true
    by (inl e) = before (or_true (is_admitted old.admitted tx) (list_any (digest_eq tx) old.dropped) e)
    by (inr e) = waiting (waits_or_is h tx old.pending e)

same_turned : (a b : Digest) → digest_eq a b ≡ true → digest_eq b a ≡ true
same_turned a b e = let is : a ≡ b = digest_same a b e in ap (digest_eq b) is ∙ digest_self b

known_taken_as : (opening : List Object) (a : Admission) (h : Held) (tx : Digest) (b : Bool) → StaysKnown tx a (taken_as b opening a h)
unfolding admit
known_taken_as opening a h tx true =
    known_with tx h a (taken_as true opening a h) (λ e. e) (λ e. any_front (digest_eq tx) a.dropped (h.digest ∷ []) e) refl
    (λ is. or_left (is_admitted a.admitted tx || list_any (digest_eq tx) (a.dropped ++ h.digest ∷ [])) (list_any (is_of tx) (filter (not_of h) a.pending))
    (or_right (is_admitted a.admitted tx) (list_any (digest_eq tx) (a.dropped ++ h.digest ∷ [])) (any_last (digest_eq tx) a.dropped h.digest (same_turned h.digest tx is))))
known_taken_as opening a h tx false =
    known_with tx h a (taken_as false opening a h) (λ e. any_front is_tx a.admitted (admit opening a.admitted h ∷ []) e) (λ e. e) refl
    (λ is. or_left (is_admitted (a.admitted ++ admit opening a.admitted h ∷ []) tx || list_any (digest_eq tx) a.dropped) (list_any (is_of tx) (filter (not_of h) a.pending))
    (or_left (is_admitted (a.admitted ++ admit opening a.admitted h ∷ []) tx) (list_any (digest_eq tx) a.dropped) (any_last is_tx a.admitted (admit opening a.admitted h) is)))
  where
    is_tx : Admitted → Bool
    is_tx x = digest_eq x.digest tx

known_taken : (writers : Option ℕ) (opening : List Object) (n : ℕ) (a : Admission) (tx : Digest) → StaysKnown tx a (take_free writers opening n a)
known_taken writers opening zero a tx known = known
known_taken writers opening (suc n) a tx known = by (find (is_free writers a) a.pending) (known_taken writers opening n)
  where
    by : (o : Option Held) → ((b : Admission) (x : Digest) → StaysKnown x b (take_free writers opening n b)) → is_known (taken_next (take_free writers opening n) opening a o) tx ≡ true
    by None next = known
    by (Some h) next = next (taken opening a h) tx (known_taken_as opening a h tx (is_dropped opening a.admitted h.cert) known)

known_entered : (writers : Option ℕ) (opening : List Object) (a : Admission) (h : Held) (tx : Digest) → StaysKnown tx a (entered writers opening a h)
unfolding entered
known_entered writers opening a h tx known = known_taken writers opening (length (a.pending ++ h ∷ [])) (record a { pending = a.pending ++ h ∷ [] }) tx (waits (or_true settled (list_any (is_of tx) a.pending) known))
  where
    settled : Bool
    settled = is_admitted a.admitted tx || list_any (digest_eq tx) a.dropped

    waits : (settled ≡ true) ⊎ (list_any (is_of tx) a.pending ≡ true) → (settled || list_any (is_of tx) (a.pending ++ h ∷ [])) ≡ true
    waits (inl e) = or_left settled (list_any (is_of tx) (a.pending ++ h ∷ [])) e
    waits (inr e) = or_right settled (list_any (is_of tx) (a.pending ++ h ∷ [])) (any_front (is_of tx) a.pending (h ∷ []) e)

known_marked : (writers : Option ℕ) (opening : List Object) (a : Admission) (tx : Digest) → StaysKnown tx a (passed_mark writers opening a)
unfolding passed_mark
known_marked writers opening a tx known = known_taken writers opening (length a.pending) (record a { marked = length a.admitted }) tx known

-- ---- the prefix after each step

pub front_held : (cs : Coursed) (h : Held) → ordered_front cs ≤ ordered_front (with_held cs h)
front_held cs h = front_grows (is_ordered cs.sequence.admission) cs.held (h ∷ [])

front_arrives : (stakes : List ℕ) (cs : Coursed) (arrival : EntryOutcome) → ordered_front cs ≤ ordered_front (arrives stakes cs arrival)
front_arrives stakes cs (arrivals.Takes h) = by (is_some (held_of cs.held h.digest))
  where
    old : Admission
    old = cs.sequence.admission

    new : Admission
    new = entered cs.writers cs.opening old h

    knows : front_length (is_ordered old) cs.held ≤ front_length (is_ordered new) cs.held
    knows = front_more (is_ordered old) (is_ordered new) cs.held (λ g known. known_entered cs.writers cs.opening old h g.digest known)

    by : (b : Bool) → front_length (is_ordered old) cs.held ≤ front_length (is_ordered new) (cond b cs.held (cs.held ++ h ∷ []))
    by true = knows
    by false = let more = front_grows (is_ordered new) cs.held (h ∷ []) in let k = knows in omega (arith, k, more)
front_arrives stakes cs arrivals.Commits =
    front_more (is_ordered cs.sequence.admission) (is_ordered (passed_mark cs.writers cs.opening cs.sequence.admission)) cs.held (λ g known. known_marked cs.writers cs.opening cs.sequence.admission g.digest known)
front_arrives stakes cs (arrivals.Counts member) = by (is_quorum stakes (weight stakes (cs.sequence.counted ++ member ∷ [])))
  where
    by : (b : Bool) → ordered_front cs ≤ front_length (is_ordered (counted_as b cs.sequence member).admission) cs.held
    by true = omega arith
    by false = omega arith
front_arrives stakes cs (arrivals.Ignores cause) = omega arith

-- ---- what a state keeps of it

pub ordered_held : (n : ℕ) (cs : Coursed) (h : Held) (new : Coursed) → n ≤ ordered_front cs → new ≡ with_held cs h → n ≤ ordered_front new
ordered_held n cs h new front is = subst (λ (x : Coursed). n ≤ ordered_front x) (sym is) (let more = front_held cs h in omega (arith, front, more))

pub ordered_behind : (stakes : List ℕ) (n : ℕ) (cs : Coursed) (arrival : EntryOutcome) (new : Coursed) → n ≤ ordered_front cs → new ≡ numbered_in (arrives stakes cs arrival) → n ≤ ordered_front new
ordered_behind stakes n cs arrival new front is = subst (λ (x : Coursed). n ≤ ordered_front x) (sym is) (let more = front_arrives stakes cs arrival in omega (arith, front, more))
