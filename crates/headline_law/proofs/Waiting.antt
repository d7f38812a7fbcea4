-- After every entry no pending certificate is free: what is free is taken, one after the other, and each that is taken leaves the pending ones.
use Rattle.std.proofs.Common.{inl, inr, refl, ap, arith}
use Rattle.std.specs.Prelude.{◌≡◌, ◌≤◌, ◌<◌, ℕ, zero, suc, Bool, true, false, cond, List, [], ◌∷◌, ◌++◌, filter, find, fold, length, Option, Some, None}
use Rattle.chain_types.specs.declared.objects.Object.{Object}
use Rattle.protocol_spec.specs.declared.answers.Held.{Held}
use Rattle.protocol_spec.proofs.Equality.{digest_self}
use Rattle.protocol_spec.proofs.ListLemmas.{find_has}
use Rattle.protocol_spec.specs.Chain.Words.{Has}
use Rattle.protocol_spec.specs.Chain.Certificates.{Rules}
use Rattle.protocol_spec.specs.Member.Admission.{Admission, is_free, not_of, taken_as, taken, is_dropped, taken_next, take_free, entered, passed_mark, admit}
use Rattle.protocol_spec.specs.Member.Sequence.{Sequence, What, takes, commits, counts, ignores, nothing_seen, what_of, counted_as, ends_with_member, with_what, with_entry, saw, seen}

-- ---- a filter leaves no more, and fewer if one element fails

module _ {A : Type 0} (test : A → Bool) where
  no-more : (xs : List A) → length (filter test xs) ≤ length xs
  no-more [] = omega arith
  no-more (x ∷ xs) = go (test x) (no-more xs)
    where
      go : (b : Bool) → length (filter test xs) ≤ length xs → length (cond b (x ∷ filter test xs) (filter test xs)) ≤ length (x ∷ xs)
      go true less = omega (arith, less)
      go false less = omega (arith, less)

  fewer : (xs : List A) (x : A) → Has xs x → test x ≡ false → length (filter test xs) < length xs
  fewer [] x h e = absurd h
  fewer (y ∷ ys) x (inl same) e = go (test y) (ap test same) (no-more ys)
    where
      go : (b : Bool) → b ≡ test x → length (filter test ys) ≤ length ys → length (cond b (y ∷ filter test ys) (filter test ys)) < length (y ∷ ys)
      go true is less = absurd (cc)
      go false is less = omega (arith, less)
  fewer (y ∷ ys) x (inr h) e = go (test y) (fewer ys x h e)
    where
      go : (b : Bool) → length (filter test ys) < length ys → length (cond b (y ∷ filter test ys) (filter test ys)) < length (y ∷ ys)
      go true less = omega (arith, less)
      go false less = omega (arith, less)

-- ---- taking

abbrev pub IsIdle : Option ℕ → Admission → Type 0
IsIdle writers a = find (is_free writers a) a.pending ≡ None

module _ (writers : Option ℕ) (opening : List Object) where
  not-itself : (h : Held) → not_of h h ≡ false
  not-itself h = rw (digest_self h.digest) refl

  pending-fewer : (b : Bool) (a : Admission) (h : Held) → Has a.pending h → length (taken_as b opening a h).pending < length a.pending
  unfolding admit
  pending-fewer true a h there = fewer (not_of h) a.pending h there (not-itself h)
  pending-fewer false a h there = fewer (not_of h) a.pending h there (not-itself h)

  none-pending : (a : Admission) → length a.pending ≤ 0 → IsIdle writers a
  none-pending a few = go a.pending few
    where
      go : (hs : List Held) → length hs ≤ 0 → find (is_free writers a) hs ≡ None
      go [] few = refl
      go (h ∷ hs) few = absurd (omega (arith, few))

  idle-taken : (n : ℕ) (a : Admission) → length a.pending ≤ n → IsIdle writers (take_free writers opening n a)
  idle-taken zero a few = none-pending a few
  idle-taken (suc n) a few = go (find (is_free writers a) a.pending) refl (idle-taken n)
    where
      go : (o : Option Held) → find (is_free writers a) a.pending ≡ o → ((b : Admission) → length b.pending ≤ n → IsIdle writers (take_free writers opening n b)) → IsIdle writers (taken_next (take_free writers opening n) opening a o)
      go None e rest = e
      go (Some h) e rest =
          let less = pending-fewer (is_dropped opening a.admitted h.cert) a h (find_has (is_free writers a) a.pending h e) in
          rest (taken opening a h) (omega (arith, few, less))

-- ---- entries

module _ (r : Rules) (opening : List Object) where
  idle-what : (q : Sequence) (what : What) → IsIdle r.writers q.admission → IsIdle r.writers (with_what r opening q what).admission
  unfolding entered passed_mark
  idle-what q (takes h) idle = idle-taken r.writers opening (length (q.admission.pending ++ h ∷ [])) (record q.admission { pending = q.admission.pending ++ h ∷ [] }) (omega arith)
  idle-what q commits idle = idle-taken r.writers opening (length q.admission.pending) (record q.admission { marked = length q.admission.admitted }) (omega arith)
  idle-what q (counts m) idle = go (ends_with_member r q m)
    where
      go : (b : Bool) → IsIdle r.writers (counted_as b q m).admission
      go true = idle
      go false = idle
  idle-what q (ignores cause) idle = idle

  idle-saw : (epoch : ℕ) (q : Sequence) (bytes : List ℕ) → IsIdle r.writers q.admission → IsIdle r.writers (saw r opening epoch q bytes).admission
  unfolding saw with_entry
  idle-saw epoch q bytes idle = go q.ended
    where
      go : (b : Bool) → IsIdle r.writers (cond b q (with_entry r opening q (what_of r epoch q bytes))).admission
      go true = idle
      go false = idle-what q (what_of r epoch q bytes) idle

  idle-fold : (epoch : ℕ) (entries : List (List ℕ)) (q : Sequence) → IsIdle r.writers q.admission → IsIdle r.writers (fold (saw r opening epoch) q entries).admission
  idle-fold epoch [] q idle = idle
  idle-fold epoch (bytes ∷ entries) q idle = idle-fold epoch entries (saw r opening epoch q bytes) (idle-saw epoch q bytes idle)

pub nothing-free : (r : Rules) (opening : List Object) (epoch : ℕ) (entries : List (List ℕ)) → IsIdle r.writers (seen r opening epoch entries).admission
unfolding seen
nothing-free r opening epoch entries = idle-fold r opening epoch entries nothing_seen refl
