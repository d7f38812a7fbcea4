-- A member holds what it admitted, and what waits to be admitted.
use Rattle.std.proofs.Common.{refl, sym, subst}
use Rattle.std.specs.Prelude.{◌≡◌, ℕ, zero, suc, Bool, true, false, cond, List, [], ◌∷◌, ◌++◌, fold, find, length, Option, Some, None, is_some}
use Rattle.digest_core.specs.declared.Digest.{Digest}
use Rattle.chain_types.specs.declared.objects.Object.{Object}
use Rattle.chain_types.specs.Equal.{digest_eq}
use Rattle.journal_core.specs.declared.records.Record.{Record}
use Rattle.journal_core.specs.declared.records.Record.TheVariants as record_as
use Rattle.protocol_spec.specs.declared.answers.Held.{Held}
use Rattle.protocol_spec.proofs.Equality.{digest_same, digest_self}
use Rattle.protocol_spec.specs.Chain.Words.{Has, Each}
use Rattle.protocol_spec.specs.Chain.Certificates.{Rules}
use Rattle.protocol_spec.proofs.ListLemmas.{find-each, find-test, filter-each, each_push, each_has, push_has, find_has, each_as}
use Rattle.protocol_spec.specs.Member.Admission.{Admitted, Admission, is_free, not_of, admit, taken_as, taken, is_dropped, taken_next, take_free, entered, passed_mark}
use Rattle.protocol_spec.specs.Member.Sequence.{Sequence, What, takes, commits, counts, ignores, what_of, counted_as, ends_with_member, with_what, with_entry, saw, held_as}
use Rattle.protocol_spec.specs.Member.Checkpoints.{held_of}
use Rattle.protocol_spec.specs.Member.Member.{Member, fresh, held_with, after, state}
use Rattle.headline_law.proofs.Present.{has-find}
use Rattle.headline_law.proofs.Rounds.{some-more}

-- a fact of the digests that are admitted or wait
record AllOf (P : Digest → Type 0) (a : Admission) : Type 0 where
  admitted : Each (λ (x : Admitted). P x.digest) a.admitted
  pending : Each (λ (h : Held). P h.digest) a.pending

module _ (P : Digest → Type 0) (r : Rules) (opening : List Object) where
  of-taken_as : (b : Bool) (a : Admission) (h : Held) → AllOf P a → P h.digest → AllOf P (taken_as b opening a h)
  unfolding admit
  of-taken_as true a h all p = record { admitted = all.admitted; pending = filter-each (λ (k : Held). P k.digest) (λ (k : Held). P k.digest) (not_of h) a.pending (λ k t q. q) all.pending }
  of-taken_as false a h all p = record {
    admitted = each_push (λ (x : Admitted). P x.digest) a.admitted (admit opening a.admitted h) all.admitted p;
    pending = filter-each (λ (k : Held). P k.digest) (λ (k : Held). P k.digest) (not_of h) a.pending (λ k t q. q) all.pending;
  }

  of-next : (next : Admission → Admission) → ((a : Admission) → AllOf P a → AllOf P (next a)) → (a : Admission) (h : Option Held) → find (is_free r.writers a) a.pending ≡ h → AllOf P a → AllOf P (taken_next next opening a h)
  of-next next keeps a None e all = all
  of-next next keeps a (Some h) e all = keeps (taken opening a h) (of-taken_as (is_dropped opening a.admitted h.cert) a h all (find-each (λ (k : Held). P k.digest) (is_free r.writers a) a.pending h all.pending e))

  of-free : (n : ℕ) (a : Admission) → AllOf P a → AllOf P (take_free r.writers opening n a)
  of-free zero a all = all
  of-free (suc n) a all = of-next (take_free r.writers opening n) (of-free n) a (find (is_free r.writers a) a.pending) refl all

  of-what : (q : Sequence) (what : What) → AllOf P q.admission → ((h : Held) → what ≡ takes h → P h.digest) → AllOf P (with_what r opening q what).admission
  unfolding entered passed_mark
  of-what q (takes h) all new = of-free (length (q.admission.pending ++ h ∷ [])) (record q.admission { pending = q.admission.pending ++ h ∷ [] })
      (record { admitted = all.admitted; pending = each_push (λ (k : Held). P k.digest) q.admission.pending h all.pending (new h refl) })
  of-what q commits all new = of-free (length q.admission.pending) (record q.admission { marked = length q.admission.admitted }) (record { admitted = all.admitted; pending = all.pending })
  of-what q (counts m) all new = go (ends_with_member r q m)
    where
      go : (b : Bool) → AllOf P (counted_as b q m).admission
      go true = all
      go false = all
  of-what q (ignores cause) all new = all

  of-saw : (epoch : ℕ) (q : Sequence) (bytes : List ℕ) → AllOf P q.admission → ((h : Held) → what_of r epoch q bytes ≡ takes h → P h.digest) → AllOf P (saw r opening epoch q bytes).admission
  unfolding saw with_entry
  of-saw epoch q bytes all new = go q.ended
    where
      go : (b : Bool) → AllOf P (cond b q (with_entry r opening q (what_of r epoch q bytes))).admission
      go true = all
      go false = of-what q (what_of r epoch q bytes) all new

-- ---- a certificate with this digest is held

abbrev IsHeldIn : List Held → Digest → Type 0
IsHeldIn held tx = is_some (held_of held tx) ≡ true

abbrev is_of_digest : Digest → Held → Bool
is_of_digest tx h = digest_eq h.digest tx

held-more : (held more : List Held) (tx : Digest) → IsHeldIn held tx → IsHeldIn (held ++ more) tx
held-more held more tx e = some-more (is_of_digest tx) held more e

held-with : (held : List Held) (what : What) (tx : Digest) → IsHeldIn held tx → IsHeldIn (held_with held what) tx
held-with held (takes h) tx e = go (is_some (held_of held h.digest))
  where
    go : (b : Bool) → IsHeldIn (cond b held (held ++ h ∷ [])) tx
    go true = e
    go false = held-more held (h ∷ []) tx e
held-with held commits tx e = e
held-with held (counts m) tx e = e
held-with held (ignores cause) tx e = e

held-new : (held : List Held) (what : What) (h : Held) → what ≡ takes h → IsHeldIn (held_with held what) h.digest
held-new held what h e = subst (λ (w : What). IsHeldIn (held_with held w) h.digest) (sym e) (go (is_some (held_of held h.digest)) refl)
  where
    go : (b : Bool) → is_some (held_of held h.digest) ≡ b → IsHeldIn (cond b held (held ++ h ∷ [])) h.digest
    go true e = e
    go false e = has-find (is_of_digest h.digest) (held ++ h ∷ []) h (push_has held h) (digest_self h.digest)

more-of : (P Q : Digest → Type 0) (a : Admission) → ((tx : Digest) → P tx → Q tx) → AllOf P a → AllOf Q a
more-of P Q a more all = record {
  admitted = each_as (λ (x : Admitted). P x.digest) (λ (x : Admitted). Q x.digest) a.admitted (λ x p. more x.digest p) all.admitted;
  pending = each_as (λ (h : Held). P h.digest) (λ (h : Held). Q h.digest) a.pending (λ h p. more h.digest p) all.pending;
}

-- the certificate that is found first under its digest is one that the member holds
pub record IsHeldUnder (m : Member) (tx : Digest) : Type 0 where
  pub of : Held
  pub found : held_of m.held tx ≡ Some of
  pub held : Has m.held of
  pub digest : of.digest ≡ tx

abbrev Stocked : Member → Type 0
Stocked m = AllOf (IsHeldIn m.held) m.sequence.admission

module _ (r : Rules) where
  after-stocked : (m : Member) (x : Record) → Stocked m → Stocked (after r m x)
  unfolding after
  after-stocked m (record_as.Vote tx origins) all = all
  after-stocked m (record_as.Hold c) all = more-of (IsHeldIn m.held) (IsHeldIn (m.held ++ held_as c ∷ [])) m.sequence.admission (held-more m.held (held_as c ∷ [])) all
  after-stocked m (record_as.See bytes) all =
      let what : What = what_of r m.epoch m.sequence bytes in
      of-saw (IsHeldIn (held_with m.held what)) r m.opening m.epoch m.sequence bytes
      (more-of (IsHeldIn m.held) (IsHeldIn (held_with m.held what)) m.sequence.admission (held-with m.held what) all)
      (held-new m.held what)
  after-stocked m record_as.Close all = all
  after-stocked m (record_as.Ran txs) all = all
  after-stocked m record_as.Turn all = record { admitted = tt; pending = tt }
  after-stocked m (record_as.Ran2 items) all = all

  fold-stocked : (records : List Record) (m : Member) → Stocked m → Stocked (fold (after r) m records)
  fold-stocked [] m all = all
  fold-stocked (x ∷ records) m all = fold-stocked records (after r m x) (after-stocked m x all)

  state-stocked : (opening : List Object) (records : List Record) → Stocked (state r opening records)
  unfolding state
  state-stocked opening records = fold-stocked records (fresh opening) (record { admitted = tt; pending = tt })

  pub admitted-held : (opening : List Object) (records : List Record) (a : Admitted) → Has (state r opening records).sequence.admission.admitted a → IsHeldUnder (state r opening records) a.digest
  admitted-held opening records a h = go (held_of m.held a.digest) refl (each_has (λ (x : Admitted). IsHeldIn m.held x.digest) m.sequence.admission.admitted a (state-stocked opening records).admitted h)
    where
      m : Member
      m = state r opening records

      go : (o : Option Held) → held_of m.held a.digest ≡ o → is_some o ≡ true → IsHeldUnder m a.digest
      go None e some = absurd (cc)
      go (Some k) e some = record { of = k; found = e; held = find_has (is_of_digest a.digest) m.held k e; digest = digest_same k.digest a.digest (find-test (is_of_digest a.digest) m.held k e) }
