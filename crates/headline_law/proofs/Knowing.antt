-- What is in the sequence, as far as it was seen, stays in it: admitted, dropped or pending.
use Rattle.std.proofs.Common.{inl, inr, refl, sym, subst, ◌∙◌}
use Rattle.std.specs.Prelude.{◌≡◌, ◌⊎◌, ℕ, zero, suc, Bool, true, false, cond, ◌||◌, List, [], ◌∷◌, ◌++◌, find, length, Option, Some, None}
use Rattle.std.specs.List.{list_any}
use Rattle.digest_core.specs.declared.Digest.{Digest}
use Rattle.chain_types.specs.declared.objects.Object.{Object}
use Rattle.chain_types.specs.Equal.{digest_eq}
use Rattle.protocol_spec.specs.declared.answers.Held.{Held}
use Rattle.protocol_spec.proofs.Equality.{digest_same, digest_self}
use Rattle.protocol_spec.proofs.ListLemmas.{push_has, has_left}
use Rattle.protocol_spec.specs.Chain.Words.{Has}
use Rattle.protocol_spec.specs.Chain.Certificates.{Rules}
use Rattle.protocol_spec.specs.Member.Admission.{Admitted, Admission, admit, entered, is_admitted, is_dropped, is_free, is_known, not_of, passed_mark, take_free, taken, taken_as, taken_next}
use Rattle.protocol_spec.specs.Member.Sequence.{Sequence, What, takes, commits, counts, ignores, what_of, counted_as, ends_with_member, with_what, with_entry, saw}
use Rattle.block_law.proofs.Live.{passed-has, any-has, has-any}

-- it was admitted, dropped, or waits
abbrev pub IsIn : Admission → Digest → Type 0
IsIn a tx = ((x : Admitted) × Has a.admitted x × (x.digest ≡ tx)) ⊎ (Has a.dropped tx ⊎ ((h : Held) × Has a.pending h × (h.digest ≡ tx)))

module _ (a : Admission) (tx : Digest) where
  abbrev is_this : Admitted → Bool
  is_this x = digest_eq x.digest tx

  abbrev is_waiting : Held → Bool
  is_waiting h = digest_eq h.digest tx

  pub in-known : is_known a tx ≡ true → IsIn a tx
  in-known e = go (is_admitted a.admitted tx) refl (list_any (digest_eq tx) a.dropped) refl (list_any is_waiting a.pending) refl e
    where
      among : (b : Bool) → is_admitted a.admitted tx ≡ b → b ≡ true → (x : Admitted) × Has a.admitted x × (x.digest ≡ tx)
      among b e t = let x = any-has is_this a.admitted (subst (λ (c : Bool). is_admitted a.admitted tx ≡ c) t e) in (x.0, x.1, digest_same x.0.digest tx x.2)

      go : (x : Bool) → is_admitted a.admitted tx ≡ x → (y : Bool) → list_any (digest_eq tx) a.dropped ≡ y → (z : Bool) → list_any is_waiting a.pending ≡ z → (x || y || z) ≡ true → IsIn a tx
      go true p y q z r e = inl (among true p refl)
      go false p true q z r e = let d = any-has (digest_eq tx) a.dropped q in inr (inl (subst (Has a.dropped) (sym (digest_same tx d.0 d.2)) d.1))
      go false p false q true r e = let h = any-has is_waiting a.pending r in inr (inr (h.0, h.1, digest_same h.0.digest tx h.2))
      go false p false q false r e = absurd (cc)

  or-left : (x y : Bool) → x ≡ true → (x || y) ≡ true
  or-left true y e = refl
  or-left false y e = absurd (cc)

  or-right : (x y : Bool) → y ≡ true → (x || y) ≡ true
  or-right true y e = refl
  or-right false y e = e

  same-as : (d : Digest) → d ≡ tx → digest_eq d tx ≡ true
  same-as d e = subst (λ (c : Digest). digest_eq c tx ≡ true) (sym e) (digest_self tx)

  pub known-in : IsIn a tx → is_known a tx ≡ true
  known-in (inl x) = or-left (is_admitted a.admitted tx || list_any (digest_eq tx) a.dropped) (list_any is_waiting a.pending) (or-left (is_admitted a.admitted tx) (list_any (digest_eq tx) a.dropped) (has-any is_this a.admitted x.0 x.1 (same-as x.0.digest x.2)))
  known-in (inr (inl d)) = or-left (is_admitted a.admitted tx || list_any (digest_eq tx) a.dropped) (list_any is_waiting a.pending) (or-right (is_admitted a.admitted tx) (list_any (digest_eq tx) a.dropped) (has-any (digest_eq tx) a.dropped tx d (digest_self tx)))
  known-in (inr (inr h)) = or-right (is_admitted a.admitted tx || list_any (digest_eq tx) a.dropped) (list_any is_waiting a.pending) (has-any is_waiting a.pending h.0 h.1 (same-as h.0.digest h.2))

-- ---- what is taken, and what an entry does

module _ (r : Rules) (opening : List Object) (tx : Digest) where
  in-taken_as : (b : Bool) (a : Admission) (h : Held) → IsIn a tx → IsIn (taken_as b opening a h) tx
  unfolding admit
  in-taken_as true a h (inl x) = inl x
  in-taken_as true a h (inr (inl d)) = inr (inl (has_left a.dropped (h.digest ∷ []) tx d))
  in-taken_as true a h (inr (inr k)) = go (digest_eq h.digest k.0.digest) refl
    where
      go : (b : Bool) → digest_eq h.digest k.0.digest ≡ b → IsIn (taken_as true opening a h) tx
      go true e = inr (inl (subst (Has (a.dropped ++ h.digest ∷ [])) (digest_same h.digest k.0.digest e ∙ k.2) (push_has a.dropped h.digest)))
      go false e = inr (inr (k.0, passed-has (not_of h) a.pending k.0 k.1 (rw e refl), k.2))
  in-taken_as false a h (inl x) = inl (x.0, has_left a.admitted (admit opening a.admitted h ∷ []) x.0 x.1, x.2)
  in-taken_as false a h (inr (inl d)) = inr (inl d)
  in-taken_as false a h (inr (inr k)) = go (digest_eq h.digest k.0.digest) refl
    where
      go : (b : Bool) → digest_eq h.digest k.0.digest ≡ b → IsIn (taken_as false opening a h) tx
      go true e = inl (admit opening a.admitted h, push_has a.admitted (admit opening a.admitted h), digest_same h.digest k.0.digest e ∙ k.2)
      go false e = inr (inr (k.0, passed-has (not_of h) a.pending k.0 k.1 (rw e refl), k.2))

  in-free : (n : ℕ) (a : Admission) → IsIn a tx → IsIn (take_free r.writers opening n a) tx
  in-free zero a is = is
  in-free (suc n) a is = go (find (is_free r.writers a) a.pending) (in-free n)
    where
      go : (o : Option Held) → ((b : Admission) → IsIn b tx → IsIn (take_free r.writers opening n b) tx) → IsIn (taken_next (take_free r.writers opening n) opening a o) tx
      go None rest = is
      go (Some h) rest = rest (taken opening a h) (in-taken_as (is_dropped opening a.admitted h.cert) a h is)

  in-entered : (a : Admission) (h : Held) → IsIn (record a { pending = a.pending ++ h ∷ [] }) tx → IsIn (entered r.writers opening a h) tx
  unfolding entered
  in-entered a h is = in-free (length (a.pending ++ h ∷ [])) (record a { pending = a.pending ++ h ∷ [] }) is

  in-more : (a : Admission) (h : Held) → IsIn a tx → IsIn (record a { pending = a.pending ++ h ∷ [] }) tx
  in-more a h (inl x) = inl x
  in-more a h (inr (inl d)) = inr (inl d)
  in-more a h (inr (inr k)) = inr (inr (k.0, has_left a.pending (h ∷ []) k.0 k.1, k.2))

  in-mark : (a : Admission) (n : ℕ) → IsIn a tx → IsIn (record a { marked = n }) tx
  in-mark a n (inl x) = inl x
  in-mark a n (inr (inl d)) = inr (inl d)
  in-mark a n (inr (inr k)) = inr (inr k)

  in-what : (q : Sequence) (what : What) → IsIn q.admission tx → IsIn (with_what r opening q what).admission tx
  unfolding passed_mark
  in-what q (takes h) is = in-entered q.admission h (in-more q.admission h is)
  in-what q commits is = in-free (length q.admission.pending) (record q.admission { marked = length q.admission.admitted }) (in-mark q.admission (length q.admission.admitted) is)
  in-what q (counts m) is = go (ends_with_member r q m)
    where
      go : (b : Bool) → IsIn (counted_as b q m).admission tx
      go true = is
      go false = is
  in-what q (ignores cause) is = is

  pub in-saw : (epoch : ℕ) (q : Sequence) (bytes : List ℕ) → IsIn q.admission tx → IsIn (saw r opening epoch q bytes).admission tx
  unfolding saw with_entry
  in-saw epoch q bytes is = go q.ended
    where
      go : (b : Bool) → IsIn (cond b q (with_entry r opening q (what_of r epoch q bytes))).admission tx
      go true = is
      go false = in-what q (what_of r epoch q bytes) is

-- a certificate that an entry takes is in the sequence
pub in-taken : (r : Rules) (opening : List Object) (epoch : ℕ) (q : Sequence) (bytes : List ℕ) (h : Held) → q.ended ≡ false → what_of r epoch q bytes ≡ takes h → IsIn (saw r opening epoch q bytes).admission h.digest
unfolding saw with_entry
in-taken r opening epoch q bytes h going e = go q.ended going
  where
    one : IsIn (with_what r opening q (what_of r epoch q bytes)).admission h.digest
    one = subst (λ (what : What). IsIn (with_what r opening q what).admission h.digest) (sym e)
        (in-entered r opening h.digest q.admission h (inr (inr (h, push_has q.admission.pending h, refl))))

    go : (b : Bool) → b ≡ false → IsIn (cond b q (with_entry r opening q (what_of r epoch q bytes))).admission h.digest
    go true e = absurd (cc)
    go false e = one
