-- An admission stays tidy: what is admitted is in order, and what is pending is not admitted.
use Rattle.std.proofs.Common.{refl, subst}
use Rattle.std.specs.Prelude.{◌≡◌, ℕ, zero, suc, Bool, true, false, cond, not, ◌&&◌, ◌||◌, ◌==◌, List, [], ◌∷◌, ◌++◌, fold, find, length, Option, Some, None, is_some, Result, Ok, Err}
use Rattle.std.specs.List.{list_any, list_all}
use Rattle.wire_bcs.specs.declared.fault.WireFault.{WireFault}
use Rattle.digest_core.specs.declared.Digest.{Digest}
use Rattle.chain_types.specs.declared.objects.Object.{Object}
use Rattle.chain_messages.specs.declared.messages.Statement.{Statement}
use Rattle.chain_messages.specs.declared.messages.Statement.TheVariants as statement
use Rattle.chain_messages.specs.declared.messages.Sealed.{Sealed}
use Rattle.chain_messages.specs.declared.messages.Certificate.{Certificate}
use Rattle.chain_messages.specs.declared.messages.Entry.{Entry}
use Rattle.chain_messages.specs.declared.messages.Entry.TheVariants as entry
use Rattle.protocol_spec.specs.declared.answers.Held.{Held}
use Rattle.protocol_spec.specs.declared.answers.Ignore.{Ignore}
use Rattle.protocol_spec.specs.Chain.Words.{Each, Along, first_some, where_true}
use Rattle.protocol_spec.specs.Chain.Certificates.{Rules, read_entry, cert_refusal}
use Rattle.protocol_spec.proofs.ListLemmas.{along-push, find-test, find-each, filter-each, any-push, and-first, not-true, each_push}
use Rattle.protocol_spec.proofs.Truth.{or_false_left}
use Rattle.protocol_spec.specs.Member.Admission.{Admitted, Admission, is_admitted, is_known, is_free, is_origin_admitted, has_room, mutable_ids, admit, not_of, taken_as, taken, is_dropped, taken_next, take_free, entered, passed_mark}
use Rattle.protocol_spec.specs.Member.Sequence.{Sequence, nothing_seen, What, takes, commits, counts, ignores, ignored_or, certificate_cases, end_cases, what_stated, what_read, what_of, with_what, with_entry, counted_as, ends_with_member, saw, seen, held_as}
use Rattle.chain_types.specs.Equal.{digest_eq}
use Rattle.chain_types.specs.Digests.{transaction_digest}
use Rattle.block_law.specs.Admitted.{IsInOrder, is_origin_in}

abbrev IsNew : List Admitted → Held → Type 0
IsNew admitted h = is_admitted admitted h.digest ≡ false

record IsTidy (opening : List Object) (a : Admission) : Type 0 where
  ordered : Along (IsInOrder opening) [] a.admitted
  waiting : Each (IsNew a.admitted) a.pending

-- ---- one certificate is taken

same-origins : (a : Admission) (origins : List (Option Digest)) → list_all (is_origin_admitted a) origins ≡ true → list_all (is_origin_in a.admitted) origins ≡ true
same-origins a [] e = refl
same-origins a (None ∷ origins) e = same-origins a origins e
same-origins a (Some tx ∷ origins) e = go (is_admitted a.admitted tx) e (same-origins a origins)
  where
    go : (b : Bool) → (b && list_all (is_origin_admitted a) origins) ≡ true → (list_all (is_origin_admitted a) origins ≡ true → list_all (is_origin_in a.admitted) origins ≡ true) → (b && list_all (is_origin_in a.admitted) origins) ≡ true
    go true e rest = rest e
    go false e rest = absurd (cc)

admits : (opening : List Object) (a : Admission) (h : Held) → IsNew a.admitted h → list_all (is_origin_admitted a) h.cert.origins ≡ true → IsInOrder opening a.admitted (admit opening a.admitted h)
unfolding admit
admits opening a h new origins = record { new = new; origins = same-origins a h.cert.origins origins; versions = refl }

tidy-taken_as : (opening : List Object) (b : Bool) (a : Admission) (h : Held) → IsTidy opening a → IsNew a.admitted h → list_all (is_origin_admitted a) h.cert.origins ≡ true → IsTidy opening (taken_as b opening a h)
unfolding admit
tidy-taken_as opening true a h tidy new origins = record {
  ordered = tidy.ordered;
  waiting = filter-each (IsNew a.admitted) (IsNew a.admitted) (not_of h) a.pending (λ x t p. p) tidy.waiting;
}
tidy-taken_as opening false a h tidy new origins = record {
  ordered = along-push (IsInOrder opening) [] a.admitted (admit opening a.admitted h) tidy.ordered (admits opening a h new origins);
  waiting = filter-each (IsNew a.admitted) (IsNew (a.admitted ++ admit opening a.admitted h ∷ [])) (not_of h) a.pending
      (λ x t p. any-push (λ (y : Admitted). digest_eq y.digest x.digest) a.admitted (admit opening a.admitted h) p (not-true (digest_eq h.digest x.digest) t)) tidy.waiting;
}

tidy-next : (writers : Option ℕ) (opening : List Object) (next : Admission → Admission) → ((a : Admission) → IsTidy opening a → IsTidy opening (next a)) → (a : Admission) (h : Option Held) → find (is_free writers a) a.pending ≡ h → IsTidy opening a → IsTidy opening (taken_next next opening a h)
tidy-next writers opening next keeps a None e tidy = tidy
tidy-next writers opening next keeps a (Some h) e tidy =
    keeps (taken opening a h) (tidy-taken_as opening (is_dropped opening a.admitted h.cert) a h tidy
    (find-each (IsNew a.admitted) (is_free writers a) a.pending h tidy.waiting e)
    (and-first (list_all (is_origin_admitted a) h.cert.origins) (list_all (has_room writers a) (mutable_ids h.cert)) (find-test (is_free writers a) a.pending h e)))

tidy-free : (writers : Option ℕ) (opening : List Object) (n : ℕ) (a : Admission) → IsTidy opening a → IsTidy opening (take_free writers opening n a)
tidy-free writers opening zero a tidy = tidy
tidy-free writers opening (suc n) a tidy = tidy-next writers opening (take_free writers opening n) (tidy-free writers opening n) a (find (is_free writers a) a.pending) refl tidy

tidy-entered : (writers : Option ℕ) (opening : List Object) (a : Admission) (h : Held) → IsTidy opening a → IsNew a.admitted h → IsTidy opening (entered writers opening a h)
unfolding entered
tidy-entered writers opening a h tidy new = tidy-free writers opening (length (a.pending ++ h ∷ [])) (record a { pending = a.pending ++ h ∷ [] })
    (record { ordered = tidy.ordered; waiting = each_push (IsNew a.admitted) a.pending h tidy.waiting new })

tidy-mark : (writers : Option ℕ) (opening : List Object) (a : Admission) → IsTidy opening a → IsTidy opening (passed_mark writers opening a)
unfolding passed_mark
tidy-mark writers opening a tidy = tidy-free writers opening (length a.pending) (record a { marked = length a.admitted }) (record { ordered = tidy.ordered; waiting = tidy.waiting })

-- ---- one entry

same_held : (x h : Held) → takes x ≡ takes h → x ≡ h
same_held x h e = cc

-- a certificate that an entry takes was not in the sequence
taken-new : (r : Rules) (epoch : ℕ) (q : Sequence) (c : Certificate) (h : Held) → ignored_or (first_some (certificate_cases r epoch q c (transaction_digest c.tx))) (takes (held_as c)) ≡ takes h → is_known q.admission h.digest ≡ false
taken-new r epoch q c h e = go (not (c.tx.epoch == epoch)) (is_some (cert_refusal r c)) (is_known q.admission (transaction_digest c.tx)) refl e
  where
    go : (x y z : Bool) → is_known q.admission (transaction_digest c.tx) ≡ z → ignored_or (first_some (where_true x Ignore.Epoch ∷ where_true y Ignore.Cert ∷ where_true z Ignore.Repeat ∷ [])) (takes (held_as c)) ≡ takes h → is_known q.admission h.digest ≡ false
    go true y z k e = absurd (cc)
    go false true z k e = absurd (cc)
    go false false true k e = absurd (cc)
    go false false false k e = subst (λ (x : Held). is_known q.admission x.digest ≡ false) (same_held (held_as c) h e) k

ignored-takes : (cause : Option Ignore) (m : ℕ) (h : Held) → ignored_or cause (counts m) ≡ takes h → ⊥
ignored-takes None m h e = cc
ignored-takes (Some cause) m h e = cc

stated-takes : (r : Rules) (epoch : ℕ) (q : Sequence) (s : Sealed) (st : Statement) (h : Held) → what_stated r epoch q s st ≡ takes h → ⊥
stated-takes r epoch q s (statement.Vote of_epoch tx origins) h e = cc
stated-takes r epoch q s (statement.End of_epoch) h e = ignored-takes (first_some (end_cases r epoch q s of_epoch)) s.member h e
stated-takes r epoch q s (statement.Checkpoint of_epoch number digest) h e = cc
stated-takes r epoch q s (statement.Ack of_epoch tx effects) h e = cc

read-new : (r : Rules) (epoch : ℕ) (q : Sequence) (read : Result Entry WireFault) (h : Held) → what_read r epoch q read ≡ takes h → is_known q.admission h.digest ≡ false
read-new r epoch q (Err fault) h e = absurd (cc)
read-new r epoch q (Ok (entry.Cert c)) h e = taken-new r epoch q c h e
read-new r epoch q (Ok (entry.End s)) h e = absurd (stated-takes r epoch q s s.statement h e)
read-new r epoch q (Ok entry.Commit) h e = absurd (cc)

what-new : (r : Rules) (epoch : ℕ) (q : Sequence) (bytes : List ℕ) (h : Held) → what_of r epoch q bytes ≡ takes h → IsNew q.admission.admitted h
unfolding what_of
what-new r epoch q bytes h e = or_false_left (is_admitted q.admission.admitted h.digest) (list_any (digest_eq h.digest) q.admission.dropped)
    (or_false_left (is_admitted q.admission.admitted h.digest || list_any (digest_eq h.digest) q.admission.dropped) (list_any (λ (x : Held). digest_eq x.digest h.digest) q.admission.pending)
    (read-new r epoch q (read_entry bytes) h e))

tidy-counted : (opening : List Object) (b : Bool) (q : Sequence) (m : ℕ) → IsTidy opening q.admission → IsTidy opening (counted_as b q m).admission
tidy-counted opening true q m tidy = tidy
tidy-counted opening false q m tidy = tidy

tidy-what : (r : Rules) (opening : List Object) (q : Sequence) (what : What) → IsTidy opening q.admission → ((h : Held) → what ≡ takes h → IsNew q.admission.admitted h) → IsTidy opening (with_what r opening q what).admission
tidy-what r opening q (takes h) tidy new = tidy-entered r.writers opening q.admission h tidy (new h refl)
tidy-what r opening q commits tidy new = tidy-mark r.writers opening q.admission tidy
tidy-what r opening q (counts m) tidy new = tidy-counted opening (ends_with_member r q m) q m tidy
tidy-what r opening q (ignores cause) tidy new = tidy

tidy-saw : (r : Rules) (opening : List Object) (epoch : ℕ) (q : Sequence) (bytes : List ℕ) → IsTidy opening q.admission → IsTidy opening (saw r opening epoch q bytes).admission
unfolding saw with_entry
tidy-saw r opening epoch q bytes tidy = go q.ended
  where
    go : (b : Bool) → IsTidy opening (cond b q (with_entry r opening q (what_of r epoch q bytes))).admission
    go true = tidy
    go false = tidy-what r opening q (what_of r epoch q bytes) tidy (what-new r epoch q bytes)

tidy-fold : (r : Rules) (opening : List Object) (epoch : ℕ) (entries : List (List ℕ)) (q : Sequence) → IsTidy opening q.admission → IsTidy opening (fold (saw r opening epoch) q entries).admission
tidy-fold r opening epoch [] q tidy = tidy
tidy-fold r opening epoch (bytes ∷ entries) q tidy = tidy-fold r opening epoch entries (saw r opening epoch q bytes) (tidy-saw r opening epoch q bytes tidy)

pub tidy-seen : (r : Rules) (opening : List Object) (epoch : ℕ) (entries : List (List ℕ)) → Along (IsInOrder opening) [] (seen r opening epoch entries).admission.admitted
unfolding seen
tidy-seen r opening epoch entries = (tidy-fold r opening epoch entries nothing_seen (record { ordered = tt; waiting = tt })).ordered
