-- The cases of each call, one lemma for each way through it.
use Rattle.std.proofs.Common.{◌≡◌, ◌≤◌, ℕ, Bool, true, false, List, [], ◌∷◌, length, Option, Some, None, refl, ap, sym, ◌∙◌, subst}
use Rattle.std.specs.Prelude.{Result, Ok, Err, find, option_map, is_ok, IfSome}
use Rattle.digest_core.specs.declared.Digest.{Digest}
use Rattle.chain_types.specs.declared.objects.ObjectKey.{ObjectKey}
use Rattle.chain_types.specs.Digests.{consumed_keys, transaction_digest}
use Rattle.chain_messages.specs.declared.messages.Certificate.{Certificate}
use Rattle.wire_bcs.specs.Whole.{whole}
use Rattle.chain_messages.specs.Messages as messages
use Rattle.protocol_spec.proofs.Checked.{valid_shape, valid_length}
use Rattle.protocol_spec.specs.Chain.Certificates.{Rules, cert_refusal, read_as, read_certificate}
use Rattle.protocol_spec.specs.Chain.Words.{first_of, first_some, refused_or, unless_refused, where_true}
use Rattle.std.proofs.lemmas.List.{length-map}
use Rattle.protocol_spec.proofs.ListLemmas.{find-each}
use Rattle.protocol_spec.specs.declared.answers.Held.{Held}
use Rattle.journal_core.specs.declared.records.Record.TheVariants as record_as
use Rattle.protocol_spec.specs.declared.refusals.HoldRefusal.{HoldRefusal}
use Rattle.protocol_spec.specs.declared.refusals.HoldRefusal.TheVariants as no_hold
use Rattle.protocol_spec.specs.declared.answers.Ran.{Ran}
use Rattle.protocol_spec.specs.declared.refusals.RunRefusal.{RunRefusal}
use Rattle.protocol_spec.specs.Member.Sequence.{Sequence, held_as}
use Rattle.chain_types.specs.declared.transactions.Transaction.{Transaction}
use Rattle.protocol_spec.specs.Chain.Keys.{objects_of}
use Rattle.cert_rules.proofs.Whole.{few_objects}
use Rattle.protocol_spec.specs.Member.Votes.{Ballot, Cast, origin_of, vote_origins, vote_refusal}
use Rattle.protocol_spec.specs.Member.Member.{Fork, Member, ballot, consumes, fork_at, fork_with, vote_for}
use Rattle.vote_rules.proofs.Free.{free_where_decided}
use Rattle.protocol_spec.specs.Member.Admission.{is_known}
use Rattle.validator_core.specs.Answers.{HoldDue, HoldsAs, IsFree}
use Rattle.validator_core.specs.Entries.{IsArriving}
use Rattle.protocol_spec.specs.Member.Calls.{due, hold_answer, hold_certificate, hold_read, hold_record, hold_stopped, holds, is_hold_kept, new_hold}
use Rattle.validator_core.specs.Sound.{AllFew, HasFew}

-- ---- forks

abbrev pub meets : List Held → ObjectKey → Option (ObjectKey × Digest)
meets held key = option_map (λ (e : Held). (key, e.digest)) (find (consumes key) held)

abbrev pub fork_as : Digest → (ObjectKey × Digest) → Fork
fork_as second met = record { key = met.0; first = met.1; second = second }

met_key : (h : Held) (key : ObjectKey) (o : Option Held) → option_map (λ (e : Held). record { key = key; first = e.digest; second = h.digest }) o ≡ option_map (fork_as h.digest) (option_map (λ (e : Held). (key, e.digest)) o)
met_key h key None = refl
met_key h key (Some e) = refl

first_map : {A B : Type 0} (f : A → B) (a b : Option A) → first_some (option_map f a ∷ option_map f b ∷ []) ≡ option_map f (first_some (a ∷ b ∷ []))
first_map f None None = refl
first_map f None (Some y) = refl
first_map f (Some x) b = refl

-- the fork that a certificate makes, from the first of its versions that a held one consumes
met_fork : (held : List Held) (h : Held) (keys : List ObjectKey) → first_of (fork_at held h) keys ≡ option_map (fork_as h.digest) (first_of (meets held) keys)
met_fork held h [] = refl
met_fork held h (k ∷ ks) =
    ap (λ o. first_some (o ∷ first_of (fork_at held h) ks ∷ [])) (met_key h k (find (consumes k) held))
    ∙ ap (λ o. first_some (option_map (fork_as h.digest) (meets held k) ∷ o ∷ [])) (met_fork held h ks)
    ∙ first_map (fork_as h.digest) (meets held k) (first_of (meets held) ks)

-- ---- a new certificate

-- what is answered if the member is open and the certificate is valid
valid_hold : (r : Rules) (m : Member) (c : Certificate) → m.closed ≡ false → cert_refusal r c ≡ None
    → new_hold r m c ≡ unless_refused (first_some (option_map (λ (f : Fork). no_hold.Fork f.key f.first f.second) (fork_with m.held (held_as c)) ∷ [])) true
valid_hold r m c unclosed valid =
    ap (λ closed. unless_refused (first_some (where_true closed no_hold.Closed ∷ option_map no_hold.Cert (cert_refusal r c) ∷ option_map (λ (f : Fork). no_hold.Fork f.key f.first f.second) (fork_with m.held (held_as c)) ∷ [])) true) unclosed
    ∙ ap (λ o. unless_refused (first_some (option_map no_hold.Cert o ∷ option_map (λ (f : Fork). no_hold.Fork f.key f.first f.second) (fork_with m.held (held_as c)) ∷ [])) true) valid

module _ (r : Rules) (m : Member) (c : Certificate) (keys : List ObjectKey) (digest : Digest) (unclosed : m.closed ≡ false) (valid : cert_refusal r c ≡ None) (these : keys ≡ consumed_keys c.tx) (is : digest ≡ transaction_digest c.tx) where
  met : fork_with m.held (held_as c) ≡ option_map (fork_as (transaction_digest c.tx)) (first_of (meets m.held) keys)
  met = met_fork m.held (held_as c) (consumed_keys c.tx) ∙ ap (λ ks. option_map (fork_as (transaction_digest c.tx)) (first_of (meets m.held) ks)) (sym these)

  pub hold_meets : (key : ObjectKey) (first : Digest) → first_of (meets m.held) keys ≡ Some (key, first) → new_hold r m c ≡ Err (no_hold.Fork key first digest)
  hold_meets key first e =
      valid_hold r m c unclosed valid
      ∙ ap (λ o. unless_refused (first_some (option_map (λ (f : Fork). no_hold.Fork f.key f.first f.second) o ∷ [])) true) (met ∙ ap (option_map (fork_as (transaction_digest c.tx))) e)
      ∙ ap (λ d. Err (no_hold.Fork key first d)) (sym is)

  pub hold_new : first_of (meets m.held) keys ≡ None → new_hold r m c ≡ Ok true
  hold_new e =
      valid_hold r m c unclosed valid
      ∙ ap (λ o. unless_refused (first_some (option_map (λ (f : Fork). no_hold.Fork f.key f.first f.second) o ∷ [])) true) (met ∙ ap (option_map (fork_as (transaction_digest c.tx))) e)

-- so a valid one that is not in the sequence can be admitted
pub arriving : (r : Rules) (q : Sequence) (c : Certificate) (digest : Digest) → digest ≡ transaction_digest c.tx → cert_refusal r c ≡ None → is_known q.admission digest ≡ false → IsArriving q (record { digest = digest; cert = c })
arriving r q c digest is valid new = record { is = is; shape = valid_shape r c valid; origins = valid_length r c valid; new = new }

-- what is refused before it is kept has no record
refused_unkept : (c : Certificate) (said : Result Bool HoldRefusal) (e : HoldRefusal) → HoldsAs said (Err e) → HoldDue (where_true (is_hold_kept said) (record_as.Hold c)) (Err e)
refused_unkept c said no_hold.Down h = ap (λ a. where_true (is_hold_kept a) (record_as.Hold c)) h
refused_unkept c said (no_hold.Halted first second) h = ap (λ a. where_true (is_hold_kept a) (record_as.Hold c)) h
refused_unkept c said no_hold.Full h = ap (λ a. where_true (is_hold_kept a) (record_as.Hold c)) h
refused_unkept c said (no_hold.Malformed fault) h = ap (λ a. where_true (is_hold_kept a) (record_as.Hold c)) h
refused_unkept c said (no_hold.WrongEpoch had want) h = ap (λ a. where_true (is_hold_kept a) (record_as.Hold c)) h
refused_unkept c said no_hold.Closed h = ap (λ a. where_true (is_hold_kept a) (record_as.Hold c)) h
refused_unkept c said (no_hold.Cert refusal) h = ap (λ a. where_true (is_hold_kept a) (record_as.Hold c)) h
refused_unkept c said no_hold.KeepFault h = ap (λ a. where_true (is_hold_kept a) (record_as.Hold c)) h
refused_unkept c said (no_hold.Fork key first second) h = absurd h
refused_unkept c said no_hold.OutOfMemory h = tt

abbrev pub Verdict : Type 0
Verdict = Result (Unit {0}) HoldRefusal

abbrev pub allowed : Verdict
allowed = Ok tt

abbrev pub unless : Option HoldRefusal → Verdict
unless o = unless_refused o tt

none_refused : (o : Option HoldRefusal) → allowed ≡ unless o → o ≡ None
none_refused None h = refl
none_refused (Some e) h = absurd (cc)

-- a certificate that is read and refused has no record
pub refused_due : (r : Rules) (m : Member) (bytes : List ℕ) (c : Certificate) (e : HoldRefusal) → allowed ≡ unless (hold_stopped m) → whole messages.certificate bytes ≡ Ok c → HoldsAs (hold_certificate r m c) (Err e) → HoldDue (due r m (holds bytes)) (Err e)
unfolding due hold_answer read_certificate
refused_due r m bytes c e goes read h =
    let said : refused_or (hold_stopped m) (hold_read r m (read_as (whole messages.certificate bytes))) ≡ hold_certificate r m c =
    ap (λ o. refused_or o (hold_read r m (read_as (whole messages.certificate bytes)))) (none_refused (hold_stopped m) goes) ∙ ap (λ x. hold_read r m (read_as x)) read in
    let is : hold_record (read_as (whole messages.certificate bytes)) (refused_or (hold_stopped m) (hold_read r m (read_as (whole messages.certificate bytes)))) ≡ where_true (is_hold_kept (hold_certificate r m c)) (record_as.Hold c) =
    ap (λ x. hold_record (read_as x) (refused_or (hold_stopped m) (hold_read r m (read_as (whole messages.certificate bytes))))) read ∙ ap (hold_record (Ok c)) said in
    subst (λ d. HoldDue d (Err e)) (sym is) (refused_unkept c (hold_certificate r m c) e h)

-- ---- votes

-- a vote that was given names few origins
pub few_given : {B : Type 0} (view : B → List (Option Digest)) (votes : List Cast) (test : Cast → Bool) → AllFew votes → (r : Option B) → option_map view r ≡ option_map (λ (v : Cast). v.origins) (find test votes) → IfSome r (λ o. length (view o) ≤ 257)
few_given view votes test few None e = tt
few_given {B} view votes test few (Some o) e = go (find test votes) refl e
  where
    go : (f : Option Cast) → find test votes ≡ f → Some (view o) ≡ option_map (λ (v : Cast). v.origins) f → length (view o) ≤ 257
    go None h e = absurd (cc)
    go (Some v) h e =
        let same : v.origins ≡ view o = cc in
        subst (λ (xs : List (Option Digest)). length xs ≤ 257) same (find-each HasFew test votes v few h)

few_origins : (b : Ballot) (t : Transaction) → length t.inputs ≤ 256 → length (vote_origins b t) ≤ 257
unfolding vote_origins
few_origins b t h = subst (λ n. n ≤ 257) (sym (length-map (objects_of t) (origin_of b))) (few_objects t h)

-- a new vote is the first for its transaction, and shares no version with another
pub is_free : (m : Member) (t : Transaction) (digest : Digest) (origins : List (Option Digest)) → digest ≡ transaction_digest t → vote_for m digest ≡ None → length t.inputs ≤ 256
    → vote_refusal (ballot m) t digest ≡ None → origins ≡ vote_origins (ballot m) t → IsFree m t (record { digest = digest; origins = origins; fresh = true })
is_free m t digest origins is new few none named = record {
  digest = is;
  new = λ _. new;
  few = subst (λ xs. length xs ≤ 257) (sym named) (few_origins (ballot m) t few);
  free = λ _. free_where_decided (ballot m) t digest none;
}

-- ---- runs

-- whether a refusal comes does not depend on what is answered otherwise
pub goes_alike : (o : Option RunRefusal) (answer : Result (Unit {0}) RunRefusal) (ran : Ran) → answer ≡ unless_refused o tt → is_ok answer ≡ is_ok (unless_refused o ran)
goes_alike None answer ran e = ap (λ (a : Result (Unit {0}) RunRefusal). is_ok a) e
goes_alike (Some refusal) answer ran e = ap (λ (a : Result (Unit {0}) RunRefusal). is_ok a) e
