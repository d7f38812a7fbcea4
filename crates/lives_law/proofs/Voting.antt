-- The votes in records of which each is allowed after those before it.
use Rattle.std.proofs.Common.{inl, inr, refl, sym, subst, ap, ◌∙◌}
use Rattle.std.proofs.lemmas.Bool.{eqb-true}
use Rattle.std.specs.Prelude.{◌≡◌, ◌⊎◌, ◌≤◌, ◌+◌, ℕ, Bool, true, false, not, ◌==◌, nat_le, List, [], ◌∷◌, ◌++◌, find, Option, Some, None, Result, Ok, Err, is_some, if◌then◌else◌, option_map}
use native.Mathlib.Omega.{arith}
use Rattle.wire_bcs.specs.declared.fault.WireFault.{WireFault}
use Rattle.digest_core.specs.declared.Digest.{Digest}
use Rattle.chain_types.specs.Digests.{transaction_digest, consumed_keys}
use Rattle.chain_types.specs.Equal.{digest_eq}
use Rattle.chain_types.specs.declared.objects.ObjectKey.{ObjectKey}
use Rattle.chain_types.specs.declared.transactions.Transaction.{Transaction}
use Rattle.chain_types.specs.declared.transactions.SignedTx.{SignedTx}
use Rattle.chain_messages.specs.declared.messages.Statement.TheVariants as statement
use Rattle.chain_messages.specs.declared.messages.Certificate.{Certificate}
use Rattle.journal_core.specs.declared.records.Record.{Record}
use Rattle.journal_core.specs.declared.records.Record.TheVariants as record_as
use Rattle.protocol_spec.specs.declared.refusals.VoteRefusal.{VoteRefusal}
use Rattle.protocol_spec.specs.declared.refusals.VoteRefusal.TheVariants as no_vote
use Rattle.protocol_spec.specs.declared.refusals.HoldRefusal.{HoldRefusal}
use Rattle.protocol_spec.specs.declared.refusals.HoldRefusal.TheVariants as no_hold
use Rattle.protocol_spec.proofs.Equality.{digest_same, digest_self}
use Rattle.protocol_spec.proofs.ListLemmas.{push_has, has_left, each_has, find-test, find_has}
use Rattle.protocol_spec.proofs.Truth.{map_none, where_false}
use Rattle.protocol_spec.specs.Chain.Words.{Has, first_some, where_true, refused_or, unless_refused}
use Rattle.protocol_spec.specs.Chain.Certificates.{Rules, read_signed}
use Rattle.protocol_spec.specs.Member.Votes.{Cast, vote_refusal, vote_origins}
use Rattle.protocol_spec.specs.Member.Checkpoints.{held_of}
use Rattle.protocol_spec.specs.Member.Member.{Member, Fork, ballot, vote_for, cast_of, fork_of, after}
use Rattle.protocol_spec.specs.Member.Calls.{votes, Voted, decided_as, new_vote_cases, voted_as, vote_again, vote_stopped, vote_read, vote_answer, unsealed_of, new_hold, record_limit, is_hold_kept, vote_record, due}
use Rattle.protocol_spec.specs.Member.Replay.{is_allowed, is_vote_for}
use Rattle.world_spec.specs.World.{appended}
use Rattle.safety_law.specs.Members.{IsApartFrom}
use Rattle.safety_law.proofs.Apart.{none-each, none-found, not-locked}
use Rattle.safety_law.proofs.Once.{differ, has-key, has-push}
use Rattle.lives_law.specs.Lives.{IsKeptVote}

-- ---- a vote and a certificate that are allowed

pub record IsFree (m : Member) (t : Transaction) : Type 0 where
  pub epoch : t.epoch ≡ m.epoch
  pub closed : m.closed ≡ false
  pub new : vote_for m (transaction_digest t) ≡ None
  pub free : vote_refusal (ballot m) t (transaction_digest t) ≡ None

shut-with : (closed : Bool) → closed ≡ true → (rest : List (Option HoldRefusal)) → is_hold_kept (unless_refused (first_some (where_true closed no_hold.Closed ∷ rest)) true) ≡ true → ⊥
shut-with true n rest e = cc
shut-with false n rest e = cc

module _ (r : Rules) (m : Member) where
  pub allowed-vote : (t : Transaction) (origins : List (Option Digest)) → is_allowed r m (record_as.Vote t origins) ≡ true → IsFree m t
  unfolding is_allowed
  allowed-vote t origins e = go (vote_stopped m) (t.epoch == m.epoch) refl (vote_for m (transaction_digest t)) refl (first_some (new_vote_cases m t None)) refl e
    where
      go : (stopped : Option VoteRefusal) (same : Bool) → (t.epoch == m.epoch) ≡ same → (cast : Option Cast) → vote_for m (transaction_digest t) ≡ cast → (refusal : Option VoteRefusal) → first_some (new_vote_cases m t None) ≡ refusal
          → is_vote_for origins (refused_or stopped (refused_or (where_true (not same) (no_vote.WrongEpoch t.epoch m.epoch)) (vote_again m t None cast))) ≡ true → IsFree m t
      go (Some q) same s cast c refusal f e = absurd (cc)
      go None false s cast c refusal f e = absurd (cc)
      go None true s (Some v) c refusal f e = absurd (cc)
      go None true s None c refusal f e = last refusal f (subst (λ (x : Option VoteRefusal). is_vote_for origins (unless_refused x (voted_as m t (vote_origins (ballot m) t) true)) ≡ true) f e)
        where
          last : (refusal : Option VoteRefusal) → first_some (new_vote_cases m t None) ≡ refusal → is_vote_for origins (unless_refused refusal (voted_as m t (vote_origins (ballot m) t) true)) ≡ true → IsFree m t
          last (Some q) f e = absurd (cc)
          last None f e =
              let none = none-each (new_vote_cases m t None) f in
              record {
                epoch = eqb-true t.epoch m.epoch s;
                closed = where_false m.closed no_vote.Closed none.0;
                new = c;
                free = map_none decided_as (vote_refusal (ballot m) t (transaction_digest t)) none.1.1.1.0;
              }

  pub allowed-hold : (c : Certificate) → is_allowed r m (record_as.Hold c) ≡ true → (c.tx.epoch ≡ m.epoch) × (m.closed ≡ false)
  unfolding is_allowed
  allowed-hold c e = go (fork_of m) (nat_le record_limit m.records) (c.tx.epoch == m.epoch) refl (is_some (held_of m.held (transaction_digest c.tx))) m.closed refl e
    where
      go : (fork : Option Fork) (many : Bool) (same : Bool) → (c.tx.epoch == m.epoch) ≡ same → (held : Bool) (closed : Bool) → m.closed ≡ closed
          → is_hold_kept (refused_or (first_some (option_map (λ (f : Fork). no_hold.Halted f.first f.second) fork ∷ where_true many no_hold.Full ∷ []))
          (refused_or (where_true (not same) (no_hold.WrongEpoch c.tx.epoch m.epoch)) (if held then Ok false else new_hold r m c))) ≡ true
          → (c.tx.epoch ≡ m.epoch) × (m.closed ≡ false)
      go (Some f) many same s held closed n e = absurd (cc)
      go None true same s held closed n e = absurd (cc)
      go None false false s held closed n e = absurd (cc)
      go None false true s true closed n e = absurd (cc)
      go None false true s false false n e = (eqb-true c.tx.epoch m.epoch s, n)
      go None false true s false true n e = absurd (shut-with m.closed n _ e)

-- ---- the votes of a file and those of the member

-- votes are of epochs up to the member's; those of its epoch are cast, and what is cast stands there
pub record AreCast (records : List Record) (m : Member) : Type 0 where
  pub epochs : (t : Transaction) (o : List (Option Digest)) → Has records (record_as.Vote t o) → t.epoch ≤ m.epoch
  pub cast : (t : Transaction) (o : List (Option Digest)) → Has records (record_as.Vote t o) → t.epoch ≡ m.epoch → Has m.votes (cast_of t o)
  pub kept : (v : Cast) → Has m.votes v → IsKeptVote records m.epoch v.digest v.origins

pub kept-more : (records more : List Record) (epoch : ℕ) (tx : Digest) (o : List (Option Digest)) → IsKeptVote records epoch tx o → IsKeptVote (records ++ more) epoch tx o
kept-more records more epoch tx o k = record { transaction = k.transaction; stands = has_left records more (record_as.Vote k.transaction o) k.stands; epoch_is = k.epoch_is; digest_is = k.digest_is }

abbrev IsOther : Record → Type 0
IsOther x = (t : Transaction) (o : List (Option Digest)) → x ≡ record_as.Vote t o → ⊥

module _ (records : List Record) (m : Member) (cast : AreCast records m) where
  earlier : (x : Record) → IsOther x → (t : Transaction) (o : List (Option Digest)) → Has (records ++ x ∷ []) (record_as.Vote t o) → Has records (record_as.Vote t o)
  earlier x other t o h = go (has-push records x (record_as.Vote t o) h)
    where
      go : Has records (record_as.Vote t o) ⊎ (x ≡ record_as.Vote t o) → Has records (record_as.Vote t o)
      go (inl h) = h
      go (inr e) = absurd (other t o e)

  -- another record, which leaves epoch and votes
  cast-other : (x : Record) → IsOther x → (n : Member) → n.epoch ≡ m.epoch → n.votes ≡ m.votes → AreCast (records ++ x ∷ []) n
  cast-other x other n epoch casts = record {
    epochs = λ t o h. subst (λ (k : ℕ). t.epoch ≤ k) (sym epoch) (cast.epochs t o (earlier x other t o h));
    cast = λ t o h e. subst (λ (vs : List Cast). Has vs (cast_of t o)) (sym casts) (cast.cast t o (earlier x other t o h) (e ∙ epoch));
    kept = λ v h. subst (λ (k : ℕ). IsKeptVote (records ++ x ∷ []) k v.digest v.origins) (sym epoch) (kept-more records (x ∷ []) m.epoch v.digest v.origins (cast.kept v (subst (λ (vs : List Cast). Has vs v) casts h)));
  }

  late : (k : ℕ) → k ≤ m.epoch → k ≡ m.epoch + 1 → ⊥
  late k le e = omega arith

  cast-turn : (n : Member) → n.epoch ≡ m.epoch + 1 → n.votes ≡ [] → AreCast (records ++ record_as.Turn ∷ []) n
  cast-turn n epoch casts = record {
    epochs = λ t o h. let le = cast.epochs t o (earlier record_as.Turn (λ t o e. cc) t o h) in omega (arith, le, epoch);
    cast = λ t o h e. absurd (late t.epoch (cast.epochs t o (earlier record_as.Turn (λ t o e. cc) t o h)) (e ∙ epoch));
    kept = λ v h. absurd (subst (λ (vs : List Cast). Has vs v) casts h);
  }

  same-vote : (t u : Transaction) (o p : List (Option Digest)) → record_as.Vote t o ≡ record_as.Vote u p → (t ≡ u) × (o ≡ p)
  same-vote t u o p e = (cc, cc)

  cast-vote : (tx : Transaction) (origins : List (Option Digest)) → tx.epoch ≡ m.epoch → (n : Member) → n.epoch ≡ m.epoch → n.votes ≡ m.votes ++ cast_of tx origins ∷ [] → AreCast (records ++ record_as.Vote tx origins ∷ []) n
  cast-vote tx origins is n epoch casts = record {
    epochs = λ t o h. subst (λ (k : ℕ). t.epoch ≤ k) (sym epoch) (epochs t o (has-push records (record_as.Vote tx origins) (record_as.Vote t o) h));
    cast = λ t o h e. subst (λ (vs : List Cast). Has vs (cast_of t o)) (sym casts) (among t o (e ∙ epoch) (has-push records (record_as.Vote tx origins) (record_as.Vote t o) h));
    kept = λ v h. subst (λ (k : ℕ). IsKeptVote (records ++ record_as.Vote tx origins ∷ []) k v.digest v.origins) (sym epoch) (keeps v (has-push m.votes (cast_of tx origins) v (subst (λ (vs : List Cast). Has vs v) casts h)));
  }
    where
      epochs : (t : Transaction) (o : List (Option Digest)) → Has records (record_as.Vote t o) ⊎ (record_as.Vote tx origins ≡ record_as.Vote t o) → t.epoch ≤ m.epoch
      epochs t o (inl h) = cast.epochs t o h
      epochs t o (inr e) = subst (λ (y : Transaction). y.epoch ≤ m.epoch) (same-vote tx t origins o e).0 (omega (arith, is))

      among : (t : Transaction) (o : List (Option Digest)) → t.epoch ≡ m.epoch → Has records (record_as.Vote t o) ⊎ (record_as.Vote tx origins ≡ record_as.Vote t o) → Has (m.votes ++ cast_of tx origins ∷ []) (cast_of t o)
      among t o e (inl h) = has_left m.votes (cast_of tx origins ∷ []) (cast_of t o) (cast.cast t o h e)
      among t o e (inr q) = subst (λ (y : Transaction). Has (m.votes ++ cast_of tx origins ∷ []) (cast_of y o)) (same-vote tx t origins o q).0
          (subst (λ (os : List (Option Digest)). Has (m.votes ++ cast_of tx origins ∷ []) (cast_of tx os)) (same-vote tx t origins o q).1 (push_has m.votes (cast_of tx origins)))

      keeps : (v : Cast) → Has m.votes v ⊎ (cast_of tx origins ≡ v) → IsKeptVote (records ++ record_as.Vote tx origins ∷ []) m.epoch v.digest v.origins
      keeps v (inl h) = kept-more records (record_as.Vote tx origins ∷ []) m.epoch v.digest v.origins (cast.kept v h)
      keeps v (inr q) = subst (λ (w : Cast). IsKeptVote (records ++ record_as.Vote tx origins ∷ []) m.epoch w.digest w.origins) q (record {
        transaction = tx;
        stands = push_has records (record_as.Vote tx origins);
        epoch_is = is;
        digest_is = refl;
      })

pub cast-after : (r : Rules) (m : Member) (records : List Record) (x : Record) → is_allowed r m x ≡ true → AreCast records m → AreCast (records ++ x ∷ []) (after r m x)
unfolding after
cast-after r m records (record_as.Vote tx origins) allowed cast = cast-vote records m cast tx origins (allowed-vote r m tx origins allowed).epoch (after r m (record_as.Vote tx origins)) refl refl
cast-after r m records (record_as.Hold c) allowed cast = cast-other records m cast (record_as.Hold c) (λ t o e. cc) (after r m (record_as.Hold c)) refl refl
cast-after r m records (record_as.See bytes) allowed cast = cast-other records m cast (record_as.See bytes) (λ t o e. cc) (after r m (record_as.See bytes)) refl refl
cast-after r m records record_as.Close allowed cast = cast-other records m cast record_as.Close (λ t o e. cc) (after r m record_as.Close) refl refl
cast-after r m records (record_as.Ran txs) allowed cast = cast-other records m cast (record_as.Ran txs) (λ t o e. cc) (after r m (record_as.Ran txs)) refl refl
cast-after r m records record_as.Turn allowed cast = cast-turn records m cast (after r m record_as.Turn) refl refl
cast-after r m records (record_as.Ran2 items) allowed cast = cast-other records m cast (record_as.Ran2 items) (λ t o e. cc) (after r m (record_as.Ran2 items)) refl refl

-- ---- two votes

-- of one epoch: for different digests they consume no common version, for one digest they name the same origins
pub record DoAgree (t u : Transaction) (o p : List (Option Digest)) : Type 0 where
  pub apart : (transaction_digest t ≡ transaction_digest u → ⊥) → (key : ObjectKey) → Has (consumed_keys t) key → Has (consumed_keys u) key → ⊥
  pub same : transaction_digest t ≡ transaction_digest u → o ≡ p

pub agree-self : (t : Transaction) (o : List (Option Digest)) → DoAgree t t o o
agree-self t o = record { apart = λ other key h k. other refl; same = λ e. refl }

pub agree-turned : (t u : Transaction) (o p : List (Option Digest)) → DoAgree t u o p → DoAgree u t p o
agree-turned t u o p a = record { apart = λ other key h k. a.apart (λ e. other (sym e)) key k h; same = λ e. sym (a.same (sym e)) }

-- what is not found is not cast
uncast : (vs : List Cast) (v : Cast) → Has vs v → (tx : Digest) → v.digest ≡ tx → find (λ (w : Cast). digest_eq w.digest tx) vs ≡ None → ⊥
uncast [] v h tx d e = h
uncast (w ∷ vs) v (inl q) tx d e =
    let same = digest_self tx in
    let other = subst (λ (x : Digest). digest_eq x tx ≡ false) (ap (λ (y : Cast). y.digest) q ∙ d) (none-found (λ (y : Cast). digest_eq y.digest tx) w vs e).0 in cc
uncast (w ∷ vs) v (inr h) tx d e = uncast vs v h tx d (none-found (λ (y : Cast). digest_eq y.digest tx) w vs e).1

abbrev pub AreAgreed : List Record → Type 0
AreAgreed records = (t u : Transaction) (o p : List (Option Digest)) → Has records (record_as.Vote t o) → Has records (record_as.Vote u p) → t.epoch ≡ u.epoch → DoAgree t u o p

module _ (records : List Record) (m : Member) (cast : AreCast records m) (agreed : AreAgreed records) where
  new-agrees : (u : Transaction) (origins : List (Option Digest)) → IsFree m u → (t : Transaction) (o : List (Option Digest)) → Has records (record_as.Vote t o) → t.epoch ≡ u.epoch → DoAgree t u o origins
  new-agrees u origins free t o h e =
      let now = cast.cast t o h (e ∙ free.epoch) in
      record {
        apart = λ other key k l.
            let no = each_has (IsApartFrom (cast_of u origins)) m.votes (cast_of t o) (not-locked (ballot m) u origins free.free) now (differ (transaction_digest t) (transaction_digest u) other) key l in
            let has = has-key (consumed_keys t) key k in absurd (cc);
        same = λ d. absurd (uncast m.votes (cast_of t o) now (transaction_digest u) d free.new);
      }

  agreed-other : (x : Record) → IsOther x → AreAgreed (records ++ x ∷ [])
  agreed-other x other t u o p h k = agreed t u o p (earlier records m cast x other t o h) (earlier records m cast x other u p k)

  agreed-vote : (tx : Transaction) (origins : List (Option Digest)) → IsFree m tx → AreAgreed (records ++ record_as.Vote tx origins ∷ [])
  agreed-vote tx origins free t u o p h k = go (has-push records (record_as.Vote tx origins) (record_as.Vote t o) h) (has-push records (record_as.Vote tx origins) (record_as.Vote u p) k)
    where
      with_new : (t : Transaction) (o : List (Option Digest)) → Has records (record_as.Vote t o) → (u : Transaction) (p : List (Option Digest)) → record_as.Vote tx origins ≡ record_as.Vote u p → t.epoch ≡ u.epoch → DoAgree t u o p
      with_new t o h u p q e =
          let same = same-vote records m cast tx u origins p q in
          subst (λ (os : List (Option Digest)). DoAgree t u o os) same.1
          (subst (λ (y : Transaction). t.epoch ≡ y.epoch → DoAgree t y o origins) same.0 (new-agrees tx origins free t o h) e)

      go : Has records (record_as.Vote t o) ⊎ (record_as.Vote tx origins ≡ record_as.Vote t o) → Has records (record_as.Vote u p) ⊎ (record_as.Vote tx origins ≡ record_as.Vote u p) → t.epoch ≡ u.epoch → DoAgree t u o p
      go (inl h) (inl k) e = agreed t u o p h k e
      go (inl h) (inr q) e = with_new t o h u p q e
      go (inr q) (inl k) e = agree-turned u t p o (with_new u p k t o q (sym e))
      go (inr q) (inr z) e =
          let one = same-vote records m cast tx t origins o q in
          let two = same-vote records m cast tx u origins p z in
          subst (λ (y : Transaction). DoAgree t y o p) (sym one.0 ∙ two.0) (subst (λ (os : List (Option Digest)). DoAgree t t o os) (sym one.1 ∙ two.1) (agree-self t o))

pub agreed-after : (r : Rules) (m : Member) (records : List Record) (x : Record) → is_allowed r m x ≡ true → AreCast records m → AreAgreed records → AreAgreed (records ++ x ∷ [])
agreed-after r m records (record_as.Vote tx origins) allowed cast agreed = agreed-vote records m cast agreed tx origins (allowed-vote r m tx origins allowed)
agreed-after r m records (record_as.Hold c) allowed cast agreed = agreed-other records m cast agreed (record_as.Hold c) (λ t o e. cc)
agreed-after r m records (record_as.See bytes) allowed cast agreed = agreed-other records m cast agreed (record_as.See bytes) (λ t o e. cc)
agreed-after r m records record_as.Close allowed cast agreed = agreed-other records m cast agreed record_as.Close (λ t o e. cc)
agreed-after r m records (record_as.Ran txs) allowed cast agreed = agreed-other records m cast agreed (record_as.Ran txs) (λ t o e. cc)
agreed-after r m records record_as.Turn allowed cast agreed = agreed-other records m cast agreed record_as.Turn (λ t o e. cc)
agreed-after r m records (record_as.Ran2 items) allowed cast agreed = agreed-other records m cast agreed (record_as.Ran2 items) (λ t o e. cc)

-- ---- a vote that is answered stands in the records after the call

module _ (r : Rules) (m : Member) (records : List Record) (cast : AreCast records m) (epoch : ℕ) (tx : Digest) (origins : List (Option Digest)) (fresh : Bool) where
  abbrev vote : Voted
  vote = record { statement = statement.Vote epoch tx origins; fresh = fresh }

  abbrev voted_ok : Voted → Result Voted VoteRefusal
  voted_ok v = Ok v

  record IsSame (t : Transaction) (os : List (Option Digest)) (new : Bool) : Type 0 where
    epoch_is : m.epoch ≡ epoch
    digest_is : transaction_digest t ≡ tx
    origins_are : os ≡ origins
    is_new : new ≡ fresh

  ok-same : (v w : Voted) → voted_ok v ≡ voted_ok w → v ≡ w
  ok-same v w e = cc

  same-statement : (e f : ℕ) (c d : Digest) (o p : List (Option Digest)) → statement.Vote e c o ≡ statement.Vote f d p → (e ≡ f) × (c ≡ d) × (o ≡ p)
  same-statement e f c d o p q = (cc, cc, cc)

  same-voted : (t : Transaction) (os : List (Option Digest)) (new : Bool) → voted_ok (voted_as m t os new) ≡ voted_ok vote → IsSame t os new
  same-voted t os new e =
      let one = ok-same (voted_as m t os new) vote e in
      let said = same-statement m.epoch epoch (transaction_digest t) tx os origins (ap (λ (v : Voted). v.statement) one) in
      record { epoch_is = said.0; digest_is = said.1; origins_are = said.2; is_new = ap (λ (v : Voted). v.fresh) one }

  abbrev Stands : Result SignedTx WireFault → Type 0
  Stands read = IsKeptVote (appended records (vote_record read (Ok vote))) epoch tx origins

  new-stands : (s : SignedTx) → s.tx.epoch ≡ m.epoch → (refusal : Option VoteRefusal) → unless_refused refusal (voted_as m s.tx (vote_origins (ballot m) s.tx) true) ≡ Ok vote → Stands (Ok s)
  new-stands s is (Some q) e = absurd (cc)
  new-stands s is None e = go fresh same.is_new
    where
      same : IsSame s.tx (vote_origins (ballot m) s.tx) true
      same = same-voted s.tx (vote_origins (ballot m) s.tx) true e

      go : (b : Bool) → true ≡ b → IsKeptVote (appended records (if b then Some (record_as.Vote s.tx origins) else None)) epoch tx origins
      go true n = record { transaction = s.tx; stands = push_has records (record_as.Vote s.tx origins); epoch_is = is ∙ same.epoch_is; digest_is = same.digest_is }
      go false n = absurd (cc)

  again-stands : (s : SignedTx) (unsealed : Option VoteRefusal) → s.tx.epoch ≡ m.epoch → (v : Option Cast) → vote_for m (transaction_digest s.tx) ≡ v → vote_again m s.tx unsealed v ≡ Ok vote → Stands (Ok s)
  again-stands s unsealed is None found e = new-stands s is (first_some (new_vote_cases m s.tx unsealed)) e
  again-stands s unsealed is (Some v) found e = go fresh same.is_new
    where
      same : IsSame s.tx v.origins false
      same = same-voted s.tx v.origins false e

      test : Cast → Bool
      test w = digest_eq w.digest (transaction_digest s.tx)

      stood : IsKeptVote records epoch tx origins
      stood =
          let k = cast.kept v (find_has test m.votes v found) in
          record {
            transaction = k.transaction;
            stands = subst (λ (os : List (Option Digest)). Has records (record_as.Vote k.transaction os)) same.origins_are k.stands;
            epoch_is = k.epoch_is ∙ same.epoch_is;
            digest_is = k.digest_is ∙ digest_same v.digest (transaction_digest s.tx) (find-test test m.votes v found) ∙ same.digest_is;
          }

      go : (b : Bool) → false ≡ b → IsKeptVote (appended records (if b then Some (record_as.Vote s.tx origins) else None)) epoch tx origins
      go true n = absurd (cc)
      go false n = stood

  on-stands : (s : SignedTx) (unsealed : Option VoteRefusal) (b : Bool) → (s.tx.epoch == m.epoch) ≡ b
      → refused_or (where_true (not b) (no_vote.WrongEpoch s.tx.epoch m.epoch)) (vote_again m s.tx unsealed (vote_for m (transaction_digest s.tx))) ≡ Ok vote → Stands (Ok s)
  on-stands s unsealed false q e = absurd (cc)
  on-stands s unsealed true q e = again-stands s unsealed (eqb-true s.tx.epoch m.epoch q) (vote_for m (transaction_digest s.tx)) refl e

  read-stands : (read : Result SignedTx WireFault) (stopped : Option VoteRefusal) → refused_or stopped (vote_read r m read) ≡ Ok vote → Stands read
  read-stands (Err fault) None e = absurd (cc)
  read-stands (Err fault) (Some refusal) e = absurd (cc)
  read-stands (Ok s) (Some refusal) e = absurd (cc)
  read-stands (Ok s) None e = on-stands s (unsealed_of r s) (s.tx.epoch == m.epoch) refl e

  pub answer-stands : (bytes : List ℕ) → vote_answer r m bytes ≡ Ok vote → IsKeptVote (appended records (due r m (votes bytes))) epoch tx origins
  unfolding due vote_answer
  answer-stands bytes e =
      subst (λ (answer : Result Voted VoteRefusal). IsKeptVote (appended records (vote_record (read_signed bytes) answer)) epoch tx origins) (sym e)
      (read-stands (read_signed bytes) (vote_stopped m) e)
