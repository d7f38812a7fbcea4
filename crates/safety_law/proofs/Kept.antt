-- Each vote that an honest member stated is in its journal.
use Rattle.std.proofs.Common.{inl, inr, refl, sym, subst, ◌∙◌}
use Rattle.std.proofs.lemmas.Bool.{eqb-true}
use Rattle.std.specs.Prelude.{◌≡◌, ◌⊎◌, ℕ, Bool, true, false, not, ◌==◌, List, [], ◌∷◌, ◌++◌, map, slice_get, Option, Some, None, Result, Ok, Err}
use Rattle.wire_bcs.specs.declared.fault.WireFault.{WireFault}
use Rattle.digest_core.specs.declared.Digest.{Digest}
use Rattle.chain_types.specs.Equal.{digest_eq}
use Rattle.chain_types.specs.Digests.{transaction_digest}
use Rattle.chain_types.specs.declared.transactions.Transaction.{Transaction}
use Rattle.chain_types.specs.declared.transactions.SignedTx.{SignedTx}
use Rattle.chain_messages.specs.declared.messages.Statement.{Statement}
use Rattle.chain_messages.specs.declared.messages.Statement.TheVariants as statement
use Rattle.checkpoint_core.specs.declared.checkpoints.Checkpoint.{Checkpoint}
use Rattle.journal_core.specs.declared.records.Record.{Record}
use Rattle.journal_core.specs.declared.records.Record.TheVariants as record_as
use Rattle.protocol_spec.specs.declared.answers.Seen.{Seen}
use Rattle.protocol_spec.specs.declared.answers.Ran.{Ran}
use Rattle.protocol_spec.specs.declared.refusals.VoteRefusal.{VoteRefusal}
use Rattle.protocol_spec.specs.declared.refusals.VoteRefusal.TheVariants as no_vote
use Rattle.protocol_spec.specs.declared.refusals.SeeRefusal.{SeeRefusal}
use Rattle.protocol_spec.specs.declared.refusals.RunRefusal.{RunRefusal}
use Rattle.protocol_spec.specs.declared.refusals.EndRefusal.{EndRefusal}
use Rattle.protocol_spec.specs.declared.refusals.AckRefusal.{AckRefusal}
use Rattle.protocol_spec.specs.declared.refusals.AckRefusal.TheVariants as no_ack
use Rattle.chain_types.specs.declared.objects.Object.{Object}
use Rattle.protocol_spec.proofs.Equality.{digest_same}
use Rattle.protocol_spec.specs.Member.Versions.{Execution, execution_of}
use Rattle.schedule_text.specs.declared.words.Event.{Event}
use Rattle.protocol_spec.specs.Chain.Words.{Has, first_some, where_true, refused_or, unless_refused}
use Rattle.protocol_spec.specs.Chain.Certificates.{Rules, read_signed}
use Rattle.protocol_spec.proofs.ListLemmas.{find-test, find_has, has_left, push_has}
use Rattle.protocol_spec.specs.Member.Votes.{Cast, vote_origins}
use Rattle.protocol_spec.specs.Member.Member.{Member, ballot, vote_for, cast_of, after, state}
use Rattle.protocol_spec.specs.Member.Calls.{Call, votes, holds, sees, runs, closes, ends, turns, acks, new_vote_cases, voted_as, new_vote, vote_again, unsealed_of, vote_read, vote_stopped, vote_answer, see_answer, run_answer, end_answer, ack_answer, end_cases, acknowledged, halted, vote_record, due}
use Rattle.world_spec.specs.Setting.{Setting}
use Rattle.world_spec.specs.World.{Seat, appended, stated, voted_statement, built_statements, ran_statements, answered_statement, checkpoint_statement}
use Rattle.world_spec.specs.Run.{world_after}
use Rattle.safety_law.proofs.Apart.{state-push, due-free}
use Rattle.world_spec.specs.Assumptions.{signed_read, HasSaid}
use Rattle.safety_law.proofs.InWorld.{each-any}
use Rattle.safety_law.proofs.Once.{has-push}
use Rattle.safety_law.proofs.Backed.{backed}

-- a record of a vote of this epoch for this digest, with these origins
abbrev pub IsKept : List Record → ℕ → Digest → List (Option Digest) → Type 0
IsKept records epoch tx o = (t : Transaction) × Has records (record_as.Vote t o) × (t.epoch ≡ epoch) × (transaction_digest t ≡ tx)

abbrev KeepsVote : List Record → Statement → Type 0
KeepsVote records (statement.Vote epoch tx origins) = IsKept records epoch tx origins
KeepsVote records (statement.End epoch) = Unit {0}
KeepsVote records (statement.Checkpoint epoch number digest) = Unit {0}
KeepsVote records (statement.Ack epoch tx effects) = Unit {0}

-- ---- what is cast is kept

abbrev AreCastKept : List Record → ℕ → List Cast → Type 0
AreCastKept records epoch vs = (v : Cast) → Has vs v → IsKept records epoch v.digest v.origins

kept-more : (records : List Record) (x : Record) (epoch : ℕ) (tx : Digest) (o : List (Option Digest)) → IsKept records epoch tx o → IsKept (records ++ x ∷ []) epoch tx o
kept-more records x epoch tx o (t, h, e, d) = (t, has_left records (x ∷ []) (record_as.Vote t o) h, e, d)

keeps-more : (records : List Record) (x : Record) (st : Statement) → KeepsVote records st → KeepsVote (records ++ x ∷ []) st
keeps-more records x (statement.Vote epoch tx origins) kept = kept-more records x epoch tx origins kept
keeps-more records x (statement.End epoch) kept = tt
keeps-more records x (statement.Checkpoint epoch number digest) kept = tt
keeps-more records x (statement.Ack epoch tx effects) kept = tt

cast-vote : (records : List Record) (epoch : ℕ) (vs : List Cast) (tx : Transaction) (o : List (Option Digest)) → tx.epoch ≡ epoch → AreCastKept records epoch vs → AreCastKept (records ++ record_as.Vote tx o ∷ []) epoch (vs ++ cast_of tx o ∷ [])
cast-vote records epoch vs tx o same kept v h = go (has-push vs (cast_of tx o) v h)
  where
    go : Has vs v ⊎ (cast_of tx o ≡ v) → IsKept (records ++ record_as.Vote tx o ∷ []) epoch v.digest v.origins
    go (inl h) = kept-more records (record_as.Vote tx o) epoch v.digest v.origins (kept v h)
    go (inr e) = subst (λ (c : Cast). IsKept (records ++ record_as.Vote tx o ∷ []) epoch c.digest c.origins) e (tx, push_has records (record_as.Vote tx o), same, refl)

cast-after : (r : Rules) (m : Member) (records : List Record) (call : Call) (x : Record) → due r m call ≡ Some x → AreCastKept records m.epoch m.votes → AreCastKept (records ++ x ∷ []) (after r m x).epoch (after r m x).votes
unfolding after
cast-after r m records call (record_as.Vote tx o) d kept = cast-vote records m.epoch m.votes tx o (eqb-true tx.epoch m.epoch (due-free (λ _. Unit {0}) r m tx o call (each-any (signed_read r call)) d).epoch) kept
cast-after r m records call (record_as.Hold c) d kept = λ v h. kept-more records (record_as.Hold c) m.epoch v.digest v.origins (kept v h)
cast-after r m records call (record_as.See bytes) d kept = λ v h. kept-more records (record_as.See bytes) m.epoch v.digest v.origins (kept v h)
cast-after r m records call record_as.Close d kept = λ v h. kept-more records record_as.Close m.epoch v.digest v.origins (kept v h)
cast-after r m records call (record_as.Ran txs) d kept = λ v h. kept-more records (record_as.Ran txs) m.epoch v.digest v.origins (kept v h)
cast-after r m records call record_as.Turn d kept = λ v h. absurd h
cast-after r m records call (record_as.Ran2 items) d kept = λ v h. kept-more records (record_as.Ran2 items) m.epoch v.digest v.origins (kept v h)

-- ---- a stated vote is kept, or was

-- no other call states a vote
module _ (m : Member) (epoch : ℕ) (d : Digest) (o : List (Option Digest)) where
  pub no-checkpoint : (cs : List Checkpoint) → Has (map checkpoint_statement cs) (statement.Vote epoch d o) → ⊥
  no-checkpoint [] h = h
  no-checkpoint (c ∷ cs) (inl e) = cc
  no-checkpoint (c ∷ cs) (inr h) = no-checkpoint cs h

  pub no-seen : (answer : Result Seen SeeRefusal) → Has (built_statements answer) (statement.Vote epoch d o) → ⊥
  no-seen (Ok seen) h = no-checkpoint seen.built h
  no-seen (Err refusal) h = h

  pub no-ran : (answer : Result Ran RunRefusal) → Has (ran_statements answer) (statement.Vote epoch d o) → ⊥
  no-ran (Ok ran) h = no-checkpoint ran.built h
  no-ran (Err refusal) h = h

  pub no-end : (refusal : Option EndRefusal) → Has (answered_statement (unless_refused refusal (statement.End m.epoch))) (statement.Vote epoch d o) → ⊥
  no-end None (inl e) = cc
  no-end None (inr h) = h
  no-end (Some refusal) h = h

  pub no-ack : (tx : Digest) (stopped : Option AckRefusal) (x : Option Execution) → Has (answered_statement (refused_or stopped (acknowledged m tx x))) (statement.Vote epoch d o) → ⊥
  no-ack tx None None h = h
  no-ack tx None (Some x) (inl e) = cc
  no-ack tx None (Some x) (inr h) = h
  no-ack tx (Some refusal) x h = h

module _ (r : Rules) (m : Member) (records : List Record) (kept : AreCastKept records m.epoch m.votes) (epoch : ℕ) (d : Digest) (o : List (Option Digest)) where
  of-epoch : (e : ℕ) (c : Digest) (p : List (Option Digest)) → statement.Vote e c p ≡ statement.Vote epoch d o → e ≡ epoch
  of-epoch e c p q = cc

  of-digest : (e : ℕ) (c : Digest) (p : List (Option Digest)) → statement.Vote e c p ≡ statement.Vote epoch d o → c ≡ d
  of-digest e c p q = cc

  of-origins : (e : ℕ) (c : Digest) (p : List (Option Digest)) → statement.Vote e c p ≡ statement.Vote epoch d o → p ≡ o
  of-origins e c p q = cc

  new-told : (s : SignedTx) (unsealed : Option VoteRefusal) → (s.tx.epoch == m.epoch) ≡ true → Has (voted_statement (new_vote m s.tx unsealed)) (statement.Vote epoch d o) → IsKept (appended records (vote_record (Ok s) (new_vote m s.tx unsealed))) epoch d o
  new-told s unsealed same = go (first_some (new_vote_cases m s.tx unsealed))
    where
      go : (refusal : Option VoteRefusal) → Has (voted_statement (unless_refused refusal (voted_as m s.tx (vote_origins (ballot m) s.tx) true))) (statement.Vote epoch d o) → IsKept (appended records (vote_record (Ok s) (unless_refused refusal (voted_as m s.tx (vote_origins (ballot m) s.tx) true)))) epoch d o
      go (Some refusal) h = absurd h
      go None (inr h) = absurd h
      go None (inl q) =
          subst (λ (p : List (Option Digest)). IsKept (records ++ record_as.Vote s.tx (vote_origins (ballot m) s.tx) ∷ []) epoch d p) (of-origins m.epoch (transaction_digest s.tx) (vote_origins (ballot m) s.tx) q) (
            s.tx,
            push_has records (record_as.Vote s.tx (vote_origins (ballot m) s.tx)),
            eqb-true s.tx.epoch m.epoch same ∙ of-epoch m.epoch (transaction_digest s.tx) (vote_origins (ballot m) s.tx) q,
            of-digest m.epoch (transaction_digest s.tx) (vote_origins (ballot m) s.tx) q,
          )

  again-told : (s : SignedTx) (unsealed : Option VoteRefusal) (v : Option Cast) → vote_for m (transaction_digest s.tx) ≡ v → (s.tx.epoch == m.epoch) ≡ true → Has (voted_statement (vote_again m s.tx unsealed v)) (statement.Vote epoch d o) → IsKept (appended records (vote_record (Ok s) (vote_again m s.tx unsealed v))) epoch d o
  again-told s unsealed None e same h = new-told s unsealed same h
  again-told s unsealed (Some v) e same (inr h) = absurd h
  again-told s unsealed (Some v) e same (inl q) =
      subst (λ (p : List (Option Digest)). IsKept records epoch d p) (of-origins m.epoch (transaction_digest s.tx) v.origins q)
      (subst (λ (c : Digest). IsKept records epoch c v.origins) (digest_same v.digest (transaction_digest s.tx) (find-test (λ (w : Cast). digest_eq w.digest (transaction_digest s.tx)) m.votes v e) ∙ of-digest m.epoch (transaction_digest s.tx) v.origins q)
      (subst (λ (n : ℕ). IsKept records n v.digest v.origins) (of-epoch m.epoch (transaction_digest s.tx) v.origins q) (kept v (find_has (λ (w : Cast). digest_eq w.digest (transaction_digest s.tx)) m.votes v e))))

  on-told : (s : SignedTx) (unsealed : Option VoteRefusal) (same : Bool) → (s.tx.epoch == m.epoch) ≡ same
      → Has (voted_statement (refused_or (where_true (not same) (no_vote.WrongEpoch s.tx.epoch m.epoch)) (vote_again m s.tx unsealed (vote_for m (transaction_digest s.tx))))) (statement.Vote epoch d o)
      → IsKept (appended records (vote_record (Ok s) (refused_or (where_true (not same) (no_vote.WrongEpoch s.tx.epoch m.epoch)) (vote_again m s.tx unsealed (vote_for m (transaction_digest s.tx)))))) epoch d o
  on-told s unsealed false q h = absurd h
  on-told s unsealed true q h = again-told s unsealed (vote_for m (transaction_digest s.tx)) refl q h

  told : (read : Result SignedTx WireFault) (stopped : Option VoteRefusal) → Has (voted_statement (refused_or stopped (vote_read r m read))) (statement.Vote epoch d o) → IsKept (appended records (vote_record read (refused_or stopped (vote_read r m read)))) epoch d o
  told (Err fault) None h = absurd h
  told (Err fault) (Some refusal) h = absurd h
  told (Ok s) (Some refusal) h = absurd h
  told (Ok s) None h = on-told s (unsealed_of r s) (s.tx.epoch == m.epoch) refl h

  tells-vote : (call : Call) → Has (stated r m call) (statement.Vote epoch d o) → IsKept (appended records (due r m call)) epoch d o
  unfolding stated due vote_answer end_answer ack_answer
  tells-vote (votes bytes) h = told (read_signed bytes) (vote_stopped m) h
  tells-vote (holds bytes) h = absurd h
  tells-vote (sees number bytes) h = absurd (no-seen m epoch d o (see_answer r m number bytes) h)
  tells-vote runs h = absurd (no-ran m epoch d o (run_answer r m) h)
  tells-vote closes h = absurd h
  tells-vote ends h = absurd (no-end m epoch d o (first_some (end_cases m)) h)
  tells-vote turns h = absurd h
  tells-vote (acks tx) h = absurd (no-ack m epoch d o tx (halted no_ack.Halted m) (execution_of m.executed tx) h)

tells-all : (s : Setting) (records : List Record) (call : Call) (st : Statement) → AreCastKept records (state s.rules s.opening records).epoch (state s.rules s.opening records).votes
    → Has (stated s.rules (state s.rules s.opening records) call) st → KeepsVote (appended records (due s.rules (state s.rules s.opening records) call)) st
tells-all s records call (statement.Vote epoch d o) kept h = tells-vote s.rules (state s.rules s.opening records) records kept epoch d o call h
tells-all s records call (statement.End epoch) kept h = tt
tells-all s records call (statement.Checkpoint epoch number digest) kept h = tt
tells-all s records call (statement.Ack epoch tx effects) kept h = tt

none-cast : (r : Rules) (opening : List Object) → AreCastKept [] (state r opening []).epoch (state r opening []).votes
unfolding state
none-cast r opening v h = absurd h

pub every-vote : (s : Setting) (events : List Event) (m : ℕ) (seat : Seat) → slice_get (world_after s events).seats m ≡ Some seat → seat.honest ≡ true
    → (epoch : ℕ) (tx : Digest) (origins : List (Option Digest)) → HasSaid (world_after s events) m (statement.Vote epoch tx origins) → IsKept seat.records epoch tx origins
every-vote s events m seat at honest epoch tx origins h =
    backed s (λ records. AreCastKept records (state s.rules s.opening records).epoch (state s.rules s.opening records).votes) KeepsVote
    (λ records call x d kept. subst (λ (n : Member). AreCastKept (records ++ x ∷ []) n.epoch n.votes) (sym (state-push s.rules s.opening records x)) (cast-after s.rules (state s.rules s.opening records) records call x d kept))
    keeps-more (tells-all s) (none-cast s.rules s.opening) events m seat at honest (statement.Vote epoch tx origins) h
