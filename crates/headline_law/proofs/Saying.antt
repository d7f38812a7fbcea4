-- Each statement of an honest member was made in a state in which it was: an acknowledgement if it had executed the
-- transaction with these effects, an End if it had closed and all that it held was in the sequence.
use Rattle.std.proofs.Common.{inl, inr, refl, sym, ap, ◌∙◌, append_assoc, append-nil}
use Rattle.std.specs.Prelude.{◌≡◌, ℕ, true, false, not, ◌==◌, List, [], ◌∷◌, ◌++◌, map, slice_get, Option, Some, None, Result, Ok, Err}
use Rattle.digest_core.specs.declared.Digest.{Digest}
use Rattle.wire_bcs.specs.declared.fault.WireFault.{WireFault}
use Rattle.chain_types.specs.Equal.{digest_eq}
use Rattle.chain_types.specs.Digests.{transaction_digest}
use Rattle.chain_types.specs.declared.transactions.Transaction.{Transaction}
use Rattle.chain_types.specs.declared.transactions.SignedTx.{SignedTx}
use Rattle.chain_messages.specs.declared.messages.Statement.{Statement}
use Rattle.chain_messages.specs.declared.messages.Statement.TheVariants as statement
use Rattle.checkpoint_core.specs.declared.checkpoints.Checkpoint.{Checkpoint}
use Rattle.effects_core.specs.Effects.{digest_of_effects}
use Rattle.journal_core.specs.declared.records.Record.{Record}
use Rattle.protocol_spec.specs.declared.answers.Seen.{Seen}
use Rattle.protocol_spec.specs.declared.answers.Ran.{Ran}
use Rattle.protocol_spec.specs.declared.refusals.VoteRefusal.{VoteRefusal}
use Rattle.protocol_spec.specs.declared.refusals.VoteRefusal.TheVariants as no_vote
use Rattle.protocol_spec.specs.declared.refusals.SeeRefusal.{SeeRefusal}
use Rattle.protocol_spec.specs.declared.refusals.RunRefusal.{RunRefusal}
use Rattle.protocol_spec.specs.declared.refusals.EndRefusal.{EndRefusal}
use Rattle.protocol_spec.specs.declared.refusals.EndRefusal.TheVariants as no_end
use Rattle.protocol_spec.specs.declared.refusals.AckRefusal.{AckRefusal}
use Rattle.protocol_spec.specs.declared.refusals.AckRefusal.TheVariants as no_ack
use Rattle.schedule_text.specs.declared.words.Event.{Event}
use Rattle.protocol_spec.proofs.Equality.{digest_same}
use Rattle.protocol_spec.specs.Chain.Words.{Has, first_some, where_true, unless_refused, refused_or}
use Rattle.protocol_spec.specs.Chain.Certificates.{Rules, read_signed}
use Rattle.protocol_spec.proofs.ListLemmas.{find-test, find_has}
use Rattle.protocol_spec.proofs.Truth.{where_not_true}
use Rattle.protocol_spec.specs.Member.Versions.{Execution, execution_of}
use Rattle.protocol_spec.specs.Member.Admission.{is_known}
use Rattle.protocol_spec.specs.Member.Votes.{Cast, vote_origins}
use Rattle.protocol_spec.specs.Member.Member.{Member, ballot, vote_for, state}
use Rattle.protocol_spec.specs.Member.Calls.{Call, votes, holds, sees, runs, closes, ends, turns, acks, Voted, new_vote_cases, voted_as, new_vote, vote_again, unsealed_of, vote_read, vote_stopped, vote_answer, see_answer, run_answer, end_answer, ack_answer, end_cases, unseen, acknowledged, halted, due}
use Rattle.world_spec.specs.Setting.{Setting}
use Rattle.world_spec.specs.World.{Seat, appended, stated, voted_statement, built_statements, ran_statements, answered_statement, checkpoint_statement}
use Rattle.world_spec.specs.Run.{world_after}
use Rattle.safety_law.proofs.Apart.{none-each, none-of}
use Rattle.safety_law.proofs.Backed.{backed}
use Rattle.headline_law.specs.Stated.{HasExecuted, IsSettled, MakesStatement, WasOnce}
use Rattle.world_spec.specs.Assumptions.{HasSaid}

-- ---- every statement

module _ (s : Setting) where
  once-more : (records : List Record) (x : Record) (P : Member → Type 0) → WasOnce s records P → WasOnce s (records ++ x ∷ []) P
  once-more records x P was = record {
    front = was.front;
    back = was.back ++ x ∷ [];
    whole = ap (λ (xs : List Record). xs ++ x ∷ []) was.whole ∙ append_assoc was.front was.back (x ∷ []);
    held = was.held;
  }

  once-now : (records : List Record) (x : Option Record) (P : Member → Type 0) → P (state s.rules s.opening records) → WasOnce s (appended records x) P
  once-now records None P p = record { front = records; back = []; whole = sym (append-nil records); held = p }
  once-now records (Some x) P p = record { front = records; back = x ∷ []; whole = refl; held = p }

  pub once-then : (records : List Record) (P Q : Member → Type 0) → ((m : Member) → P m → Q m) → WasOnce s records P → WasOnce s records Q
  once-then records P Q more was = record { front = was.front; back = was.back; whole = was.whole; held = more (state s.rules s.opening was.front) was.held }

pub every-statement : (s : Setting) (events : List Event) (m : ℕ) (seat : Seat) → slice_get (world_after s events).seats m ≡ Some seat → seat.honest ≡ true
    → (st : Statement) → HasSaid (world_after s events) m st → WasOnce s seat.records (MakesStatement s st)
every-statement s events m seat at honest st h =
    backed s (λ records. Unit {0}) (λ (records : List Record) (x : Statement). WasOnce s records (MakesStatement s x)) (λ records call x d p. tt)
    (λ records x st was. once-more s records x (MakesStatement s st) was)
    (λ records call st p h. once-now s records (due s.rules (state s.rules s.opening records) call) (MakesStatement s st) (call, h))
    tt events m seat at honest st h

-- ---- what the calls state

-- the kind of a statement
abbrev kind_of : Statement → ℕ
kind_of (statement.Vote epoch tx origins) = 0
kind_of (statement.End epoch) = 1
kind_of (statement.Checkpoint epoch number digest) = 2
kind_of (statement.Ack epoch tx effects) = 3

kind-checkpoint : (cs : List Checkpoint) (st : Statement) → Has (map checkpoint_statement cs) st → kind_of st ≡ 2
kind-checkpoint [] st h = absurd h
kind-checkpoint (c ∷ cs) st (inl e) = ap kind_of (sym e)
kind-checkpoint (c ∷ cs) st (inr h) = kind-checkpoint cs st h

kind-seen : (answer : Result Seen SeeRefusal) (st : Statement) → Has (built_statements answer) st → kind_of st ≡ 2
kind-seen (Ok seen) st h = kind-checkpoint seen.built st h
kind-seen (Err refusal) st h = absurd h

kind-ran : (answer : Result Ran RunRefusal) (st : Statement) → Has (ran_statements answer) st → kind_of st ≡ 2
kind-ran (Ok ran) st h = kind-checkpoint ran.built st h
kind-ran (Err refusal) st h = absurd h

module _ (st : Statement) where
  abbrev IsVoted : Result Voted VoteRefusal → Type 0
  IsVoted answer = Has (voted_statement answer) st → kind_of st ≡ 0

  kind-voted : (v : Voted) → kind_of v.statement ≡ 0 → IsVoted (Ok v)
  kind-voted v k (inl e) = ap kind_of (sym e) ∙ k
  kind-voted v k (inr h) = absurd h

  kind-refused : (refusal : Option VoteRefusal) (rest : Result Voted VoteRefusal) → IsVoted rest → IsVoted (refused_or refusal rest)
  kind-refused None rest is h = is h
  kind-refused (Some refusal) rest is h = absurd h

  kind-new : (m : Member) (t : Transaction) (unsealed : Option VoteRefusal) → IsVoted (new_vote m t unsealed)
  kind-new m t unsealed = go (first_some (new_vote_cases m t unsealed))
    where
      go : (refusal : Option VoteRefusal) → IsVoted (unless_refused refusal (voted_as m t (vote_origins (ballot m) t) true))
      go None h = kind-voted (voted_as m t (vote_origins (ballot m) t) true) refl h
      go (Some refusal) h = absurd h

  kind-again : (m : Member) (t : Transaction) (unsealed : Option VoteRefusal) (v : Option Cast) → IsVoted (vote_again m t unsealed v)
  kind-again m t unsealed None h = kind-new m t unsealed h
  kind-again m t unsealed (Some v) h = kind-voted (voted_as m t v.origins false) refl h

  kind-read : (r : Rules) (m : Member) (read : Result SignedTx WireFault) → IsVoted (vote_read r m read)
  kind-read r m (Err fault) h = absurd h
  kind-read r m (Ok x) h =
      kind-refused (where_true (not (x.tx.epoch == m.epoch)) (no_vote.WrongEpoch x.tx.epoch m.epoch)) (vote_again m x.tx (unsealed_of r x) (vote_for m (transaction_digest x.tx)))
      (kind-again m x.tx (unsealed_of r x) (vote_for m (transaction_digest x.tx))) h

  kind-vote : (r : Rules) (m : Member) (bytes : List ℕ) → IsVoted (vote_answer r m bytes)
  unfolding vote_answer
  kind-vote r m bytes h = kind-refused (vote_stopped m) (vote_read r m (read_signed bytes)) (kind-read r m (read_signed bytes)) h

-- ---- an acknowledgement

module _ (r : Rules) (m : Member) (epoch : ℕ) (tx effects : Digest) where
  abbrev ack : Statement
  ack = statement.Ack epoch tx effects

  acks-what : (asked : Digest) (x : Option Execution) → execution_of m.executed asked ≡ x → Has (answered_statement (acknowledged m asked x)) ack → HasExecuted epoch tx effects m
  acks-what asked None e h = absurd h
  acks-what asked (Some x) e (inr h) = absurd h
  acks-what asked (Some x) e (inl same) = record {
    epoch_is = epochs same;
    of = x;
    there = find_has (λ (y : Execution). digest_eq y.digest asked) m.executed x e;
    named = digest_same x.digest asked (find-test (λ (y : Execution). digest_eq y.digest asked) m.executed x e) ∙ txs same;
    gave = digests same;
  }
    where
      epochs : statement.Ack m.epoch asked (digest_of_effects x.gave.effects) ≡ statement.Ack epoch tx effects → m.epoch ≡ epoch
      epochs e = cc

      txs : statement.Ack m.epoch asked (digest_of_effects x.gave.effects) ≡ statement.Ack epoch tx effects → asked ≡ tx
      txs e = cc

      digests : statement.Ack m.epoch asked (digest_of_effects x.gave.effects) ≡ statement.Ack epoch tx effects → digest_of_effects x.gave.effects ≡ effects
      digests e = cc

  acks-answered : (asked : Digest) (refusal : Option AckRefusal) → Has (answered_statement (refused_or refusal (acknowledged m asked (execution_of m.executed asked)))) ack → HasExecuted epoch tx effects m
  acks-answered asked None h = acks-what asked (execution_of m.executed asked) refl h
  acks-answered asked (Some refusal) h = absurd h

  ends-other : (refusal : Option EndRefusal) → Has (answered_statement (unless_refused refusal (statement.End m.epoch))) ack → ⊥
  ends-other None (inl e) = cc
  ends-other None (inr h) = h
  ends-other (Some refusal) h = h

  states-ack : (call : Call) → Has (stated r m call) ack → HasExecuted epoch tx effects m
  unfolding stated end_answer ack_answer
  states-ack (votes bytes) h = absurd (let k = kind-vote ack r m bytes h in cc)
  states-ack (holds bytes) h = absurd h
  states-ack (sees number bytes) h = absurd (let k = kind-seen (see_answer r m number bytes) ack h in cc)
  states-ack runs h = absurd (let k = kind-ran (run_answer r m) ack h in cc)
  states-ack closes h = absurd h
  states-ack ends h = absurd (ends-other (first_some (end_cases m)) h)
  states-ack turns h = absurd h
  states-ack (acks asked) h = acks-answered asked (halted no_ack.Halted m) h

-- ---- an End

module _ (r : Rules) (m : Member) (epoch : ℕ) where
  abbrev end : Statement
  end = statement.End epoch

  ends-answered : (refusal : Option EndRefusal) → first_some (end_cases m) ≡ refusal → Has (answered_statement (unless_refused refusal (statement.End m.epoch))) end → IsSettled epoch m
  ends-answered (Some refusal) e h = absurd h
  ends-answered None e (inr h) = absurd h
  ends-answered None e (inl same) =
      let none = none-each (end_cases m) e in
      record {
        epoch_is = epochs same;
        closed = where_not_true m.closed no_end.NotClosed none.1.0;
        known = λ h there. where_not_true (is_known m.sequence.admission h.digest) (no_end.Waits h.digest) (none-of (unseen m) m.held h none.1.1.0 there);
      }
    where
      epochs : statement.End m.epoch ≡ statement.End epoch → m.epoch ≡ epoch
      epochs e = cc

  acks-other : (asked : Digest) (refusal : Option AckRefusal) (x : Option Execution) → Has (answered_statement (refused_or refusal (acknowledged m asked x))) end → ⊥
  acks-other asked (Some refusal) x h = h
  acks-other asked None None h = h
  acks-other asked None (Some x) (inl e) = cc
  acks-other asked None (Some x) (inr h) = h

  states-end : (call : Call) → Has (stated r m call) end → IsSettled epoch m
  unfolding stated end_answer ack_answer
  states-end (votes bytes) h = absurd (let k = kind-vote end r m bytes h in cc)
  states-end (holds bytes) h = absurd h
  states-end (sees number bytes) h = absurd (let k = kind-seen (see_answer r m number bytes) end h in cc)
  states-end runs h = absurd (let k = kind-ran (run_answer r m) end h in cc)
  states-end closes h = absurd h
  states-end ends h = ends-answered (first_some (end_cases m)) refl h
  states-end turns h = absurd h
  states-end (acks asked) h = absurd (acks-other asked (halted no_ack.Halted m) (execution_of m.executed asked) h)

-- ---- in a run

module _ (s : Setting) (events : List Event) (m : ℕ) (seat : Seat) (at : slice_get (world_after s events).seats m ≡ Some seat) (honest : seat.honest ≡ true) where
  pub every-ack : (epoch : ℕ) (tx effects : Digest) → HasSaid (world_after s events) m (statement.Ack epoch tx effects) → WasOnce s seat.records (HasExecuted epoch tx effects)
  every-ack epoch tx effects h = once-then s seat.records (MakesStatement s (statement.Ack epoch tx effects)) (HasExecuted epoch tx effects)
      (λ p made. states-ack s.rules p epoch tx effects made.0 made.1) (every-statement s events m seat at honest (statement.Ack epoch tx effects) h)

  pub every-end : (epoch : ℕ) → HasSaid (world_after s events) m (statement.End epoch) → WasOnce s seat.records (IsSettled epoch)
  every-end epoch h = once-then s seat.records (MakesStatement s (statement.End epoch)) (IsSettled epoch)
      (λ p made. states-end s.rules p epoch made.0 made.1) (every-statement s events m seat at honest (statement.End epoch) h)
