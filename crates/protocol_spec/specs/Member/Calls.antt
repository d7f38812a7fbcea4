-- What each call of a member answers, and the record that it appends. Source: Sui Lutris; the order of the
-- refusals and the records are this profile's own.
use Rattle.std.specs.Prelude.{ℕ, Bool, true, false, not, ◌==◌, nat_le, List, [], ◌∷◌, map, drop, filter, length, Option, Some, None, option_map, is_some, Result, Ok, Err, if◌then◌else◌}
use Rattle.wire_bcs.specs.declared.fault.WireFault.{WireFault}
use Rattle.digest_core.specs.declared.Digest.{Digest}
use Rattle.chain_types.specs.declared.transactions.Transaction.{Transaction}
use Rattle.chain_types.specs.declared.transactions.SignedTx.{SignedTx}
use Rattle.chain_types.specs.declared.refusals.DecideRefusal.{DecideRefusal}
use Rattle.chain_types.specs.declared.refusals.DecideRefusal.TheVariants as decided
use Rattle.chain_messages.specs.declared.messages.Statement.{Statement}
use Rattle.chain_messages.specs.declared.messages.Statement.TheVariants as statement
use Rattle.chain_messages.specs.declared.messages.Certificate.{Certificate}
use Rattle.effects_core.specs.declared.effects.Effects.{Effects}
use Rattle.checkpoint_core.specs.declared.checkpoints.Checkpoint.{Checkpoint}
use Rattle.journal_core.specs.declared.records.RanItem.{RanItem}
use Rattle.journal_core.specs.declared.records.Record.{Record}
use Rattle.journal_core.specs.declared.records.Record.TheVariants as record_as
use Rattle.protocol_spec.specs.declared.answers.Held.{Held}
use Rattle.protocol_spec.specs.declared.answers.Seen.{Seen}
use Rattle.protocol_spec.specs.declared.answers.Ran.{Ran}
use Rattle.protocol_spec.specs.declared.refusals.VoteRefusal.{VoteRefusal}
use Rattle.protocol_spec.specs.declared.refusals.VoteRefusal.TheVariants as no_vote
use Rattle.protocol_spec.specs.declared.refusals.HoldRefusal.{HoldRefusal}
use Rattle.protocol_spec.specs.declared.refusals.HoldRefusal.TheVariants as no_hold
use Rattle.protocol_spec.specs.declared.refusals.SeeRefusal.{SeeRefusal}
use Rattle.protocol_spec.specs.declared.refusals.SeeRefusal.TheVariants as no_see
use Rattle.protocol_spec.specs.declared.refusals.RunRefusal.{RunRefusal}
use Rattle.protocol_spec.specs.declared.refusals.RunRefusal.TheVariants as no_run
use Rattle.protocol_spec.specs.declared.refusals.CloseRefusal.{CloseRefusal}
use Rattle.protocol_spec.specs.declared.refusals.CloseRefusal.TheVariants as no_close
use Rattle.protocol_spec.specs.declared.refusals.EndRefusal.{EndRefusal}
use Rattle.protocol_spec.specs.declared.refusals.EndRefusal.TheVariants as no_end
use Rattle.protocol_spec.specs.declared.refusals.TurnRefusal.{TurnRefusal}
use Rattle.protocol_spec.specs.declared.refusals.TurnRefusal.TheVariants as no_turn
use Rattle.protocol_spec.specs.declared.refusals.AckRefusal.{AckRefusal}
use Rattle.protocol_spec.specs.declared.refusals.AckRefusal.TheVariants as no_ack
use Rattle.chain_types.specs.Digests.{transaction_digest}
use Rattle.effects_core.specs.Effects.{digest_of_effects}
use Rattle.protocol_spec.specs.Chain.Words.{first_some, first_of, where_true, unless_refused, refused_or}
use Rattle.protocol_spec.specs.Chain.Shape.{shape_fault}
use Rattle.protocol_spec.specs.Chain.Certificates.{Rules, accepts_sender, read_signed, read_certificate, cert_refusal}
use Rattle.protocol_spec.specs.Member.Versions.{Execution, execution_of}
use Rattle.protocol_spec.specs.Member.Votes.{Cast, vote_refusal, vote_origins}
use Rattle.protocol_spec.specs.Member.Admission.{Admitted, is_known}
use Rattle.protocol_spec.specs.Member.Sequence.{seen_what, what_of, held_as}
use Rattle.protocol_spec.specs.Member.Rounds.{rounds, left}
use Rattle.protocol_spec.specs.Member.Checkpoints.{held_of, is_done, is_cut}
use Rattle.protocol_spec.specs.Member.Member.{Member, Fork, ballot, books, built, vote_for, fork_of, fork_with, with_rounds, after}

-- ---- what comes first in every call: a fork was met, and the list of records is full

abbrev pub halted : {E : Type 0} → (Digest → Digest → E) → Member → Option E
halted says m = option_map (λ (f : Fork). says f.first f.second) (fork_of m)

abbrev pub record_limit : ℕ
record_limit = 4194303

abbrev pub full : {E : Type 0} → E → Member → Option E
full says m = where_true (nat_le record_limit m.records) says

-- ---- vote

-- a vote's statement, and whether it is a new one
pub record Voted : Type 0 where
  pub statement : Statement
  pub fresh : Bool

abbrev pub decided_as : DecideRefusal → VoteRefusal
decided_as (decided.Absent key) = no_vote.Absent key
decided_as (decided.Consumed key by) = no_vote.Consumed key by
decided_as (decided.WrongDigest key) = no_vote.WrongDigest key
decided_as (decided.WrongOwner key) = no_vote.WrongOwner key
decided_as (decided.WrongKind key) = no_vote.WrongKind key
decided_as (decided.PoorGas had want) = no_vote.PoorGas had want
decided_as (decided.Locked key by) = no_vote.Locked key by
decided_as decided.OutOfMemory = no_vote.OutOfMemory

-- why there is no new vote, in order; `unsealed` is the refusal of the sender's seal, if it is not accepted
abbrev pub new_vote_cases : Member → Transaction → Option VoteRefusal → List (Option VoteRefusal)
new_vote_cases m t unsealed =
    where_true m.closed no_vote.Closed ∷
    option_map no_vote.Invalid (shape_fault t) ∷
    unsealed ∷
    option_map decided_as (vote_refusal (ballot m) t (transaction_digest t)) ∷ []

abbrev pub voted_as : Member → Transaction → List (Option Digest) → Bool → Voted
voted_as m t origins new = record { statement = statement.Vote m.epoch (transaction_digest t) origins; fresh = new }

abbrev pub new_vote : Member → Transaction → Option VoteRefusal → Result Voted VoteRefusal
new_vote m t unsealed = unless_refused (first_some (new_vote_cases m t unsealed)) (voted_as m t (vote_origins (ballot m) t) true)

abbrev pub vote_again : Member → Transaction → Option VoteRefusal → Option Cast → Result Voted VoteRefusal
vote_again m t unsealed (Some v) = Ok (voted_as m t v.origins false)
vote_again m t unsealed None = new_vote m t unsealed

-- the vote for a transaction: the one given before, or a new one; `unsealed` as above
abbrev pub vote_on : Member → Transaction → Option VoteRefusal → Result Voted VoteRefusal
vote_on m t unsealed = refused_or (where_true (not (t.epoch == m.epoch)) (no_vote.WrongEpoch t.epoch m.epoch)) (vote_again m t unsealed (vote_for m (transaction_digest t)))

abbrev pub unsealed_of : Rules → SignedTx → Option VoteRefusal
unsealed_of r s = where_true (not (accepts_sender r s.tx s.seal)) no_vote.Unsealed

abbrev pub vote_read : Rules → Member → Result SignedTx WireFault → Result Voted VoteRefusal
vote_read r m (Err fault) = Err (no_vote.Malformed fault)
vote_read r m (Ok s) = vote_on m s.tx (unsealed_of r s)

abbrev pub vote_stopped : Member → Option VoteRefusal
vote_stopped m = first_some (halted no_vote.Halted m ∷ full no_vote.Full m ∷ [])

unfoldable pub vote_answer : Rules → Member → List ℕ → Result Voted VoteRefusal
vote_answer r m bytes = refused_or (vote_stopped m) (vote_read r m (read_signed bytes))

-- ---- hold

abbrev pub hold_stopped : Member → Option HoldRefusal
hold_stopped m = first_some (halted no_hold.Halted m ∷ full no_hold.Full m ∷ [])

abbrev pub new_hold_cases : Rules → Member → Certificate → List (Option HoldRefusal)
new_hold_cases r m c =
    where_true m.closed no_hold.Closed ∷
    option_map no_hold.Cert (cert_refusal r c) ∷
    option_map (λ (f : Fork). no_hold.Fork f.key f.first f.second) (fork_with m.held (held_as c)) ∷ []

abbrev pub new_hold : Rules → Member → Certificate → Result Bool HoldRefusal
new_hold r m c = unless_refused (first_some (new_hold_cases r m c)) true

-- true if it is newly held, false if its transaction's certificate is held already
abbrev pub hold_certificate : Rules → Member → Certificate → Result Bool HoldRefusal
hold_certificate r m c =
    refused_or (where_true (not (c.tx.epoch == m.epoch)) (no_hold.WrongEpoch c.tx.epoch m.epoch))
    (if is_some (held_of m.held (transaction_digest c.tx)) then Ok false else new_hold r m c)

abbrev pub hold_read : Rules → Member → Result Certificate WireFault → Result Bool HoldRefusal
hold_read r m (Err fault) = Err (no_hold.Malformed fault)
hold_read r m (Ok c) = hold_certificate r m c

unfoldable pub hold_answer : Rules → Member → List ℕ → Result Bool HoldRefusal
hold_answer r m bytes = refused_or (hold_stopped m) (hold_read r m (read_certificate bytes))

-- ---- see

abbrev pub see_cases : Member → ℕ → List (Option SeeRefusal)
see_cases m number =
    halted no_see.Halted m ∷
    full no_see.Full m ∷
    where_true m.sequence.ended no_see.Over ∷
    where_true (not (number == m.sequence.number)) (no_see.Gap number m.sequence.number) ∷ []

-- the checkpoints that a record completed
abbrev pub newly_built : Member → Member → List Checkpoint
newly_built old new = drop (length (built old)) (built new)

abbrev pub seen_as : Rules → Member → Member → List ℕ → Seen
seen_as r old new bytes = record { what = seen_what r old.sequence new.sequence (what_of r old.epoch old.sequence bytes); built = newly_built old new }

abbrev pub see_fork : Member → Option SeeRefusal
see_fork m = option_map (λ (f : Fork). no_see.Fork f.key f.first f.second) (fork_of m)

abbrev pub see_after : Rules → Member → Member → List ℕ → Result Seen SeeRefusal
see_after r old new bytes = unless_refused (see_fork new) (seen_as r old new bytes)

unfoldable pub see_answer : Rules → Member → ℕ → List ℕ → Result Seen SeeRefusal
see_answer r m number bytes = refused_or (first_some (see_cases m number)) (see_after r m (after r m (record_as.See bytes)) bytes)

-- ---- run

abbrev pub effects_of : Execution → Effects
effects_of x = x.gave.effects

abbrev pub ran_as : Member → List Execution → Member → Ran
ran_as old executed new = record { executed = map effects_of executed; left = left (books new) new.executed; built = newly_built old new }

unfoldable pub run_answer : Rules → Member → Result Ran RunRefusal
run_answer r m = unless_refused (first_some (halted no_run.Halted m ∷ full no_run.Full m ∷ [])) (ran_as m (rounds (books m) m.executed) (with_rounds m))

-- ---- close, end, turn, ack

-- true if the member closes, false if it was closed
unfoldable pub close_answer : Rules → Member → Result Bool CloseRefusal
close_answer r m = unless_refused (first_some (halted no_close.Halted m ∷ full no_close.Full m ∷ [])) (not m.closed)

abbrev pub unseen : Member → Held → Option EndRefusal
unseen m h = where_true (not (is_known m.sequence.admission h.digest)) (no_end.Waits h.digest)

abbrev pub end_cases : Member → List (Option EndRefusal)
end_cases m =
    halted no_end.Halted m ∷
    where_true (not m.closed) no_end.NotClosed ∷
    first_of (unseen m) m.held ∷ []

unfoldable pub end_answer : Rules → Member → Result Statement EndRefusal
end_answer r m = unless_refused (first_some (end_cases m)) (statement.End m.epoch)

abbrev pub not_done : Member → Admitted → Option TurnRefusal
not_done m a = where_true (not (is_done m.held m.executed a)) (no_turn.Waits a.digest)

abbrev pub turn_cases : Member → List (Option TurnRefusal)
turn_cases m =
    halted no_turn.Halted m ∷
    full no_turn.Full m ∷
    where_true (not m.sequence.ended) no_turn.NotEnded ∷
    first_of (not_done m) m.sequence.admission.admitted ∷ []

-- the executed transactions that stand in no checkpoint, oldest first
abbrev pub reverted : Member → List Digest
reverted m = map (λ (x : Execution). x.digest) (filter (λ (x : Execution). not (is_cut m.sequence.cuts x.digest)) m.executed)

unfoldable pub turn_answer : Rules → Member → Result (List Digest) TurnRefusal
turn_answer r m = unless_refused (first_some (turn_cases m)) (reverted m)

abbrev pub acknowledged : Member → Digest → Option Execution → Result Statement AckRefusal
acknowledged m tx None = Err no_ack.NotExecuted
acknowledged m tx (Some x) = Ok (statement.Ack m.epoch tx (digest_of_effects x.gave.effects))

unfoldable pub ack_answer : Rules → Member → Digest → Result Statement AckRefusal
ack_answer r m tx = refused_or (halted no_ack.Halted m) (acknowledged m tx (execution_of m.executed tx))

-- ---- the record that is due

pub data Call : Type 0 where
  votes : List ℕ → Call
  holds : List ℕ → Call
  sees : ℕ → List ℕ → Call
  runs : Call
  closes : Call
  ends : Call
  turns : Call
  acks : Digest → Call

abbrev pub kept_vote : Transaction → Statement → Option Record
kept_vote t (statement.Vote epoch tx origins) = Some (record_as.Vote t origins)
kept_vote t (statement.End epoch) = None
kept_vote t (statement.Checkpoint epoch number digest) = None
kept_vote t (statement.Ack epoch tx effects) = None

-- a new vote is kept
abbrev pub vote_record : Result SignedTx WireFault → Result Voted VoteRefusal → Option Record
vote_record (Err fault) answer = None
vote_record (Ok s) (Err refusal) = None
vote_record (Ok s) (Ok v) = if v.fresh then kept_vote s.tx v.statement else None

-- whether a certificate leaves a record: it is newly held, or it is the evidence of a fork
abbrev pub is_hold_kept : Result Bool HoldRefusal → Bool
is_hold_kept (Ok new) = new
is_hold_kept (Err no_hold.Down) = false
is_hold_kept (Err (no_hold.Halted first second)) = false
is_hold_kept (Err no_hold.Full) = false
is_hold_kept (Err (no_hold.Malformed fault)) = false
is_hold_kept (Err (no_hold.WrongEpoch had want)) = false
is_hold_kept (Err no_hold.Closed) = false
is_hold_kept (Err (no_hold.Cert refusal)) = false
is_hold_kept (Err no_hold.KeepFault) = false
is_hold_kept (Err (no_hold.Fork key first second)) = true
is_hold_kept (Err no_hold.OutOfMemory) = false

abbrev pub hold_record : Result Certificate WireFault → Result Bool HoldRefusal → Option Record
hold_record (Err fault) answer = None
hold_record (Ok c) answer = where_true (is_hold_kept answer) (record_as.Hold c)

abbrev pub see_record : Member → ℕ → List ℕ → Option SeeRefusal → Option Record
see_record m number bytes None = Some (record_as.See bytes)
see_record m number bytes (Some refusal) = None

abbrev pub ran_item : Execution → RanItem
ran_item x = record { tx = x.digest; effects = digest_of_effects x.gave.effects }

abbrev pub ran_items : Member → List RanItem
ran_items m = map ran_item (rounds (books m) m.executed)

-- a run that executes nothing keeps nothing
abbrev pub ran_record : List RanItem → Option Record
ran_record [] = None
ran_record (item ∷ items) = Some (record_as.Ran2 (item ∷ items))

abbrev pub run_record : Member → Result Ran RunRefusal → Option Record
run_record m (Err refusal) = None
run_record m (Ok ran) = ran_record (ran_items m)

abbrev pub close_record : Result Bool CloseRefusal → Option Record
close_record (Err refusal) = None
close_record (Ok new) = where_true new record_as.Close

abbrev pub turn_record : Result (List Digest) TurnRefusal → Option Record
turn_record (Err refusal) = None
turn_record (Ok txs) = Some record_as.Turn

-- the record that a call appends, before it answers
unfoldable pub due : Rules → Member → Call → Option Record
due r m (votes bytes) = vote_record (read_signed bytes) (vote_answer r m bytes)
due r m (holds bytes) = hold_record (read_certificate bytes) (hold_answer r m bytes)
due r m (sees number bytes) = see_record m number bytes (first_some (see_cases m number))
due r m runs = run_record m (run_answer r m)
due r m closes = close_record (close_answer r m)
due r m ends = None
due r m turns = turn_record (turn_answer r m)
due r m (acks tx) = None

abbrev pub after_due : Rules → Member → Option Record → Member
after_due r m None = m
after_due r m (Some x) = after r m x

-- the state after a call
abbrev pub called : Rules → Member → Call → Member
called r m call = after_due r m (due r m call)
