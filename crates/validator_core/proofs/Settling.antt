-- The member after an answer.
use Rattle.std.proofs.Common.{◌≡◌, ℕ, true, false, cond, List, [], Option, Some, None, is_some, refl, ap, sym, ◌∙◌, subst}
use Rattle.std.specs.Prelude.{Bool, not, Result, Ok, Err}
use Rattle.wire_bcs.specs.declared.fault.WireFault.{WireFault}
use Rattle.digest_core.specs.declared.Digest.{Digest}
use Rattle.quorum_core.specs.declared.signer.Signer.{Signer}
use Rattle.chain_types.specs.declared.transactions.SignedTx.{SignedTx}
use Rattle.chain_messages.specs.declared.messages.Statement.{Statement}
use Rattle.chain_messages.specs.declared.messages.Statement.TheVariants as statement
use Rattle.protocol_spec.specs.Chain.Certificates.{Rules, read_signed}
use Rattle.outside.specs.Lists.{Journals, KeepsJournals}
use Rattle.journal_core.specs.declared.records.Record.{Record}
use Rattle.protocol_spec.specs.declared.answers.Voted.{Voted as Sent}
use Rattle.protocol_spec.specs.declared.refusals.VoteRefusal.{VoteRefusal}
use Rattle.protocol_spec.specs.declared.refusals.VoteRefusal.TheVariants as no_vote
use Rattle.protocol_spec.specs.declared.refusals.HoldRefusal.{HoldRefusal}
use Rattle.protocol_spec.specs.declared.refusals.HoldRefusal.TheVariants as no_hold
use Rattle.protocol_spec.specs.Member.Member.{Member, after, fresh}
use Rattle.protocol_spec.specs.Member.Calls.{Call, Voted, after_due, called, due, hold_answer, holds, kept_vote, vote_answer, vote_record, votes}
use Rattle.world_spec.specs.Terms.{Terms, rules_for}
use Rattle.validator_core.specs.Answers.{sealed_as}
use Rattle.validator_core.specs.Calls.{Holds, Votes, hold_said, vote_said}
use Rattle.validator_core.specs.Seats.{Becomes, Behaves, Ended, Journaled, Keeps, answered, fell, has_fallen}
use Rattle.world_spec.specs.Seats.{Seated, due_at, rules_of_seat}

abbrev pub Signing : Type 0
Signing = Signer → List ℕ → Digest → Bool

-- up if it answered, else down
abbrev pub seat_with : Seated → Member → Ended → Seated
seat_with old state e = record old { state = state; up = not (has_fallen e) }

pub settles : (r : Rules) (call : Call) (old : Seated) (mid state : Member) (e : Ended) → old.up ≡ true → Becomes (called r old.state call) mid e → state ≡ cond (has_fallen e) (fresh []) mid → Behaves r call old (seat_with old state e) e
settles r call old mid state answered up is left =
    ap (λ (s : Member). record old { state = s; up = true }) (left ∙ is)
    ∙ ap (λ (b : Bool). record old { state = called r old.state call; up = b }) (sym up)
    ∙ ap (λ (b : Bool). cond b (record old { state = called r old.state call }) old) (sym up)
settles r call old mid state fell up is left = ap (λ (s : Member). record old { state = s; up = false }) left

-- ---- votes: the terms play no part

same_vote : (r r' : Rules) (m : Member) (x : Result SignedTx WireFault) (a : Result Voted VoteRefusal) → after_due r m (vote_record x a) ≡ after_due r' m (vote_record x a)
unfolding after
same_vote r r' m (Err fault) a = refl
same_vote r r' m (Ok s) (Err refusal) = refl
same_vote r r' m (Ok s) (Ok v) = go v.fresh v.statement
  where
    go : (b : Bool) (st : Statement) → after_due r m (cond b (kept_vote s.tx st) None) ≡ after_due r' m (cond b (kept_vote s.tx st) None)
    go false st = refl
    go true (statement.Vote epoch tx origins) = refl
    go true (statement.End epoch) = refl
    go true (statement.Checkpoint epoch number digest) = refl
    go true (statement.Ack epoch tx effects) = refl

same_called : (accepts : Signing) (terms : Terms) (bytes : List ℕ) (m : Member) → called (sealed_as accepts) m (votes bytes) ≡ called (rules_for terms accepts) m (votes bytes)
unfolding due vote_answer
same_called accepts terms bytes m = same_vote (sealed_as accepts) (rules_for terms accepts) m (read_signed bytes) (vote_answer (sealed_as accepts) m bytes)

pub vote_settles : (accepts : Signing) (old : Seated) (bytes : List ℕ) (mid state : Member) (e : Ended) → old.up ≡ true → Becomes (called (sealed_as accepts) old.state (votes bytes)) mid e
    → state ≡ cond (has_fallen e) (fresh []) mid → Behaves (rules_of_seat old accepts) (votes bytes) old (seat_with old state e) e
vote_settles accepts old bytes mid state e up h left =
    settles (rules_of_seat old accepts) (votes bytes) old mid state e up (subst (λ (next : Member). Becomes next mid e) (same_called accepts old.terms bytes old.state) h) left

pub vote_at : (accepts : Signing) (old : Seated) (bytes : List ℕ) (answer : Result Sent VoteRefusal) → old.up ≡ true → Votes accepts old.member (vote_answer (sealed_as accepts) old.state bytes) answer
    → Votes accepts old.member (vote_said (rules_of_seat old accepts) old bytes) answer
unfolding vote_answer
vote_at accepts old bytes answer up h =
    subst (λ said. Votes accepts old.member said answer) (ap (λ (b : Bool). cond b (vote_answer (rules_of_seat old accepts) old.state bytes) (Err no_vote.Down)) (sym up)) h

pub vote_due_at : (accepts : Signing) (old : Seated) (bytes : List ℕ) (before now : Option Journals) (e : Ended) → old.up ≡ true
    → Journaled before now old.member (due (sealed_as accepts) old.state (votes bytes)) e → Journaled before now old.member (due_at (rules_of_seat old accepts) old (votes bytes)) e
unfolding due vote_answer
vote_due_at accepts old bytes before now e up h =
    subst (λ (x : Option Record). Journaled before now old.member x e) (ap (λ (b : Bool). cond b (due (rules_of_seat old accepts) old.state (votes bytes)) None) (sym up)) h

-- a record that is due in its state is due at the member that is up
pub owed_at : (r : Rules) (old : Seated) (call : Call) → old.up ≡ true → is_some (due r old.state call) ≡ true → is_some (due_at r old call) ≡ true
owed_at r old call up h = ap (λ (b : Bool). is_some (cond b (due r old.state call) None)) up ∙ h

pub vote_owed_at : (accepts : Signing) (old : Seated) (bytes : List ℕ) → old.up ≡ true → is_some (due (sealed_as accepts) old.state (votes bytes)) ≡ true → is_some (due_at (rules_of_seat old accepts) old (votes bytes)) ≡ true
unfolding due vote_answer
vote_owed_at accepts old bytes up h = ap (λ (b : Bool). is_some (cond b (due (rules_of_seat old accepts) old.state (votes bytes)) None)) up ∙ h

-- ---- certificates

pub hold_settles : (accepts : Signing) (old : Seated) (bytes : List ℕ) (mid state : Member) (e : Ended) → old.up ≡ true → Becomes (called (rules_for old.terms accepts) old.state (holds bytes)) mid e
    → state ≡ cond (has_fallen e) (fresh []) mid → Behaves (rules_of_seat old accepts) (holds bytes) old (seat_with old state e) e
hold_settles accepts old bytes mid state e up h left = settles (rules_of_seat old accepts) (holds bytes) old mid state e up h left

pub hold_at : (accepts : Signing) (old : Seated) (bytes : List ℕ) (answer : Result Bool HoldRefusal) → old.up ≡ true → Holds (hold_answer (rules_for old.terms accepts) old.state bytes) answer
    → Holds (hold_said (rules_of_seat old accepts) old bytes) answer
hold_at accepts old bytes answer up h =
    subst (λ said. Holds said answer) (ap (λ (b : Bool). cond b (hold_answer (rules_of_seat old accepts) old.state bytes) (Err no_hold.Down)) (sym up)) h

pub hold_due_at : (accepts : Signing) (old : Seated) (bytes : List ℕ) (before now : Option Journals) (e : Ended) → old.up ≡ true
    → Journaled before now old.member (due (rules_for old.terms accepts) old.state (holds bytes)) e → Journaled before now old.member (due_at (rules_of_seat old accepts) old (holds bytes)) e
hold_due_at accepts old bytes before now e up h =
    subst (λ (x : Option Record). Journaled before now old.member x e) (ap (λ (b : Bool). cond b (due (rules_of_seat old accepts) old.state (holds bytes)) None) (sym up)) h

-- ---- a member that is down

pub keeps_same : (lists : Option Journals) → KeepsJournals lists lists
keeps_same None = tt
keeps_same (Some lists) = refl

pub down_keeps : (r : Rules) (old : Seated) (call : Call) (lists : Option Journals) → old.up ≡ false → Keeps lists lists old.member (due_at r old call)
down_keeps r old call lists down = subst (λ (x : Option Record). Keeps lists lists old.member x) (ap (λ (b : Bool). cond b (due r old.state call) None) (sym down)) (keeps_same lists)
