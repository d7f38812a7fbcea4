-- What a member seals can be encoded.
use Rattle.std.proofs.Common.{◌≡◌, ℕ, ◌≤◌, length, Option, subst, arith}
use Rattle.std.specs.Prelude.{Result, Ok, Err, IfOk, Some, None}
use Rattle.wire_bcs.specs.Digests.{digest}
use Rattle.digest_core.specs.declared.Digest.{Digest}
use Rattle.chain_messages.specs.declared.messages.Sealed.{Sealed}
use Rattle.chain_messages.specs.declared.messages.Statement.{Statement}
use Rattle.chain_messages.specs.declared.messages.Statement.TheVariants as statement
use Rattle.chain_messages.specs.Messages as messages
use Rattle.effects_core.specs.Effects.{digest_of_effects}
use Rattle.protocol_spec.specs.declared.answers.Voted.{Voted as Sent}
use Rattle.protocol_spec.specs.declared.refusals.AckRefusal.{AckRefusal}
use Rattle.protocol_spec.specs.declared.refusals.AckRefusal.TheVariants as no_ack
use Rattle.protocol_spec.specs.declared.refusals.EndRefusal.{EndRefusal}
use Rattle.protocol_spec.specs.declared.refusals.VoteRefusal.{VoteRefusal}
use Rattle.protocol_spec.specs.Chain.Certificates.{Rules}
use Rattle.protocol_spec.specs.Chain.Words.{first_some, refused_or, unless_refused}
use Rattle.protocol_spec.specs.Member.Calls.{ack_answer, acknowledged, end_answer, end_cases, halted}
use Rattle.protocol_spec.specs.Member.Member.{Member}
use Rattle.protocol_spec.specs.Member.Versions.{Execution, execution_of}
use Rattle.validator_core.specs.Calls.{origins_in}
use Rattle.world_core.specs.Replies.{Accepting}
use Rattle.validator_process.specs.Says.{HearsAck, HearsEnd}
use Rattle.validator_core.proofs.Casting.{statement_short}
use Rattle.validator_core.proofs.Said.{ack_short, end_short}

pub checkpoint_short : (epoch number : ℕ) (d : Digest) → messages.statement.short (statement.Checkpoint epoch number d)
unfolding messages.statement digest
checkpoint_short epoch number d = (tt, (tt, tt))

few_short : (s : Statement) → length (origins_in s) ≤ 257 → messages.statement.short s
few_short (statement.Vote epoch tx origins) few = statement_short epoch tx origins few
few_short (statement.End epoch) few = end_short epoch
few_short (statement.Checkpoint epoch number d) few = checkpoint_short epoch number d
few_short (statement.Ack epoch tx effects) few = ack_short epoch tx effects

pub sealed_short : (s : Sealed) → length (origins_in s.statement) ≤ 257 → messages.sealed.short s
unfolding messages.sealed digest
sealed_short s few = (tt, (few_short s.statement few, tt))

pub stated_short : (member : ℕ) (statement : Statement) (seal : Digest) → messages.statement.short statement → messages.sealed.short (record { member = member; statement = statement; seal = seal })
unfolding messages.sealed digest
stated_short member statement seal short = (tt, (short, tt))

pub voted_short : (given : Result Sent VoteRefusal) → IfOk given (λ v. length (origins_in v.sealed.statement) ≤ 257) → IfOk given (λ v. messages.sealed.short v.sealed)
voted_short (Ok v) few = sealed_short v.sealed few
voted_short (Err refusal) few = tt

-- ---- an End has no origins, and an acknowledgement neither

end_bare : (refusal : Option EndRefusal) (epoch : ℕ) (s : Statement) → unless_refused refusal (statement.End epoch) ≡ Ok s → length (origins_in s) ≤ 257
end_bare (Some refusal) epoch s e = absurd (cc)
end_bare None epoch s e = let is : statement.End epoch ≡ s = cc in subst (λ (x : Statement). length (origins_in x) ≤ 257) is (omega arith)

pub end_given_short : (accepts : Accepting) (r : Rules) (n : ℕ) (m : Member) (given : Result Sealed EndRefusal) → HearsEnd accepts n (end_answer r m) given → IfOk given messages.sealed.short
unfolding end_answer
end_given_short accepts r n m (Ok s) hears = sealed_short s (end_bare (first_some (end_cases m)) m.epoch s.statement hears.answer.0)
end_given_short accepts r n m (Err refusal) hears = tt

ack_bare : (refusal : Option AckRefusal) (m : Member) (tx : Digest) (x : Option Execution) (s : Statement) → refused_or refusal (acknowledged m tx x) ≡ Ok s → length (origins_in s) ≤ 257
ack_bare (Some refusal) m tx x s e = absurd (cc)
ack_bare None m tx None s e = absurd (cc)
ack_bare None m tx (Some x) s e =
    let is : statement.Ack m.epoch tx (digest_of_effects x.gave.effects) ≡ s = cc in subst (λ (y : Statement). length (origins_in y) ≤ 257) is (omega arith)

pub ack_given_short : (accepts : Accepting) (r : Rules) (n : ℕ) (m : Member) (tx : Digest) (given : Result Sealed AckRefusal) → HearsAck accepts n (ack_answer r m tx) given → IfOk given messages.sealed.short
unfolding ack_answer
ack_given_short accepts r n m tx (Ok s) hears = sealed_short s (ack_bare (halted no_ack.Halted m) m tx (execution_of m.executed tx) s.statement hears.answer.0)
ack_given_short accepts r n m tx (Err refusal) hears = tt
