-- No seal is kept of what a call states that asks for no vote.
use Rattle.std.proofs.Common.{◌≡◌, refl, ap, ℕ, List, [], ◌∷◌, map, Option, Some, None, Result, Ok, Err}
use Rattle.digest_core.specs.declared.Digest.{Digest}
use Rattle.quorum_core.specs.declared.signer.Signer.{Signer}
use Rattle.chain_messages.specs.declared.messages.Statement.TheVariants as statement
use Rattle.checkpoint_core.specs.declared.checkpoints.Checkpoint.{Checkpoint}
use Rattle.protocol_spec.specs.Chain.Certificates.{Rules}
use Rattle.protocol_spec.specs.Chain.Words.{first_some, refused_or, unless_refused}
use Rattle.protocol_spec.specs.declared.answers.Seen.{Seen}
use Rattle.protocol_spec.specs.declared.answers.Ran.{Ran}
use Rattle.protocol_spec.specs.declared.refusals.SeeRefusal.{SeeRefusal}
use Rattle.protocol_spec.specs.declared.refusals.RunRefusal.{RunRefusal}
use Rattle.protocol_spec.specs.declared.refusals.EndRefusal.{EndRefusal}
use Rattle.protocol_spec.specs.declared.refusals.AckRefusal.{AckRefusal}
use Rattle.protocol_spec.specs.declared.refusals.AckRefusal.TheVariants as no_ack
use Rattle.protocol_spec.specs.Member.Member.{Member}
use Rattle.protocol_spec.specs.Member.Versions.{Execution, execution_of}
use Rattle.protocol_spec.specs.Member.Calls.{Call, holds, sees, runs, closes, ends, turns, acks, see_answer, run_answer, end_answer, end_cases, ack_answer, acknowledged, halted}
use Rattle.world_spec.specs.World.{Said, Reached, finds_down, stops, answers, said_by, sealed_by, stated, answered_statement, built_statements, ran_statements, checkpoint_statement}
use Rattle.world_spec.specs.Posts.{stated_in}

module _ (seal : Signer → List ℕ → Digest) (r : Rules) where
  abbrev pub IsPlain : Call → Type 0
  IsPlain call = (m : ℕ) (before : Member) → map (sealed_by seal m) (stated r before call) ≡ map (said_by m) (stated r before call)

  -- whatever becomes of the call
  pub plain_in : (m : ℕ) (call : Call) → IsPlain call → (o : Reached) → map (sealed_by seal m) (stated_in r call o) ≡ map (said_by m) (stated_in r call o)
  plain_in m call plain finds_down = refl
  plain_in m call plain (stops kept x) = refl
  plain_in m call plain (answers before x) = plain m before

  plain_built : (m : ℕ) (cs : List Checkpoint) → map (sealed_by seal m) (map checkpoint_statement cs) ≡ map (said_by m) (map checkpoint_statement cs)
  plain_built m [] = refl
  plain_built m (c ∷ cs) = ap (λ (xs : List Said). said_by m (checkpoint_statement c) ∷ xs) (plain_built m cs)

  plain_seen : (m : ℕ) (answer : Result Seen SeeRefusal) → map (sealed_by seal m) (built_statements answer) ≡ map (said_by m) (built_statements answer)
  plain_seen m (Ok seen) = plain_built m seen.built
  plain_seen m (Err refusal) = refl

  plain_ran : (m : ℕ) (answer : Result Ran RunRefusal) → map (sealed_by seal m) (ran_statements answer) ≡ map (said_by m) (ran_statements answer)
  plain_ran m (Ok ran) = plain_built m ran.built
  plain_ran m (Err refusal) = refl

  plain_ended : (m epoch : ℕ) (refusal : Option EndRefusal) → map (sealed_by seal m) (answered_statement (unless_refused refusal (statement.End epoch))) ≡ map (said_by m) (answered_statement (unless_refused refusal (statement.End epoch)))
  plain_ended m epoch None = refl
  plain_ended m epoch (Some refusal) = refl

  plain_acked : (m : ℕ) (before : Member) (tx : Digest) (stopped : Option AckRefusal) (x : Option Execution)
      → map (sealed_by seal m) (answered_statement (refused_or stopped (acknowledged before tx x))) ≡ map (said_by m) (answered_statement (refused_or stopped (acknowledged before tx x)))
  plain_acked m before tx None None = refl
  plain_acked m before tx None (Some x) = refl
  plain_acked m before tx (Some refusal) x = refl

  pub plain_holds : (bytes : List ℕ) → IsPlain (holds bytes)
  unfolding stated
  plain_holds bytes m before = refl

  pub plain_sees : (number : ℕ) (bytes : List ℕ) → IsPlain (sees number bytes)
  unfolding stated
  plain_sees number bytes m before = plain_seen m (see_answer r before number bytes)

  pub plain_runs : IsPlain runs
  unfolding stated
  plain_runs m before = plain_ran m (run_answer r before)

  pub plain_closes : IsPlain closes
  unfolding stated
  plain_closes m before = refl

  pub plain_ends : IsPlain ends
  unfolding stated end_answer
  plain_ends m before = plain_ended m before.epoch (first_some (end_cases before))

  pub plain_turns : IsPlain turns
  unfolding stated
  plain_turns m before = refl

  pub plain_acks : (tx : Digest) → IsPlain (acks tx)
  unfolding stated ack_answer
  plain_acks tx m before = plain_acked m before tx (halted no_ack.Halted before) (execution_of before.executed tx)
