-- The loop that keeps the outputs of a plan: each is written to the store, or left out.
use Rattle.std.specs.Prelude.{◌≡◌, false, List, [], ◌∷◌, ◌++◌, Option, Some, None}
use Rattle.digest_core.specs.declared.Digest.{Digest}
use Rattle.chain_types.specs.declared.objects.Object.{Object}
use Rattle.effects_core.specs.declared.effects.Effects.{Effects}
use Rattle.protocol_spec.specs.Member.Versions.{Execution, is_executed}
use Rattle.version_store.specs.Stores.{Stored, with_execution}
use Rattle.exec_plan.specs.declared.task.Outcome.{Outcome}
use Rattle.exec_plan.specs.declared.task.Outcome.TheVariants as outcomes
use Rattle.exec_plan.specs.Books.{effects_of}
use Rattle.exec_plan.specs.Tasks.{Planned, keep_as}

abbrev pub with_kept : Stored → Option Execution → Stored
with_kept s None = s
with_kept s (Some x) = with_execution s x

abbrev pub with_effects : List Effects → Option Execution → List Effects
with_effects effects None = effects
with_effects effects (Some x) = effects ++ effects_of x ∷ []

abbrev pub kept_more : List Execution → Option Execution → List Execution
kept_more executed None = executed
kept_more executed (Some x) = executed ++ x ∷ []

-- the effects of an executed task name its transaction
abbrev pub IsNamed : Planned → Outcome → Type 0
IsNamed t (outcomes.Done gave) = gave.effects.tx ≡ t.digest
IsNamed t (outcomes.Absent key origin) = Unit {0}
IsNamed t outcomes.Unfit = Unit {0}
IsNamed t outcomes.Waits = Unit {0}

-- what the loop relies on: the effects of each output name its task's transaction, and no transaction is executed
-- before its output comes
abbrev pub CanBeKept : List Object → List Execution → List Planned → List (Digest × Outcome) → Type 0
CanBeKept opening executed [] outs = Unit {0}
CanBeKept opening executed (t ∷ ts) [] = Unit {0}
CanBeKept opening executed (t ∷ ts) (o ∷ os) =
    (is_executed executed t.digest ≡ false) × (IsNamed t o.1 × CanBeKept opening (kept_more executed (keep_as opening executed t o.1)) ts os)
