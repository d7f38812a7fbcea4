-- What is kept of the outputs of a plan is the run, and what the plan took out is filed after it.
use Rattle.std.proofs.Common.{◌≡◌, ℕ, true, List, ap, sym, subst, ◌∙◌}
use Rattle.digest_core.specs.declared.Digest.{Digest}
use Rattle.protocol_spec.specs.declared.answers.Held.{Held}
use Rattle.protocol_spec.specs.Chain.Words.{Each}
use Rattle.protocol_spec.specs.Member.Versions.{is_executed}
use Rattle.protocol_spec.specs.Member.Admission.{Admission}
use Rattle.protocol_spec.specs.Member.Rounds.{Books, rounds}
use Rattle.version_store.specs.Stores.{Stored}
use Rattle.dag_core.specs.declared.plan.Edge.{Edge}
use Rattle.dag_core.specs.Values.{outputs}
use Rattle.exec_plan.specs.declared.task.Outcome.{Outcome}
use Rattle.exec_plan.specs.declared.waiting.DependencyIndex.{DependencyIndex}
use Rattle.exec_plan.specs.Ahead.{AreParked}
use Rattle.exec_plan.specs.Books.{AreApart, IsSound, books_of}
use Rattle.exec_plan.specs.Keeping.{CanBeKept}
use Rattle.exec_plan.specs.Layers.{is_planned, planned_of}
use Rattle.exec_plan.specs.Runs.{with_executions}
use Rattle.exec_plan.specs.Tasks.{Planned, edges_of, kept_of, output_of, outputs_of, tasks_of, values_of}
use Rattle.exec_plan.specs.Waits.{IsFiled}
use Rattle.exec_plan.proofs.Carrying.{can_be_kept, keeps_rounds}
use Rattle.exec_plan.proofs.Layering.{turn_planned, turns_are_rounds}
use Rattle.exec_plan.proofs.Looking.{unparks}

module _ (s : Stored) (a : Admission) (held : List Held) (tasks sliced : List Planned) (edges : List Edge) (outs among : List (Digest × Outcome)) (apart : AreApart held)
    (are_tasks : tasks ≡ tasks_of (books_of s a held) s.executed) (are_edges : edges ≡ edges_of (books_of s a held) s.executed) (are_outs : outs ≡ outputs output_of values_of edges tasks) (same : sliced ≡ tasks) (alike : among ≡ outs) where
  abbrev b : Books
  b = books_of s a held

  outs_are : among ≡ outputs_of b s.executed
  unfolding outputs_of
  outs_are =
      alike ∙ are_outs
      ∙ ap (λ es. outputs output_of values_of es tasks) are_edges
      ∙ ap (λ ts. outputs output_of values_of (edges_of b s.executed) ts) are_tasks

  pub can_keep : Each IsSound held → CanBeKept s.opening s.executed sliced among
  can_keep sound =
      subst (λ ts. CanBeKept s.opening s.executed ts among) (sym (same ∙ are_tasks))
      (subst (λ os. CanBeKept s.opening s.executed (tasks_of b s.executed) os) (sym outs_are) (can_be_kept b s.executed apart sound))

  pub kept_is : kept_of s.opening s.executed sliced among ≡ rounds b s.executed
  kept_is =
      ap (λ ts. kept_of s.opening s.executed ts among) (same ∙ are_tasks)
      ∙ ap (kept_of s.opening s.executed (tasks_of b s.executed)) outs_are
      ∙ keeps_rounds b s.executed apart

  pub files : (taken places : List ℕ) (w : DependencyIndex) (t : Stored) → places ≡ taken → t ≡ with_executions s (kept_of s.opening s.executed sliced among) → AreParked s a (planned_of b s.executed) taken held w → IsFiled t a places held w
  files taken places w t opened written parked =
      subst (λ ps. IsFiled t a ps held w) (sym opened)
      (subst (λ (u : Stored). IsFiled u a taken held w) (sym (written ∙ ap (with_executions s) kept_is))
      (unparks s a held (planned_of b s.executed) (rounds b s.executed) taken w ran parked))
    where
      ran : (tx : Digest) → is_executed (rounds b s.executed) tx ≡ true → is_planned (planned_of b s.executed) tx ≡ true
      ran tx there = turn_planned b (planned_of b s.executed) s.executed tx (ap (λ xs. is_executed xs tx) (turns_are_rounds b s.executed apart) ∙ there)
