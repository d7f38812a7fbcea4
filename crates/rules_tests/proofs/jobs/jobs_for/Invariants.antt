use Rattle.std.proofs.Common.{◌≡◌, ℕ, Some, length}
use Rattle.std.specs.Prelude.{slice_get}
use Rattle.dag_core.specs.Values.{count_in, count_out}
use Rattle.rules_tests.proofs.jobs.jobs_for.Given as goal

abbrev pub invariant-loop-task : goal.invariant-loop-task
invariant-loop-task l = record {
  count : length l.jobs ≡ l.task;
  fits : (task : ℕ) (job : _) → slice_get l.jobs task ≡ Some job → (job.takes ≡ count_in l.edges task) × (job.gives ≡ count_out l.edges task);
}
