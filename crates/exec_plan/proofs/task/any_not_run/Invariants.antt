use Rattle.std.proofs.Common.{◌≡◌}
use Rattle.std.specs.Prelude.{drop}
use Rattle.std.specs.List.{list_any}
use Rattle.exec_plan.specs.Tasks.{is_not_run}
use Rattle.exec_plan.proofs.task.any_not_run.Given as goal

-- all that were passed were executed
abbrev pub invariant-loop-input : goal.invariant-loop-input
invariant-loop-input l = list_any is_not_run (drop l.input-index l.inputs) ≡ list_any is_not_run l.inputs
