-- The values of a plan, over the plan itself.
use Rattle.std.specs.Prelude.{List, Option}
use Rattle.dag_core.specs.declared.job.Job.{Ghosts}
use Rattle.dag_core.specs.declared.plan.Plan.{Plan}
use Rattle.dag_core.specs.Values.{edge_values, outputs}

-- the value of each edge of the plan
abbrev pub plan_values : {J V O : Type 0} {g : Ghosts J V O} → Plan J V O g → List (Option V)
plan_values {g = g} plan = edge_values g.output g.values plan.edges plan.jobs

-- the output of each task of the plan, in task order
abbrev pub plan_outputs : {J V O : Type 0} {g : Ghosts J V O} → Plan J V O g → List O
plan_outputs {g = g} plan = outputs g.output g.values plan.edges plan.jobs
