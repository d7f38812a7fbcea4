use Rattle.std.proofs.Common.{eqb, sym, ◌∙◌}
use Rattle.dag_core.specs.declared.plan.Edge.{Edge}
use Rattle.dag_pool.proofs.Counts.{count_places}
use Rattle.rules_tests.proofs.jobs.count_to.Goals as goal

pub returns : goal.returns
returns c = c.passing_to.ensures ∙ sym (count_places (λ (edge : Edge). eqb edge.to c.args.task) c.args.edges.now)
