use Rattle.std.proofs.Common.{true≢false, sym, ◌∙◌, length}
use Rattle.dag_core.specs.Plans.{plan_outputs}
use Rattle.dag_pool.specs.Crews.{plan_of}
use Rattle.dag_pool.proofs.Joins.{left_one}
use Rattle.dag_pool.proofs.shift.CrewTeamShift.work.Goals as goal
use Rattle.dag_pool.proofs.shift.CrewTeamShift.work.Goals.{in-Ok, in-Err}

pub returns-clause-worked : goal.returns-clause-worked
returns-clause-worked g c =
    let plan = plan_of c.args.self.now in
    record {
      of = c.run_turns.ensures.kept.of;
      left = λ found. elim c.match-run_turns.branch [
        | in-Ok w ↦ left_one plan.edges (length plan.jobs) c.args.self.now.workers (plan_outputs plan) c.args.number _ _ _ w.in-Ok.ensures.good.sound w.in-Ok.ensures.owed
        | in-Err w ↦ absurd (true≢false (sym w.lost-is ∙ found))
      ];
    }
