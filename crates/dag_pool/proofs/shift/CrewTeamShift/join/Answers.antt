use Rattle.std.proofs.Common.{◌+◌, ◌++◌, sym, subst, length}
use Rattle.dag_core.specs.Plans.{plan_outputs}
use Rattle.steal_board.specs.Boards.{view}
use Rattle.dag_pool.specs.Work.{IsLeft}
use Rattle.dag_pool.specs.Crews.{plan_of}
use Rattle.dag_pool.proofs.Joins.{left_both}
use Rattle.dag_pool.proofs.shift.CrewTeamShift.join.Goals as goal

pub returns-clause-worked : goal.returns-clause-worked
returns-clause-worked g c =
    let plan = plan_of c.args.self.now in
    let post = c.join_posts-post.result.0 in
    record {
      of = c.join_posts-post.ensures.of;
      left = λ found.
          let none = c.any_of.ensures found in
          let both = left_both plan.edges (length plan.jobs) c.args.self.now.workers (plan_outputs plan) 0 c.args._number (c.args._number + 1) _ _ _ _ c.args.others.post.starved c.args.one.post.starved post.starved c.join_posts-post.ensures.starved (c.requires.others.left none.0) (c.requires.one.left none.1) in
          subst (λ l. IsLeft plan.edges (length plan.jobs) c.args.self.now.workers 0 (c.args._number + 1) (plan_outputs plan) (view post.seat) l post.starved) (sym (c.join_posts-post.ensures.outputs none.2))
          (subst (λ v. IsLeft plan.edges (length plan.jobs) c.args.self.now.workers 0 (c.args._number + 1) (plan_outputs plan) v (c.args.others.post.outputs.items ++ c.args.one.post.outputs.items) post.starved) (sym c.join_posts-post.ensures.view) both);
    }
