use Rattle.std.proofs.Common.{◌≡◌, ◌<◌, ap, sym, subst, ◌∙◌, arith, length, Some, ◌++◌, ◌∷◌, []}
use Rattle.std.specs.Prelude.{slice_get}
use Rattle.std.proofs.lemmas.Option.{slice_get_within}
use Rattle.dag_core.specs.Places.{times}
use Rattle.dag_core.specs.Plans.{plan_outputs}
use Rattle.dag_core.proofs.Fixed.{inputs_fit, values_fit, task_value, task_output}
use Rattle.dag_core.proofs.PlanFacts.{is_plan}
use Rattle.steal_board.specs.Boards.{view}
use Rattle.dag_pool.specs.Work.{IsSound}
use Rattle.dag_pool.specs.Crews.{plan_of}
use Rattle.dag_pool.proofs.Tasks.{begun_mine, begun_untaken, begun_unpaid, sound_next}
use Rattle.dag_pool.proofs.Owing.{owed_took}
use Rattle.dag_pool.proofs.task.execute.Goals as goal

pub take_inputs-requires-clause-claimed : goal.take_inputs-requires-clause-claimed
take_inputs-requires-clause-claimed g c = begun_mine _ _ _ _ _ _ c.requires.begun

pub take_inputs-requires-clause-untaken : goal.take_inputs-requires-clause-untaken
take_inputs-requires-clause-untaken g c = begun_untaken _ _ _ _ _ _ c.requires.begun

pub run-ran-requires : goal.run-ran-requires
run-ran-requires g c =
    let plan = plan_of c.args.crew.now in
    ap length c.in_ok-inputs.ensures.inputs ∙ inputs_fit g.J.Job.output g.J.Job.values g.J.Job.takes g.J.Job.gives plan.edges plan.jobs (is_plan plan g.met.J.Job.sized) c.args.task c.job.result.now c.job.ensures

pub pay_outputs-requires-clause-claimed : goal.pay_outputs-requires-clause-claimed
pay_outputs-requires-clause-claimed g c = subst (λ v. 0 < times c.args.task v.mine) (sym c.in_ok-inputs.ensures.took.same) (begun_mine _ _ _ _ _ _ c.requires.begun)

pub pay_outputs-requires-clause-unpaid : goal.pay_outputs-requires-clause-unpaid
pay_outputs-requires-clause-unpaid g c = λ e lt is. ap (λ v. times e v.paid) c.in_ok-inputs.ensures.took.same ∙ begun_unpaid _ _ _ _ _ _ c.requires.begun e lt is

pub pay_outputs-requires-clause-count : goal.pay_outputs-requires-clause-count
pay_outputs-requires-clause-count g c =
    let plan = plan_of c.args.crew.now in
    ap length (c.in_ok-output.ensures.values ∙ ap (g.J.Job.values c.job.result.now) c.in_ok-inputs.ensures.inputs) ∙ values_fit g.J.Job.output g.J.Job.values g.J.Job.takes g.J.Job.gives plan.edges plan.jobs (is_plan plan g.met.J.Job.sized) c.args.task c.job.result.now c.job.ensures

pub pay_outputs-requires-clause-values : goal.pay_outputs-requires-clause-values
pay_outputs-requires-clause-values g c =
    let plan = plan_of c.args.crew.now in
    let given = c.in_ok-output.ensures.values ∙ ap (g.J.Job.values c.job.result.now) c.in_ok-inputs.ensures.inputs in
    let many = ap length given ∙ values_fit g.J.Job.output g.J.Job.values g.J.Job.takes g.J.Job.gives plan.edges plan.jobs (is_plan plan g.met.J.Job.sized) c.args.task c.job.result.now c.job.ensures in
    λ m value at. task_value g.J.Job.output g.J.Job.values g.J.Job.takes g.J.Job.gives plan.edges plan.jobs (is_plan plan g.met.J.Job.sized) c.args.task c.job.result.now c.job.ensures m value
    (let inside = slice_get_within c.in_ok-output.values m value at in omega (arith, many, inside))
    (subst (λ l. slice_get l m ≡ Some value) given at)

pub returns-clause-good : goal.returns-clause-good
returns-clause-good g c =
    let plan = plan_of c.args.crew.now in
    let output = ap (λ o. Some o) (c.in_ok-output.ensures.output ∙ ap (g.J.Job.output c.job.result.now) c.in_ok-inputs.ensures.inputs) in
    let right = task_output g.J.Job.output g.J.Job.values g.J.Job.takes g.J.Job.gives plan.edges plan.jobs (is_plan plan g.met.J.Job.sized) c.args.task c.job.result.now c.job.ensures ∙ sym output in
    let sound = sound_next plan.edges (length plan.jobs) (plan_outputs plan) c.args.task _ _ _ c.args.post.now.outputs.items c.in_ok-output.output c.requires.inside c.requires.begun c.in_ok-inputs.ensures.took c.pay_outputs.ensures.paid right in
    let items = c.in_ok-push.ensures.items ∙ ap (λ o. o.items ++ (c.args.task, c.in_ok-output.output) ∷ []) c.pay_outputs.ensures.outputs in
    record { of = c.pay_outputs.ensures.of; sound = subst (IsSound plan.edges (length plan.jobs) (plan_outputs plan) (view c.pay_outputs.new.post.seat)) (sym items) sound }

pub returns-clause-owed : goal.returns-clause-owed
returns-clause-owed g c = λ number o. c.pay_outputs.ensures.owed number (owed_took (plan_of c.args.crew.now).edges (length (plan_of c.args.crew.now).jobs) c.args.crew.now.workers number _ _ _ _ _ c.in_ok-inputs.ensures.took o)
