use Rattle.std.proofs.Common.{◌≡◌, ◌<◌, ◌≤◌, sym, ap, subst, ◌∙◌, length, arith}
use Rattle.dag_core.specs.Places.{times}
use Rattle.dag_core.proofs.Fixed.{to_target, to_once, from_source, inputs_fit}
use Rattle.dag_core.proofs.Plain.{taken_inputs, waits_next, output_taken}
use Rattle.dag_core.proofs.PlanFacts.{is_plan}
use Rattle.dag_core.proofs.evaluate.evaluate_task.Goals as goal

pub take_inputs-requires-clause-inside : goal.take_inputs-requires-clause-inside
take_inputs-requires-clause-inside g c =
    let counted = c.requires.waits.counted in
    λ place h. let r = (to_target c.args.plan.now.edges c.args.task place (subst (λ l. 0 < times place l) c.edges_into.ensures h)).0 in omega (arith, r, counted)

pub take_inputs-requires-clause-once : goal.take_inputs-requires-clause-once
take_inputs-requires-clause-once g c = λ place. subst (λ l. times place l ≤ 1) (sym c.edges_into.ensures) (to_once c.args.plan.now.edges c.args.task place)

pub run-requires : goal.run-requires
run-requires g c =
    let plan = c.args.plan.now in
    ap length (taken_inputs g.J.Job.output g.J.Job.values g.J.Job.takes g.J.Job.gives plan.edges plan.jobs (is_plan plan g.met.J.Job.sized) c.args.slots.now c.args.task c.edges_into.result.now c.in_ok-inputs.inputs c.requires.waits
    c.edges_into.ensures c.in_ok-inputs.ensures.inputs)
    ∙ inputs_fit g.J.Job.output g.J.Job.values g.J.Job.takes g.J.Job.gives plan.edges plan.jobs (is_plan plan g.met.J.Job.sized) c.args.task c.job.result.now c.job.ensures

pub put_values-requires : goal.put_values-requires
put_values-requires g c =
    let counted = c.requires.waits.counted in
    let len : length c.take_inputs.new.slots ≡ length c.args.slots.now = c.take_inputs.auto.slots in
    λ place h. let r = (from_source c.args.plan.now.edges c.args.task place (subst (λ l. 0 < times place l) c.edges_from.ensures h)).0 in omega (arith, r, counted, len)

pub returns-clause-waits : goal.returns-clause-waits
returns-clause-waits g c =
    let plan = c.args.plan.now in
    waits_next g.J.Job.output g.J.Job.values g.J.Job.takes g.J.Job.gives plan.edges plan.jobs (is_plan plan g.met.J.Job.sized) c.args.slots.now c.take_inputs.new.slots c.put_values.new.slots c.args.task c.job.result.now
    c.edges_into.result.now c.edges_from.result.now c.in_ok-inputs.inputs c.in_ok-output.values c.job.ensures c.requires.waits c.edges_into.ensures c.edges_from.ensures c.in_ok-inputs.ensures.inputs c.in_ok-output.ensures.values
    c.take_inputs.auto.slots c.in_ok-inputs.ensures.others c.put_values.ensures

pub returns-clause-output : goal.returns-clause-output
returns-clause-output g c =
    let plan = c.args.plan.now in
    output_taken g.J.Job.output g.J.Job.values g.J.Job.takes g.J.Job.gives plan.edges plan.jobs (is_plan plan g.met.J.Job.sized) c.args.task c.job.result.now c.in_ok-inputs.inputs c.in_ok-output.output c.job.ensures
    (taken_inputs g.J.Job.output g.J.Job.values g.J.Job.takes g.J.Job.gives plan.edges plan.jobs (is_plan plan g.met.J.Job.sized) c.args.slots.now c.args.task c.edges_into.result.now c.in_ok-inputs.inputs c.requires.waits
    c.edges_into.ensures c.in_ok-inputs.ensures.inputs)
    c.in_ok-output.ensures.output
