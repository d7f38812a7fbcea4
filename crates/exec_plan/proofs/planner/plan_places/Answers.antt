use Rattle.std.proofs.Common.{◌∙◌, ◌++◌, List, ap, subst}
use Rattle.protocol_spec.specs.declared.answers.Held.{Held}
use Rattle.exec_plan.specs.Ahead.{Agrees}
use Rattle.exec_plan.specs.Books.{books_of}
use Rattle.exec_plan.specs.Layers.{planned_of}
use Rattle.exec_plan.proofs.Looking.{parks}
use Rattle.exec_plan.proofs.planner.plan_places.Goals as goal

pub returns-clause-parked : goal.returns-clause-parked
returns-clause-parked c =
    parks c.args.store.now c.args.admission.now.admission c.args.held.now c.in_ok-ahead.ahead.planned.keys
    (planned_of (books_of c.args.store.now c.args.admission.now.admission c.args.held.now) c.args.store.now.executed) c.plan_layers.new.waiting c.take_open.new.self c.in_ok-ahead.ahead.taken c.in_ok-looked.looked.items
    c.extend.new.self (subst (λ (hs : List Held). Agrees c.in_ok-ahead.ahead.planned.keys hs) c.in_ok-ahead.ensures.places c.in_ok-ahead.ensures.agrees) c.in_ok-ahead.ensures.filed c.in_ok-ahead.ensures.taken
    c.in_ok-looked.ensures.places c.in_ok-looked.ensures.unadmitted c.in_ok-looked.ensures.behind
    (c.in_ok-extend.ensures.ok ∙ ap (λ ps. c.in_ok-ahead.ahead.taken ++ ps) c.as_slice.ensures.value)
