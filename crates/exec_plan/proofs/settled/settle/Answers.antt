use Rattle.std.proofs.Common.{◌++◌, ◌∙◌, List, ap, map, refl}
use Rattle.effects_core.specs.declared.effects.Effects.{Effects}
use Rattle.exec_plan.specs.Tasks.{kept_of}
use Rattle.exec_plan.specs.Books.{effects_of}
use Rattle.exec_plan.specs.Runs.{with_executions}
use Rattle.exec_plan.proofs.Kept.{can_keep, files, kept_is}
use Rattle.exec_plan.proofs.settled.settle.Goals as goal

pub keep_all-requires : goal.keep_all-requires
keep_all-requires c =
    can_keep c.args.store.now c.args.admission.now.admission c.args.held.now c.args.ready.now.plan.jobs c.as_slice.result.now c.args.ready.now.plan.edges c.args.outputs c.args.outputs c.requires.apart
    c.requires.tasks c.requires.edges c.requires.outputs c.as_slice.ensures.value refl c.requires.sound

pub file_now-requires : goal.file_now-requires
file_now-requires c =
    files c.args.store.now c.args.admission.now.admission c.args.held.now c.args.ready.now.plan.jobs c.as_slice.result.now c.args.ready.now.plan.edges c.args.outputs c.args.outputs c.requires.apart
    c.requires.tasks c.requires.edges c.requires.outputs c.as_slice.ensures.value refl
    c.args.ready.now.taken c.as_slice-2.result.now c.args.waiting.now c.keep_all.new.store c.as_slice-2.ensures.value c.in_ok-keep_all.ensures.written c.requires.parked

pub returns-clause-written : goal.returns-clause-written
returns-clause-written c =
    c.in_ok-keep_all.ensures.written
    ∙ ap (with_executions c.args.store.now)
    (kept_is c.args.store.now c.args.admission.now.admission c.args.held.now c.args.ready.now.plan.jobs c.as_slice.result.now c.args.ready.now.plan.edges c.args.outputs c.args.outputs c.requires.apart
    c.requires.tasks c.requires.edges c.requires.outputs c.as_slice.ensures.value refl)

pub returns-clause-effects : goal.returns-clause-effects
returns-clause-effects c =
    c.in_ok-keep_all.ensures.copied
    ∙ ap (λ (es : List Effects). es ++ map effects_of (kept_of c.args.store.now.opening c.args.store.now.executed c.as_slice.result.now c.args.outputs)) c.in_ok-effects.ensures
    ∙ ap (map effects_of)
    (kept_is c.args.store.now c.args.admission.now.admission c.args.held.now c.args.ready.now.plan.jobs c.as_slice.result.now c.args.ready.now.plan.edges c.args.outputs c.args.outputs c.requires.apart
    c.requires.tasks c.requires.edges c.requires.outputs c.as_slice.ensures.value refl)
