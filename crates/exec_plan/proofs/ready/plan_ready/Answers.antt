use Rattle.std.proofs.Common.{◌∙◌, ap}
use Rattle.version_store.specs.Stores.{held_in}
use Rattle.exec_plan.specs.Drafts.{drafted_after, nothing_drafted, picked}
use Rattle.exec_plan.proofs.LaidOut.{draft_edges, draft_tasks, is_draft}
use Rattle.exec_plan.proofs.ready.plan_ready.Goals as goal

pub into_plan-requires : goal.into_plan-requires
into_plan-requires c =
    is_draft c.args.store.now c.args.admission.now.admission c.args.held.now c.in_ok-draft.draft c.in_ok-ahead.ahead.places c.requires.apart
    (c.in_ok-draft.ensures ∙ ap (λ ps. drafted_after (held_in c.args.store.now) c.args.admission.now.admission nothing_drafted (picked c.args.held.now ps)) c.as_slice.ensures.value) c.in_ok-ahead.ensures.places

pub returns-clause-tasks : goal.returns-clause-tasks
returns-clause-tasks c =
    c.in_ok-plan.ensures.jobs
    ∙ draft_tasks c.args.store.now c.args.admission.now.admission c.args.held.now c.in_ok-draft.draft c.in_ok-ahead.ahead.places c.requires.apart
    (c.in_ok-draft.ensures ∙ ap (λ ps. drafted_after (held_in c.args.store.now) c.args.admission.now.admission nothing_drafted (picked c.args.held.now ps)) c.as_slice.ensures.value) c.in_ok-ahead.ensures.places

pub returns-clause-edges : goal.returns-clause-edges
returns-clause-edges c =
    c.in_ok-plan.ensures.edges
    ∙ draft_edges c.args.store.now c.args.admission.now.admission c.args.held.now c.in_ok-draft.draft c.in_ok-ahead.ahead.places c.requires.apart
    (c.in_ok-draft.ensures ∙ ap (λ ps. drafted_after (held_in c.args.store.now) c.args.admission.now.admission nothing_drafted (picked c.args.held.now ps)) c.as_slice.ensures.value) c.in_ok-ahead.ensures.places
