use Rattle.std.proofs.Common.{◌∙◌, List, ap, length, refl, subst, sym}
use Rattle.digest_core.specs.declared.Digest.{Digest}
use Rattle.exec_plan.specs.Drafts.{picked}
use Rattle.exec_plan.specs.Past.{as_if}
use Rattle.exec_plan.specs.Waits.{IsWaiting}
use Rattle.exec_plan.proofs.Looking.{goes_first, goes_last, goes_next, none_taken}
use Rattle.exec_plan.proofs.planner.plan_layers.Goals as goal

pub loop-left-init : goal.loop-left-init
loop-left-init c = record {
  goes = goes_first c.args.store.now c.args.admission.now.admission c.args.held.now (length c.args.held.now) c.new-ahead.result.planned.keys (picked c.args.held.now c.new-ahead.result.places) refl
      c.new-ahead.ensures.planned (ap (picked c.args.held.now) c.new-ahead.ensures.places);
  filed = subst (λ (txs : List Digest). IsWaiting (as_if txs c.args.store.now) c.args.admission.now.admission c.args.held.now c.args.waiting.now) (sym c.new-ahead.ensures.planned) c.requires.filed;
  taken = none_taken c.args.held.now c.new-ahead.result.planned.keys c.new-ahead.result.taken c.new-ahead.ensures.planned;
}

pub returns-then-last-clause-places : goal.returns-then-last-clause-places
returns-then-last-clause-places c =
    goes_last c.args.store.now c.args.admission.now.admission c.args.held.now c.loop-left.left c.loop-left.ahead.planned.keys (picked c.args.held.now c.loop-left.ahead.places)
    (picked c.args.held.now c.plan_layer.new.ahead.places) c.loop-left.invariant.goes c.in_ok-last.ensures.places (sym c.in_ok-last.ensures.last ∙ c.if-last.true)

pub returns-then-last-clause-agrees : goal.returns-then-last-clause-agrees
returns-then-last-clause-agrees c =
    (goes_next c.args.store.now c.args.admission.now.admission c.args.held.now c.loop-left.left c.loop-left.ahead.planned.keys c.plan_layer.new.ahead.planned.keys
    (picked c.args.held.now c.loop-left.ahead.places) (picked c.args.held.now c.plan_layer.new.ahead.places) c.loop-left.invariant.goes c.loop-left-test.true c.in_ok-last.ensures.places
    c.in_ok-last.ensures.planned).agrees

pub loop-left-preserved : goal.loop-left-preserved
loop-left-preserved c = record {
  goes = goes_next c.args.store.now c.args.admission.now.admission c.args.held.now c.loop-left.left c.loop-left.ahead.planned.keys c.plan_layer.new.ahead.planned.keys
      (picked c.args.held.now c.loop-left.ahead.places) (picked c.args.held.now c.plan_layer.new.ahead.places) c.loop-left.invariant.goes c.loop-left-test.true c.in_ok-last.ensures.places
      c.in_ok-last.ensures.planned;
  filed = c.in_ok-last.ensures.filed;
  taken = c.in_ok-last.ensures.taken;
}
