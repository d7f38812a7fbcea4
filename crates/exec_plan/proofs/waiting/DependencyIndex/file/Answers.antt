use Rattle.std.proofs.Common.{◌∙◌, sym, subst}
use Rattle.std.proofs.lemmas.Result.{on_ok_weaker}
use Rattle.protocol_spec.specs.Chain.Words.{Has}
use Rattle.exec_plan.specs.Waits.{is_behind, comes_next}
use Rattle.exec_plan.proofs.Filing.{placed_has, placed_keeps}
use Rattle.exec_plan.proofs.Making.{waits_for, waits_for_none}
use Rattle.exec_plan.proofs.waiting.DependencyIndex.file.Goals as goal

pub returns-in-Some-clause-filed : goal.returns-in-Some-clause-filed
returns-in-Some-clause-filed c =
    let waits = waits_for c.args.past.now.executed c.args.admission.now.admission c.args.held.now c.in-Some.tx (sym c.awaited.ensures ∙ c.in-Some.is) in
    on_ok_weaker c.add_behind-in-Some.result (λ has. is_behind (sym c.is_let.ensures ∙ c.if-not-is_let.false) (record { maker = c.in-Some.tx; listed = has; makes = waits.0; first = waits.1 }))
    c.add_behind-in-Some.ensures.added

pub returns-in_ok-insert-in-None-clause-kept : goal.returns-in_ok-insert-in-None-clause-kept
returns-in_ok-insert-in-None-clause-kept c = record {
  next = λ p has. subst (λ ks. Has ks p) (sym c.in_ok-insert-in-None.ensures.keys) (placed_keeps c.args.self.now.next.keys c.args.place p has);
  unadmitted = λ tx p has. has;
  listed = λ tx p has. has;
}

pub returns-in_ok-insert-in-None-clause-filed : goal.returns-in_ok-insert-in-None-clause-filed
returns-in_ok-insert-in-None-clause-filed c =
    comes_next (sym c.is_let.ensures ∙ c.if-not-is_let.false)
    (subst (λ ks. Has ks c.args.place) (sym c.in_ok-insert-in-None.ensures.keys) (placed_has c.args.self.now.next.keys c.args.place))
    (waits_for_none c.args.past.now.executed c.args.admission.now.admission c.args.held.now (sym c.awaited.ensures ∙ c.in-None.is))
