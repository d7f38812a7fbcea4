use Rattle.std.proofs.Common.{◌∙◌, ap, sym, subst}
use Rattle.std.specs.Prelude.{option_copied, slice_get}
use Rattle.world_lines.specs.Orders.{AreSpelled, entries_of}
use Rattle.world_lines.proofs.Ordering.{rows_past, spelled_get}
use Rattle.world_lines.proofs.order.ConsensusLog.rows.Goals as goal

pub returns-in-Some-clause-entries : goal.returns-in-Some-clause-entries
returns-in-Some-clause-entries c =
    ap entries_of c.as_slice-in-Some.ensures.value
    ∙ rows_past c.self.inside.past c.self.inside.«open» c.args.self.now c.args.epoch c.len.result _ c.self.view_is c.len.ensures c.if-epoch-len.false
    (sym (ap (λ x. option_copied x) c.in-Some.is) ∙ c.past_rows.ensures ∙ ap (λ x. slice_get x c.args.epoch) c.as_slice-2.ensures.value)

pub returns-in-Some-clause-spelled : goal.returns-in-Some-clause-spelled
returns-in-Some-clause-spelled c =
    subst AreSpelled (sym c.as_slice-in-Some.ensures.value)
    (spelled_get c.self.inside.past c.in-Some.rows.now c.args.epoch c.self.invariant.0
    (sym (ap (λ x. slice_get x c.args.epoch) c.as_slice-2.ensures.value) ∙ sym c.past_rows.ensures ∙ ap (λ x. option_copied x) c.in-Some.is))

pub returns-in-None-clause-entries : goal.returns-in-None-clause-entries
returns-in-None-clause-entries c =
    rows_past c.self.inside.past c.self.inside.«open» c.args.self.now c.args.epoch c.len.result _ c.self.view_is c.len.ensures c.if-epoch-len.false
    (sym (ap (λ x. option_copied x) c.in-None.is) ∙ c.past_rows.ensures ∙ ap (λ x. slice_get x c.args.epoch) c.as_slice-2.ensures.value)
