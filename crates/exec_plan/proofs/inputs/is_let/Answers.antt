use Rattle.std.proofs.Common.{◌∙◌, ap, sym, is_some}
use Rattle.chain_messages.specs.declared.messages.Certificate.{Certificate}
use Rattle.exec_plan.proofs.Growing.{let_is}
use Rattle.exec_plan.proofs.inputs.is_let.Goals as goal
use Rattle.protocol_spec.proofs.Truth.{some_mapped}
use Rattle.protocol_spec.specs.Chain.Keys.{has_shared_input}

pub returns-else-not-has_shared_input : goal.returns-else-not-has_shared_input
returns-else-not-has_shared_input c =
    let_is c.args.admission.now.admission c.args.held.now (sym (c.has_shared_input.ensures ∙ ap (λ (q : Certificate). has_shared_input q.tx) c.get.ensures) ∙ c.if-not-has_shared_input.false)
    (c.is_some.ensures ∙ sym (some_mapped _ c.assigned.result) ∙ ap is_some c.assigned.ensures)
