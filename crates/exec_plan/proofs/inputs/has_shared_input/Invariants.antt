use Rattle.std.proofs.Common.{◌≡◌, drop}
use Rattle.std.specs.List.{list_any}
use Rattle.protocol_spec.specs.Chain.Keys.{is_shared_input}
use Rattle.exec_plan.proofs.inputs.has_shared_input.Given as goal

-- no input that was passed is shared
abbrev pub invariant-loop-input : goal.invariant-loop-input
invariant-loop-input l = list_any is_shared_input (drop l.input-index l.tx.inputs) ≡ list_any is_shared_input l.tx.inputs
