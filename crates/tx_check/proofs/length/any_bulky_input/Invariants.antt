use Rattle.std.proofs.Common.{◌≡◌, drop}
use Rattle.std.specs.List.{list_any}
use Rattle.tx_check.specs.Bulk.{is_bulky_input}
use Rattle.tx_check.proofs.length.any_bulky_input.Given as goal

abbrev pub invariant-loop-input : goal.invariant-loop-input
invariant-loop-input l = list_any is_bulky_input (drop l.input-index l.inputs) ≡ list_any is_bulky_input l.inputs
