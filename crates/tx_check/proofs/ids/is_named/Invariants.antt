use Rattle.std.proofs.Common.{◌≡◌, drop}
use Rattle.std.specs.List.{list_any}
use Rattle.tx_check.specs.Parts.{names_id}
use Rattle.tx_check.proofs.ids.is_named.Given as goal

abbrev pub invariant-loop-input : goal.invariant-loop-input
invariant-loop-input l = list_any (names_id l.id) (drop l.input-index l.inputs) ≡ list_any (names_id l.id) l.inputs
