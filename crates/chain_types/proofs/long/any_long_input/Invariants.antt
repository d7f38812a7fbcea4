use Rattle.std.proofs.Common.{◌≡◌, drop}
use Rattle.std.specs.List.{list_any}
use Rattle.chain_types.specs.Long.{is_long_input}
use Rattle.chain_types.proofs.long.any_long_input.Given as goal

abbrev pub invariant-loop-input : goal.invariant-loop-input
invariant-loop-input l = list_any (is_long_input l.most) (drop l.input-index l.inputs) ≡ list_any (is_long_input l.most) l.inputs
