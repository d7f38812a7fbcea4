use Rattle.std.proofs.Common.{◌≡◌, ◌++◌, map}
use Rattle.protocol_spec.specs.Chain.Words.{numbers_below}
use Rattle.world_lines.specs.Drawn.{row_as}
use Rattle.world_lines.proofs.drawn.add_numbers.Given as goal

abbrev pub invariant-loop-number : goal.invariant-loop-number
invariant-loop-number l = l.rows.items ≡ l.fn.rows.items ++ map (row_as l.tx) (numbers_below l.number)
