use Rattle.std.proofs.Common.{◌≡◌, [], length}
use Rattle.ptb_run.specs.Opening.{cells_after}
use Rattle.ptb_run.proofs.opening.input_cells.Given as goal

-- what was filled, and then what is left, is the whole
abbrev pub invariant-loop-left : goal.invariant-loop-left
invariant-loop-left l = cells_after l.cells l.left l.rest ≡ cells_after [] l.inputs l.objects

abbrev pub decreases-loop-left : goal.decreases-loop-left
decreases-loop-left l = length l.left
