use Rattle.std.proofs.Common.{◌≡◌, [], length}
use Rattle.ptb_run.specs.Rows.{items_row_after}
use Rattle.ptb_run.proofs.calls.items_row.Given as goal

abbrev pub invariant-loop-rest : goal.invariant-loop-rest
invariant-loop-rest l = items_row_after l.row l.rest ≡ items_row_after [] l.items

abbrev pub decreases-loop-rest : goal.decreases-loop-rest
decreases-loop-rest l = length l.rest
