use Rattle.std.proofs.Common.{◌≡◌, drop}
use Rattle.ptb_run.specs.Slots.{is_row_left}
use Rattle.std.specs.List.{list_any}
use Rattle.ptb_run.proofs.slots.any_row_left.Given as goal

abbrev pub invariant-loop-row : goal.invariant-loop-row
invariant-loop-row l = list_any is_row_left (drop l.row-index l.rows) ≡ list_any is_row_left l.rows
