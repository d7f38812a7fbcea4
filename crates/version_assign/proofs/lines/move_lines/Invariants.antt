use Rattle.std.proofs.Common.{◌≡◌, true, length}
use Rattle.version_assign.specs.Lines.{are_lined, move_all}
use Rattle.version_assign.proofs.lines.move_lines.Given as goal

-- the rest gives what all give, and has its places
abbrev pub invariant-loop-rest : goal.invariant-loop-rest
invariant-loop-rest l = record {
  same : move_all l.version l.tx l.lines.entries l.rest ≡ move_all l.version l.tx l.fn.lines.entries l.assigned;
  lined : are_lined l.lines.entries l.rest ≡ true;
}

abbrev pub decreases-loop-rest : goal.decreases-loop-rest
decreases-loop-rest l = length l.rest
