use Rattle.std.proofs.Common.{◌≡◌, take}
use Rattle.committee_core.specs.Report.{lines_text}
use Rattle.committee_core.proofs.event.print_lines.Given as goal

abbrev pub invariant-loop-line : goal.invariant-loop-line
invariant-loop-line l = l.text ≡ lines_text (take l.line-index l.lines)
