use Rattle.std.proofs.Common.{◌≤◌}
use Rattle.process_lines.specs.Lines.{IsAlong}
use Rattle.process_lines.proofs.line_reader.LineReader.next.Given as goal

abbrev pub invariant-loop : goal.invariant-loop
invariant-loop g l = record {
  along : IsAlong l.fn.self l.self (g.S.Source.left l.fn.source) (g.S.Source.left l.source) l.part;
  later : g.S.Source.faults l.fn.source ≤ g.S.Source.faults l.source;
}
