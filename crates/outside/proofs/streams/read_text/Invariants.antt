use Rattle.std.proofs.Common.{◌≡◌, ◌≤◌, ◌+◌, length}
use Rattle.std.specs.Io.KnownBytes.{Consumes}
use Rattle.outside.proofs.streams.read_text.Given as goal

abbrev pub invariant-loop-room : goal.invariant-loop-room
invariant-loop-room g l = record {
  read : Consumes (g.S.Source.left l.fn.source) (g.S.Source.left l.source) l.text;
  size : l.room + length l.text ≡ l.fn.limit + 1;
  piece : length l.buffer.items ≡ 65536;
  later : g.S.Source.faults l.fn.source ≤ g.S.Source.faults l.source;
}

abbrev pub decreases-loop-room : goal.decreases-loop-room
decreases-loop-room g l = l.room
