use Rattle.std.proofs.Common.{◌≡◌, ◌-◌}
use Rattle.wire_bcs.specs.Shapes.{items_read, seq_read}
use Rattle.wire_bcs.specs.Gives.{Ahead}
use Rattle.wire_bcs.proofs.Loops.{with_front}
use Rattle.wire_bcs.proofs.wire.SeqWire.read_from.Given as goal

abbrev pub invariant-loop : goal.invariant-loop
invariant-loop g l = (with_front l.items (items_read g.T.Wire.codec.read (l.count - l.counter) l.reader) ≡ seq_read g.T.Wire.codec.read l.fn.reader) × Ahead l.fn.reader l.reader
