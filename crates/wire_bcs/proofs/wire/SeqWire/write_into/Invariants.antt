use Rattle.std.proofs.Common.{◌≡◌, ◌++◌, length, take}
use Rattle.std.specs.Prelude.{flat_map}
use Rattle.wire_bcs.specs.Uleb.{uleb}
use Rattle.wire_bcs.proofs.wire.SeqWire.write_into.Given as goal

abbrev pub invariant-loop-item : goal.invariant-loop-item
invariant-loop-item g l = l.writer ≡ l.fn.writer ++ (uleb (length l.self) ++ flat_map g.T.Wire.codec.spell (take l.item-index l.self))
