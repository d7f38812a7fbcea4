use Rattle.std.proofs.Common.{arith, ◌∙◌}
use Rattle.wire_bcs.specs.Shapes.{seq_read}
use Rattle.wire_bcs.proofs.Loops.{goes_on}
use Rattle.wire_bcs.proofs.wire.SeqWire.read_from.Goals as goal

pub loop-preserved : goal.loop-preserved
loop-preserved g c =
    let step = goes_on g.T.Wire.codec.read c.loop.items c.in_ok-count.count c.loop.counter c.loop.reader c.in_ok-read_from.field-0 c.read_from.new.reader (seq_read g.T.Wire.codec.read c.args.reader.now)
    c.loop-test.true c.in_ok-read_from.ensures.exact c.loop.invariant.0 in (
      rw c.in_ok-push.ensures.ok step,
      record {
        input = c.in_ok-read_from.ensures.ahead.input ∙ c.loop.invariant.1.input;
        at = omega (arith, c.in_ok-read_from.ensures.ahead.at, c.loop.invariant.1.at);
        end = c.in_ok-read_from.ensures.ahead.end;
      },
    )
