use Rattle.wire_bcs.specs.Whole.{one-spelling}
use Rattle.wire_bcs.proofs.wire.one_spelling.Goals as goal

pub returns : goal.returns
returns g c = one-spelling g.T.Wire.codec
