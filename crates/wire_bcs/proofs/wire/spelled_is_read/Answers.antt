use Rattle.wire_bcs.proofs.wire.spelled_is_read.Goals as goal

pub returns : goal.returns
returns g c = g.T.Wire.codec.again
