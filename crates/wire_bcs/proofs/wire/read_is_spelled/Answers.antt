use Rattle.wire_bcs.proofs.wire.read_is_spelled.Goals as goal

pub returns : goal.returns
returns g c = g.T.Wire.codec.takes
