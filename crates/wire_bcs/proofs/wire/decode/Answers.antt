use Rattle.std.proofs.Common.{arith}
use Rattle.wire_bcs.proofs.Decoding.{is_found, is_short, is_only}
use Rattle.wire_bcs.proofs.wire.decode.Goals as goal

pub returns-clause-found : goal.returns-clause-found
returns-clause-found g c = is_found g.T.Wire.codec c.args.bytes.now c.all_of.result (λ i. omega (arith, c.type_inv.bytes i)) c.all_of.ensures.exact

pub returns-clause-short : goal.returns-clause-short
returns-clause-short g c = is_short g.T.Wire.codec c.args.bytes.now c.all_of.result (λ i. omega (arith, c.type_inv.bytes i)) c.all_of.ensures.exact

pub returns-clause-only : goal.returns-clause-only
returns-clause-only g c = λ x fits e. is_only g.T.Wire.codec c.args.bytes.now x c.all_of.result fits e c.all_of.ensures.exact
