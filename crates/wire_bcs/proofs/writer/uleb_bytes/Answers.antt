use Rattle.std.proofs.Common.{◌≡◌, refl, arith}
use Rattle.wire_bcs.specs.Uleb.{uleb}
use Rattle.wire_bcs.proofs.Ulebs.{goes_on, at_end}
use Rattle.wire_bcs.proofs.writer.uleb_bytes.Goals as goal

pub loop-index-init : goal.loop-index-init
unfolding uleb
loop-index-init c = (refl, omega arith, refl)

pub loop-index-preserved : goal.loop-index-preserved
loop-index-preserved c = goes_on c.loop-index.index c.loop-index.bytes c.loop-index.rest (uleb c.args.number) c.loop-index-test.true c.if-rest-lt128.false c.loop-index.invariant

pub returns-clause-bytes : goal.returns-clause-bytes
returns-clause-bytes c = at_end c.loop-index.bytes c.loop-index.rest (uleb c.args.number) (let four : c.loop-index.index ≡ 4 = omega arith in rw four at c.loop-index.invariant)
