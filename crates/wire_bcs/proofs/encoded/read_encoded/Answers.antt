use Rattle.std.proofs.Common.{◌≡◌, Ok, subst, sym}
use Rattle.wire_bcs.specs.Place.{Place}
use Rattle.wire_bcs.proofs.Between.{encoded}
use Rattle.wire_bcs.proofs.encoded.read_encoded.Goals as goal

pub returns-clause-bytes : goal.returns-clause-bytes
returns-clause-bytes g c =
    let from_mark = subst (λ (p : Place). g.T.Wire.codec.read p ≡ Ok (c.in_ok-value.value, c.read_from.new.reader)) (sym c.mark-front.ensures) c.in_ok-value.ensures.exact in
    encoded g.T.Wire.codec c.mark-front.result c.in_ok-value.value c.read_from.new.reader c.since-bytes.result.now c.since-bytes.ensures.input from_mark c.since-bytes.ensures.text
