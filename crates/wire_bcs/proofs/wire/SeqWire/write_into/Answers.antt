use Rattle.std.proofs.Common.{◌≡◌, ◌<◌, true, List, ℕ, length, get_or, subst, arith}
use Rattle.std.proofs.lemmas.Result.{err_from_is_err_and}
use Rattle.wire_bcs.specs.Wrote.{is_part}
use Rattle.wire_bcs.proofs.Loops.{part_of}
use Rattle.wire_bcs.proofs.wire.SeqWire.write_into.Goals as goal

pub returns-in_err-write_into : goal.returns-in_err-write_into
returns-in_err-write_into g c =
    let p = err_from_is_err_and c.from_residual-in_err-write_into.result c.from_residual-in_err-write_into.ensures.1 in
    let part = subst (λ (old : List ℕ). is_part old c.write_into.new.writer (g.T.Wire.codec.spell c.item-item.result) ≡ true) c.loop-item.invariant c.in_err-write_into.ensures in
    let within : c.loop-item.item-index < length c.args.self.now = omega (arith, c.loop-item-test.true, c.as_slice-item-items.ensures.len) in
    let is = subst (λ (xs : List g.row.T.Denot). c.item-item.result ≡ get_or xs c.loop-item.item-index c.item-item.result) c.as_slice-item-items.ensures.value c.item-item.is in
    rw p.1 (part_of g.T.Wire.codec.spell c.args.self.now c.loop-item.item-index c.item-item.result c.args.writer.now c.write_into.new.writer within is part)
