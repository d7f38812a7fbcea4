use Rattle.std.proofs.Common.{◌≡◌, ◌+◌, ◌∙◌, ap, arith, drop, length, subst, sym}
use Rattle.std.proofs.KnownBytes.{Consumes-trans}
use Rattle.std.proofs.lemmas.List.{length-append, take_at}
use Rattle.std.specs.Io.KnownBytes.{Consumes}
use Rattle.outside.proofs.streams.read_text.Goals as goal

pub loop-room-preserved : goal.loop-room-preserved
loop-room-preserved g c =
    let got = c.in_ok-count.ensures.piece in
    let long : length c.read_piece.new.text ≡ length c.loop-room.text + length got.0 = ap length got.1 ∙ length-append c.loop-room.text got.0 in
    let before = c.loop-room.invariant in
    let lent : length c.read_piece.new.buffer ≡ length c.as_mut_slice.result.now = c.read_piece.auto.buffer in
    let back = take_at c.read_piece.new.buffer (drop (length c.read_piece.new.buffer) c.loop-room.buffer.items) c.loop-room.buffer.len (lent ∙ c.as_mut_slice.ensures.len) in record {
      read = subst (Consumes (g.S.Source.left c.args.source.now) (g.S.Source.left c.read_piece.new.source)) (sym got.1) (Consumes-trans _ _ _ c.loop-room.text got.0 before.read got.3);
      size = omega (arith, long, got.2, c.in_ok-count.ensures.count, before.size);
      piece = ap length back ∙ lent ∙ ap length c.as_mut_slice.ensures.value ∙ before.piece;
      later = omega (arith, before.later, c.in_ok-count.ensures.later);
    }
