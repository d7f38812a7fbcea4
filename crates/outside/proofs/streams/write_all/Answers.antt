use Rattle.std.proofs.Common.{List, ℕ, subst, sym, arith}
use Rattle.outside.specs.Streams.{Owes}
use Rattle.outside.proofs.Ends.{owes_after}
use Rattle.outside.proofs.streams.write_all.Goals as goal

pub loop-rest-preserved : goal.loop-rest-preserved
loop-rest-preserved g c = record {
  owes = subst (λ (t : List ℕ). Owes (g.K.Sink.held c.args.sink.now) (g.K.Sink.held c.write_piece.new.sink) t c.args.bytes.now) (sym c.split_at.ensures.back)
      (owes_after _ _ _ _ c.loop-rest.rest.now c.args.bytes.now c.loop-rest.invariant.owes c.in_ok-count.ensures.taken);
  later = grind arith;
}
