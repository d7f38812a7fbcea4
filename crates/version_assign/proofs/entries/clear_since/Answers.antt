use Rattle.std.proofs.Common.{◌≡◌, ◌<◌, arith, length, drop, slice_get}
use Rattle.version_assign.specs.Steps.{clear_each}
use Rattle.version_assign.proofs.Clearing.{cleared_next, found_keeps}
use Rattle.version_assign.proofs.Taking.{lets_more}
use Rattle.version_assign.proofs.entries.clear_since.Goals as goal

pub clear_at-requires : goal.clear_at-requires
clear_at-requires c = lets_more c.args.lines.now.entries c.loop-place.lines.entries c.loop-place.invariant.kept c.args.admitted.now.entries c.requires

pub loop-place-preserved : goal.loop-place-preserved
loop-place-preserved c =
    let n : c.len-place-end.result ≡ length c.args.admitted.now.entries = c.len-place-end.ensures.len in
    let t : c.loop-place.place < c.len-place-end.result = c.loop-place-test.true in
    record {
      same =
          cleared_next c.args.admitted.now.entries c.loop-place.place c.loop-place.lines.entries c.clear_at.new.lines.entries (clear_each c.args.lines.now.entries (drop c.args.from c.args.admitted.now.entries))
          (omega arith) c.clear_at.ensures c.loop-place.invariant.same;
      kept = found_keeps c.args.lines.now.entries c.loop-place.lines.entries c.clear_at.new.lines.entries (slice_get c.args.admitted.now.entries c.loop-place.place) c.loop-place.invariant.kept c.clear_at.ensures;
    }
