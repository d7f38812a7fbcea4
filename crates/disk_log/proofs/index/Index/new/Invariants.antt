use Rattle.std.proofs.Common.{◌≡◌, replicate, []}
use Rattle.disk_log.proofs.index.Index.new.Given as goal

abbrev pub invariant-loop-made : goal.invariant-loop-made
invariant-loop-made l = l.rows.items ≡ replicate l._made []
