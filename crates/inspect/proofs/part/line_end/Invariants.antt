use Rattle.std.proofs.Common.{◌≡◌, ◌+◌, length}
use Rattle.inspect.specs.Part.{line_end}
use Rattle.inspect.proofs.part.line_end.Given as goal

abbrev pub invariant-loop-rest : goal.invariant-loop-rest
invariant-loop-rest l = record {
  same : line_end l.place l.more l.rest ≡ line_end 0 l.fn.more l.text;
  size : l.place + length l.rest ≡ length l.text;
}

abbrev pub decreases-loop-rest : goal.decreases-loop-rest
decreases-loop-rest l = length l.rest
