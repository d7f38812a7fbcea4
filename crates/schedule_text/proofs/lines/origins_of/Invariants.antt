use Rattle.std.proofs.Common.{◌≡◌, ◌++◌, length, map}
use Rattle.schedule_text.specs.Lines.{origins_of}
use Rattle.schedule_text.proofs.lines.origins_of.Given as goal

abbrev pub invariant-loop-rest : goal.invariant-loop-rest
invariant-loop-rest l = l.origins ++ origins_of (map (λ w. w.now) l.rest) ≡ origins_of (map (λ w. w.now) l.words)

abbrev pub decreases-loop-rest : goal.decreases-loop-rest
decreases-loop-rest l = length l.rest
