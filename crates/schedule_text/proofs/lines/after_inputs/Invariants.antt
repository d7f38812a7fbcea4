use Rattle.std.proofs.Common.{◌≡◌, length, map}
use Rattle.schedule_text.specs.Lines.{after_inputs}
use Rattle.schedule_text.proofs.lines.after_inputs.Given as goal

abbrev pub invariant-loop-rest : goal.invariant-loop-rest
invariant-loop-rest l = after_inputs (map (λ w. w.now) l.rest) ≡ after_inputs (map (λ w. w.now) l.words)

abbrev pub decreases-loop-rest : goal.decreases-loop-rest
decreases-loop-rest l = length l.rest
