use Rattle.std.proofs.Common.{◌≡◌, length, map}
use Rattle.schedule_text.specs.Lines.{front_inputs}
use Rattle.schedule_text.proofs.Each.{after_front}
use Rattle.schedule_text.proofs.lines.front_inputs.Given as goal

abbrev pub invariant-loop-rest : goal.invariant-loop-rest
invariant-loop-rest l = after_front l.inputs (front_inputs (map (λ w. w.now) l.rest)) ≡ front_inputs (map (λ w. w.now) l.words)

abbrev pub decreases-loop-rest : goal.decreases-loop-rest
decreases-loop-rest l = length l.rest
