use Rattle.std.proofs.Common.{◌≡◌, [], ◌∷◌, Some, length}
use Rattle.follower_core.specs.Steps.{reads_from}
use Rattle.follower_core.proofs.reading.read_inputs.Given as goal

-- from here the loop gives what the whole loop gives
abbrev pub invariant-loop-rest : goal.invariant-loop-rest
invariant-loop-rest l = reads_from l.ledger.present.map (Some l.objects) l.rest ≡ reads_from l.ledger.present.map (Some (l.fn.gas ∷ [])) l.inputs

abbrev pub decreases-loop-rest : goal.decreases-loop-rest
decreases-loop-rest l = length l.rest
