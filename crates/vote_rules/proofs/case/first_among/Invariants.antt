use Rattle.std.proofs.Common.{◌≡◌, length}
use Rattle.protocol_spec.specs.Chain.Words.{first_of}
use Rattle.vote_rules.specs.Cases.{ballot_of, says}
use Rattle.vote_rules.proofs.case.first_among.Given as goal

-- the case said nothing of the inputs that were passed
abbrev pub invariant-loop-rest : goal.invariant-loop-rest
invariant-loop-rest l = first_of (says l.case (ballot_of l.store) l.tx) l.rest ≡ first_of (says l.case (ballot_of l.store) l.tx) l.inputs

abbrev pub decreases-loop-rest : goal.decreases-loop-rest
decreases-loop-rest l = length l.rest
