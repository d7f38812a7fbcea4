use Rattle.std.proofs.Common.{◌≡◌, length}
use Rattle.protocol_spec.specs.Chain.Words.{first_of}
use Rattle.exec_plan.specs.Makers.{awaited_of, unmade}
use Rattle.exec_plan.proofs.makers.awaited.Given as goal

-- of what was passed, all is made
abbrev pub invariant-loop-want : goal.invariant-loop-want
invariant-loop-want l = first_of (unmade l.past.executed) l.wants ≡ awaited_of l.past.executed l.admission.admission l.held

abbrev pub decreases-loop-want : goal.decreases-loop-want
decreases-loop-want l = length l.wants
