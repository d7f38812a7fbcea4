use Rattle.std.proofs.Common.{◌≡◌, length}
use Rattle.protocol_spec.specs.Chain.Words.{first_of}
use Rattle.protocol_spec.specs.Member.Rounds.{missing, wants_of}
use Rattle.version_store.specs.Stores.{held_in}
use Rattle.exec_plan.proofs.inputs.first_missing.Given as goal

-- nothing that was passed is missing
abbrev pub invariant-loop-want : goal.invariant-loop-want
invariant-loop-want l = first_of (missing (held_in l.store)) l.wants ≡ first_of (missing (held_in l.store)) (wants_of l.admission.admission l.held)

abbrev pub decreases-loop-want : goal.decreases-loop-want
decreases-loop-want l = length l.wants
