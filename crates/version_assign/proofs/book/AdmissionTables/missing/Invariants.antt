use Rattle.std.proofs.Common.{◌≡◌, length}
use Rattle.protocol_spec.specs.Chain.Words.{first_of}
use Rattle.protocol_spec.specs.Member.Admission.{missing_origin}
use Rattle.version_assign.specs.Books.{admission_of}
use Rattle.version_assign.proofs.book.AdmissionTables.missing.Given as goal

-- no origin that was passed is missing
abbrev pub invariant-loop-rest : goal.invariant-loop-rest
invariant-loop-rest l = first_of (missing_origin (admission_of l.self)) l.rest ≡ first_of (missing_origin (admission_of l.self)) l.origins

abbrev pub decreases-loop-rest : goal.decreases-loop-rest
decreases-loop-rest l = length l.rest
