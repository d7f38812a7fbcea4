use Rattle.std.proofs.Common.{◌≡◌, length}
use Rattle.protocol_spec.specs.Chain.Words.{first_of}
use Rattle.protocol_spec.specs.Member.Admission.{full_id}
use Rattle.version_assign.specs.Books.{admission_of}
use Rattle.version_assign.proofs.book.AdmissionTables.full.Given as goal

-- nothing that was passed is full
abbrev pub invariant-loop-rest : goal.invariant-loop-rest
invariant-loop-rest l = first_of (full_id l.self.writers (admission_of l.self)) l.rest ≡ first_of (full_id l.self.writers (admission_of l.self)) l.ids

abbrev pub decreases-loop-rest : goal.decreases-loop-rest
decreases-loop-rest l = length l.rest
