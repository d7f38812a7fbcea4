use Rattle.std.proofs.Common.{◌≡◌, drop}
use Rattle.std.specs.Prelude.{find}
use Rattle.protocol_spec.specs.Member.Admission.{is_free}
use Rattle.version_assign.specs.Books.{admission_of, pending_in}
use Rattle.version_assign.proofs.book.AdmissionTables.first_free.Given as goal

-- none that was passed is free
abbrev pub invariant-loop-place : goal.invariant-loop-place
invariant-loop-place l =
    find (is_free l.self.writers (admission_of l.self)) (pending_in (drop l.place l.self.rows.items))
    ≡ find (is_free l.self.writers (admission_of l.self)) (pending_in l.self.rows.items)
