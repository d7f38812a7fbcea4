use Rattle.std.proofs.Common.{◌-◌, length}
use Rattle.version_assign.specs.Books.{IsSkipped}
use Rattle.version_assign.proofs.book.AdmissionTables.skipped.Given as goal

-- nothing waits at the places that were passed
abbrev pub invariant-loop-low : goal.invariant-loop-low
invariant-loop-low l = IsSkipped l.low l.self.rows.items

abbrev pub decreases-loop-low : goal.decreases-loop-low
decreases-loop-low l = length l.self.rows.items - l.low
