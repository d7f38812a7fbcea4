use Rattle.std.proofs.Common.{◌≡◌, length}
use Rattle.version_assign.specs.Books.{admission_of, shown}
use Rattle.version_assign.specs.Calls.{settled}
use Rattle.version_assign.specs.Registers.{IsWhole}
use Rattle.version_assign.proofs.register.IndexedAdmission.settle.Given as goal

-- what is left to take makes up all
abbrev pub invariant-loop-place : goal.invariant-loop-place
invariant-loop-place l = record {
  kept : IsWhole l.self;
  same : settled (shown l.self.book) ≡ settled (shown l.fn.self.book);
}

abbrev pub decreases-loop-place : goal.decreases-loop-place
decreases-loop-place l = length (admission_of l.self.book).pending
