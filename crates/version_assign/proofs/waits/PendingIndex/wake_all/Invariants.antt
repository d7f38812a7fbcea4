use Rattle.std.proofs.Common.{◌≡◌, length, true, ℕ}
use Rattle.std.specs.Prelude.{◌⊎◌}
use Rattle.std.specs.Ordering.{nat_cmp}
use Rattle.std.specs.BTreeSet.{contains}
use Rattle.version_assign.specs.Waiting.{Grows, is_awake}
use Rattle.version_assign.proofs.waits.PendingIndex.wake_all.Given as goal

-- each place is left, or its certificate may be free
abbrev pub invariant-loop-place : goal.invariant-loop-place
invariant-loop-place l = record {
  kept : Grows l.fn.self l.self;
  rest : l.self.whole ≡ true → (q : ℕ) → contains nat_cmp l.fn.places q ≡ true → (contains nat_cmp l.places q ≡ true) ⊎ (is_awake l.self q ≡ true);
}

abbrev pub decreases-loop-place : goal.decreases-loop-place
decreases-loop-place l = length l.places.keys
