use Rattle.std.proofs.Common.{ℕ, ◌<◌}
use Rattle.committee_core.specs.Agreement.{Differs}
use Rattle.committee_core.proofs.agreement.lowest_at.Given as goal

abbrev pub invariant-loop-member : goal.invariant-loop-member
invariant-loop-member l = (k : ℕ) → k < l.member → Differs l.world.posts l.place l.link k → ⊥
