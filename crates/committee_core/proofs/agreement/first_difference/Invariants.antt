use Rattle.std.proofs.Common.{ℕ, ◌<◌}
use Rattle.committee_core.specs.Agreement.{NoneDiffers}
use Rattle.committee_core.proofs.agreement.first_difference.Given as goal

abbrev pub invariant-loop-place : goal.invariant-loop-place
invariant-loop-place l = (p : ℕ) → p < l.place → NoneDiffers l.world.posts l.links p
