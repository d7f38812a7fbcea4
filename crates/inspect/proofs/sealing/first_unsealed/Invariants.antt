use Rattle.std.proofs.Common.{ℕ, ◌<◌}
use Rattle.inspect.specs.Chain.{SealsAt}
use Rattle.inspect.specs.Standing.{states_in}
use Rattle.inspect.proofs.sealing.first_unsealed.Given as goal

abbrev pub invariant-loop-place : goal.invariant-loop-place
invariant-loop-place l = (i : ℕ) → i < l.place → SealsAt (states_in l.world.posts) l.checkpoints l.members i
