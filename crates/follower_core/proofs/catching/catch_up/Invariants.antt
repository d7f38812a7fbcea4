use Rattle.follower_core.specs.Following.{opened}
use Rattle.follower_core.proofs.Caught.{Passes}
use Rattle.follower_core.proofs.catching.catch_up.Given as goal

abbrev pub invariant-loop-place : goal.invariant-loop-place
invariant-loop-place g l = Passes (g.A.Archive.known l.archive) l.epoch (opened l.opening) (g.A.Archive.kept l.archive) l.follower l.place
