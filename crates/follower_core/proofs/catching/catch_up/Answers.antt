use Rattle.std.proofs.Common.{arith}
use Rattle.follower_core.specs.Following.{opened}
use Rattle.follower_core.proofs.Caught.{caught_refused, passes}
use Rattle.follower_core.proofs.catching.catch_up.Goals as goal

pub loop-place-preserved : goal.loop-place-preserved
loop-place-preserved g c =
    let below = c.loop-place-test.true in
    let end = c.checkpoints-place-end.ensures in
    passes (g.A.Archive.known c.args.archive.now) c.args.epoch (opened c.args.opening.now) (g.A.Archive.kept c.args.archive.now) c.loop-place.follower c.take_at.new.follower c.loop-place.place c.loop-place.invariant
    (omega (arith, below, end)) c.in_default.ensures.taken c.in_default.ensures.count

pub returns-in-Err-clause-refused : goal.returns-in-Err-clause-refused
returns-in-Err-clause-refused g c = λ free.
    let below = c.loop-place-test.true in
    let end = c.checkpoints-place-end.ensures in
    caught_refused (g.A.Archive.known c.args.archive.now) c.args.epoch (opened c.args.opening.now) (g.A.Archive.kept c.args.archive.now) c.loop-place.follower c.loop-place.place c.in-Err.refusal c.loop-place.invariant
    (omega (arith, below, end)) (c.in-Err.ensures.refused free)
