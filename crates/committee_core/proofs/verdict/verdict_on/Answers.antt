use Rattle.world_core.specs.Looks.{transaction_of}
use Rattle.committee_core.proofs.Caught.{all_taken}
use Rattle.committee_core.proofs.verdict.verdict_on.Goals as goal

pub returns-in-Ok : goal.returns-in-Ok
returns-in-Ok c =
    all_taken (transaction_of c.args.world.now.known) c.args.world.now.opening c.opening.result.now c.args.validator.now.state c.epoch.result c.opening.ensures.value c.epoch.ensures
    c.in-Ok.follower c.verdict_at-said.result c.in-Ok.ensures.caught c.in-Ok.ensures.count c.verdict_at-said.ensures
