use Rattle.std.proofs.Common.{◌∙◌}
use Rattle.follower_core.proofs.Objects.{entry_put}
use Rattle.follower_core.proofs.ledger.place_one.Goals as goal

pub returns : goal.returns
returns c = c.in_ok-insert.ensures.entries ∙ entry_put c.args.live.now.entries c.args.id c.args.object
