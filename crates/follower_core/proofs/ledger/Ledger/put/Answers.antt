use Rattle.std.proofs.Common.{◌∙◌, ap}
use Rattle.follower_core.specs.Ledgers.{now_as}
use Rattle.follower_core.proofs.Ledgers.{puts}
use Rattle.follower_core.proofs.ledger.Ledger.put.Goals as goal

pub returns-clause-present : goal.returns-clause-present
returns-clause-present c =
    ap (λ cs. now_as c.self.inside.objects.entries cs c.self.inside.ran.keys c.self.inside.gone.keys) c.in_ok-insert.ensures.entries
    ∙ puts c.self.inside.objects.entries c.self.inside.changes.entries c.self.inside.ran_kept c.self.inside.ran.keys c.self.inside.gone_kept c.self.inside.gone.keys _ c.args.object.now c.self.view_is
