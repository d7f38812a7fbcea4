use Rattle.std.proofs.Common.{◌∙◌, ap, None}
use Rattle.indexmap.specs.IndexMap.{insert_entry}
use Rattle.chain_types.specs.Equal.{id_eq}
use Rattle.follower_core.specs.Ledgers.{now_as}
use Rattle.follower_core.proofs.Ledgers.{deletes}
use Rattle.follower_core.proofs.ledger.Ledger.delete.Goals as goal

pub returns-clause-present : goal.returns-clause-present
returns-clause-present c =
    ap (λ cs. now_as c.self.inside.objects.entries cs c.self.inside.ran.keys c.insert-2.new.self.keys) c.in_ok-insert.ensures.entries
    ∙ ap (λ gone. now_as c.self.inside.objects.entries (insert_entry id_eq c.self.inside.changes.entries c.args.id.now None) c.self.inside.ran.keys gone) c.in_ok-insert-2.ensures.keys
    ∙ deletes c.self.inside.objects.entries c.self.inside.changes.entries c.self.inside.ran_kept c.self.inside.ran.keys c.self.inside.gone_kept c.self.inside.gone.keys _ c.args.id.now c.self.view_is
