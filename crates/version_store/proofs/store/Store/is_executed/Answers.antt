use Rattle.std.proofs.Common.{◌∙◌, ap, drop, map}
use Rattle.protocol_spec.specs.Member.Versions.{is_executed}
use Rattle.version_store.specs.Kept.{kept_object}
use Rattle.version_store.specs.Stores.{Stored}
use Rattle.version_store.proofs.Executions.{has_ran}
use Rattle.version_store.proofs.store.Store.is_executed.Goals as goal

pub returns : goal.returns
returns c =
    c.contains_key.ensures
    ∙ has_ran c.self.inside.maps.executed.entries (drop c.self.inside.opened (map kept_object c.self.inside.maps.versions.entries)) c.args.tx.now
    ∙ ap (λ (s : Stored). is_executed s.executed c.args.tx.now) c.self.view_is
