use Rattle.std.proofs.Common.{◌∙◌, Some, ap, drop, map, option_map}
use Rattle.protocol_spec.specs.Member.Versions.{execution_of}
use Rattle.version_store.specs.Kept.{kept_object}
use Rattle.version_store.specs.Stores.{Stored}
use Rattle.version_store.specs.declared.maps.Ran.{Ran}
use Rattle.version_store.proofs.Executions.{known_as, lookup_ran}
use Rattle.version_store.proofs.store.Store.executed.Goals as goal

pub returns-in-Some : goal.returns-in-Some
returns-in-Some c =
    ap Some c.effects.ensures
    ∙ ap (option_map (λ (r : Ran). r.effects)) c.in-Some.ensures.value
    ∙ lookup_ran c.self.inside.maps.executed.entries (drop c.self.inside.opened (map kept_object c.self.inside.maps.versions.entries)) c.args.tx.now
    ∙ ap (λ (s : Stored). known_as (execution_of s.executed c.args.tx.now)) c.self.view_is

pub returns-in-None : goal.returns-in-None
returns-in-None c =
    ap (option_map (λ (r : Ran). r.effects)) c.in-None.ensures.value
    ∙ lookup_ran c.self.inside.maps.executed.entries (drop c.self.inside.opened (map kept_object c.self.inside.maps.versions.entries)) c.args.tx.now
    ∙ ap (λ (s : Stored). known_as (execution_of s.executed c.args.tx.now)) c.self.view_is
