use Rattle.std.proofs.Common.{◌∙◌, ◌||◌, ap, is_some, sym}
use Rattle.std.specs.Map.{lookup}
use Rattle.chain_types.specs.Equal.{id_eq}
use Rattle.version_store.proofs.Based.{has_is}
use Rattle.version_store.proofs.store.Store.has.Goals as goal

pub returns-then-contains_key : goal.returns-then-contains_key
returns-then-contains_key c =
    c.if-contains_key.true
    ∙ sym (ap (λ b. b || is_some (lookup (id_eq c.args.id.now) c.self.inside.maps.newest.entries)) (sym c.contains_key.ensures ∙ c.if-contains_key.true))
    ∙ has_is c.self.invariant c.self.view_is c.args.id.now

pub returns-else-contains_key : goal.returns-else-contains_key
returns-else-contains_key c =
    c.contains_key-else-contains_key.ensures
    ∙ sym (ap (λ b. b || is_some (lookup (id_eq c.args.id.now) c.self.inside.maps.newest.entries)) (sym c.contains_key.ensures ∙ c.if-contains_key.false))
    ∙ has_is c.self.invariant c.self.view_is c.args.id.now
