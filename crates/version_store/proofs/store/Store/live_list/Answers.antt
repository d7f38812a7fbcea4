use Rattle.std.proofs.Common.{◌∙◌, ap, map}
use Rattle.indexmap.specs.IndexMap.{keys, values}
use Rattle.version_store.specs.Bases.{object_under}
use Rattle.version_store.specs.Live.{all_live, kept_id}
use Rattle.version_store.proofs.Turned.{lists_live}
use Rattle.version_store.proofs.store.Store.live_list.Goals as goal

pub returns : goal.returns
returns c =
    c.from_vec.ensures
    ∙ c.in_ok-objects.ensures
    ∙ ap (map object_under) (c.in_ok-add_live_among.ensures ∙ ap (λ es. all_live c.args.self.now es (map kept_id (values c.self.inside.maps.versions)))
    (c.in_ok-add_live_under.ensures ∙ ap (λ es. all_live c.args.self.now es (keys c.self.inside.base)) c.new-live.ensures.empty))
    ∙ lists_live c.self.invariant c.self.view_is
