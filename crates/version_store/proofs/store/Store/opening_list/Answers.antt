use Rattle.std.proofs.Common.{◌∙◌, ap, map}
use Rattle.indexmap.specs.IndexMap.{values}
use Rattle.version_store.specs.Bases.{object_under}
use Rattle.version_store.specs.Openings.{all_opened, all_placed}
use Rattle.version_store.proofs.OpeningLists.{lists_opening}
use Rattle.version_store.proofs.store.Store.opening_list.Goals as goal

pub returns : goal.returns
returns c =
    c.from_vec.ensures
    ∙ c.in_ok-objects.ensures
    ∙ ap (map object_under) (c.in_ok-add_opened_among.ensures ∙ ap (λ es. all_opened es (values c.self.inside.maps.versions))
    (c.in_ok-add_base.ensures ∙ ap (λ es. all_placed es (values c.self.inside.base)) c.new-opened.ensures.empty))
    ∙ lists_opening c.self.invariant c.self.view_is
