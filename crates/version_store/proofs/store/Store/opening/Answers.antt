use Rattle.std.proofs.Common.{◌∙◌, [], ap, drop, length, refl}
use Rattle.version_store.specs.Bases.{front_entries}
use Rattle.version_store.proofs.Opened.{fits, opens_over}
use Rattle.version_store.proofs.store.Store.opening.Goals as goal

pub behind-rest-requires : goal.behind-rest-requires
behind-rest-requires c = fits c.args.objects.now c.in_ok-base.ensures c.as_slice.ensures.value c.len.ensures.len c.as_slice-2.ensures.value

pub invariant_of-result : goal.invariant_of-result
invariant_of-result c =
    (opens_over c.args.objects.now (c.in_ok-base.ensures ∙ ap (front_entries []) c.as_slice.ensures.value) c.len.ensures.unique c.in-Ok.ensures
    (c.behind-rest.ensures ∙ ap (λ n. drop n c.as_slice-2.result.now) c.len.ensures.len ∙ ap (drop (length c.in_ok-base.base.entries)) c.as_slice-2.ensures.value) refl c.requires).0

pub returns : goal.returns
returns c =
    (opens_over c.args.objects.now (c.in_ok-base.ensures ∙ ap (front_entries []) c.as_slice.ensures.value) c.len.ensures.unique c.in-Ok.ensures
    (c.behind-rest.ensures ∙ ap (λ n. drop n c.as_slice-2.result.now) c.len.ensures.len ∙ ap (drop (length c.in_ok-base.base.entries)) c.as_slice-2.ensures.value) refl c.requires).1
