use Rattle.std.proofs.Common.{◌∙◌, ◌≤◌, ap, sym, subst, is_some}
use Rattle.std.specs.Map.{lookup, set_value}
use Rattle.indexmap.specs.IndexMap.{insert_entry}
use Rattle.chain_types.specs.Equal.{id_eq}
use Rattle.chain_types.specs.declared.objects.Object.{Object}
use Rattle.version_store.proofs.Putting.{newer_back, put_there}
use Rattle.version_store.proofs.maps.add_newer.Goals as goal

pub put_back-requires : goal.put_back-requires
put_back-requires c =
    ap (λ es. is_some (lookup (id_eq c.object.result.now.id) es)) c.put.ensures.entries
    ∙ put_there id_eq c.object.result.now.id c.args.object.now c.in-Some.held c.args.newest.now.entries (sym c.in-Some.ensures.old)

pub returns-clause-entries : goal.returns-clause-entries
returns-clause-entries c =
    c.put_back.ensures.entries
    ∙ ap (λ es. set_value (id_eq c.object.result.now.id) es c.in-Some.held) c.put.ensures.entries
    ∙ ap (λ (x : Object). set_value (id_eq x.id) (insert_entry id_eq c.args.newest.now.entries x.id c.args.object.now) c.in-Some.held) c.object.ensures
    ∙ newer_back c.args.newest.now.entries c.args.object.now c.in-Some.held
    (c.in-Some.ensures.old ∙ ap (λ (x : Object). lookup (id_eq x.id) c.args.newest.now.entries) c.object.ensures)
    (subst (λ (x : Object). x.version ≤ c.in-Some.held.version) c.object-3.ensures (subst (λ (x : Object). c.object-3.result.now.version ≤ x.version) c.object-2.ensures c.if-object.false))
