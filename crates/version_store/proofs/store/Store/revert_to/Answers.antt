use Rattle.std.proofs.Common.{◌∙◌, ap, refl, sym}
use Rattle.version_store.specs.Reverts.{undone}
use Rattle.version_store.proofs.Opened.{reverted_over}
use Rattle.version_store.proofs.Reverted.{no_items, none_undone, undone_are}
use Rattle.version_store.proofs.store.Store.revert_to.Goals as goal

pub returns-then-is_empty-clause-ok : goal.returns-then-is_empty-clause-ok
returns-then-is_empty-clause-ok c =
    none_undone c.args.kept.now c.args.self.now
    (sym (c.in_ok-undone.ensures ∙ undone_are c.args.kept.now c.self.inside.opened c.self.inside.maps refl c.in_ok-kept.ensures ∙ ap (undone c.args.kept.now) c.self.view_is)
    ∙ no_items c.in_ok-undone.undone.len c.in_ok-undone.undone.items c.in_ok-undone.undone.ok.0 (sym c.is_empty.ensures ∙ c.if-is_empty.true))

pub returns-then-is_empty-clause-undone : goal.returns-then-is_empty-clause-undone
returns-then-is_empty-clause-undone c =
    c.from_vec.ensures ∙ c.in_ok-undone.ensures
    ∙ undone_are c.args.kept.now c.self.inside.opened c.self.inside.maps refl c.in_ok-kept.ensures
    ∙ ap (undone c.args.kept.now) c.self.view_is

pub invariant_of-self-2 : goal.invariant_of-self-2
invariant_of-self-2 c = (reverted_over c.self.invariant c.self.view_is c.args.kept.now c.in_ok-keep.ensures.ok c.in_ok-kept.ensures).0

pub returns-clause-ok : goal.returns-clause-ok
returns-clause-ok c = (reverted_over c.self.invariant c.self.view_is c.args.kept.now c.in_ok-keep.ensures.ok c.in_ok-kept.ensures).1

pub returns-clause-undone : goal.returns-clause-undone
returns-clause-undone c =
    c.from_vec-2.ensures ∙ c.in_ok-undone.ensures
    ∙ undone_are c.args.kept.now c.self.inside.opened c.self.inside.maps refl c.in_ok-kept.ensures
    ∙ ap (undone c.args.kept.now) c.self.view_is
