use Rattle.std.proofs.Common.{◌≡◌, ◌∙◌, None, Option, ap, is_some, sym, subst, true, false}
use Rattle.std.specs.Option.{option_copied_mut}
use Rattle.std.specs.List.{list_any}
use Rattle.std.specs.Map.{lookup}
use Rattle.std.specs.Ordering.{nat_cmp}
use Rattle.std.specs.BTreeMap.{is_at}
use Rattle.std.specs.BTreeSet.{BTreeSet}
use Rattle.chain_types.specs.Equal.{digest_eq}
use Rattle.version_assign.specs.Waiting.{KeepsShelf, Shelf, is_in}
use Rattle.version_assign.proofs.Shelving.{set_grows, shelf_kept}
use Rattle.version_assign.proofs.shelf.add_place.Goals as goal

pub returns-in_err-insert-clause-kept : goal.returns-in_err-insert-clause-kept
returns-in_err-insert-clause-kept c =
    let w = c.insert.new.self in
    shelf_kept c.args.shelf.now.entries (c.get_mut.follows.lender w).entries c.args.name w
    (λ p has. ap (λ ks. list_any (is_at (nat_cmp p)) ks) c.in_err-insert.ensures.err ∙ sym (ap (λ (o : Option (BTreeSet _)). is_in o p) (sym c.in-Some.ensures.value)) ∙ has)
    ((c.get_mut.follows.holds w).3 (ap is_some (sym c.in-Some.ensures.value))).0

pub returns-in-Some-clause-kept : goal.returns-in-Some-clause-kept
returns-in-Some-clause-kept c =
    let w = c.insert.new.self in
    shelf_kept c.args.shelf.now.entries (c.get_mut.follows.lender w).entries c.args.name w
    (λ p has. set_grows c.in-Some.set.now w c.args.place c.in_ok-insert.ensures.updates p (sym (ap (λ (o : Option (BTreeSet _)). is_in o p) (sym c.in-Some.ensures.value)) ∙ has))
    ((c.get_mut.follows.holds w).3 (ap is_some (sym c.in-Some.ensures.value))).0

pub returns-clause-kept : goal.returns-clause-kept
returns-clause-kept c =
    let w = c.in_ok-one_place.field-0 in
    let m = c.get_mut.follows.lender-at-none in
    let none : lookup (digest_eq c.args.name) c.args.shelf.now.entries ≡ None = sym c.get_mut.ensures.value ∙ ap option_copied_mut c.in_default.is in
    let same : m.entries ≡ c.args.shelf.now.entries = ap (λ n. n.entries) c.get_mut.follows.holds-at-none in
    subst (λ (s : Shelf). KeepsShelf s c.insert-2.new.self.entries) same
    (shelf_kept m.entries c.insert-2.new.self.entries c.args.name w
    (λ p has. absurd (clash (sym has ∙ ap (λ (s : Shelf). is_in (lookup (digest_eq c.args.name) s) p) same ∙ ap (λ (o : Option (BTreeSet _)). is_in o p) none)))
    c.in_ok-insert-2.ensures.updates.0)
  where
    clash : true ≡ false → ⊥
    clash f = cc
