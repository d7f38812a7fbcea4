use Rattle.std.proofs.Common.{◌≡◌, ◌∙◌, [], List, Option, ℕ, ap, sym, is_some, subst}
use Rattle.std.specs.Option.{option_copied_mut}
use Rattle.std.specs.Prelude.{unwrap_or}
use Rattle.std.proofs.lemmas.Result.{on_ok_weaker}
use Rattle.exec_plan.specs.Behind.{KeepsListed, Lists, listed}
use Rattle.exec_plan.proofs.Filing.{grows, kept_listed, now_listed}
use Rattle.exec_plan.proofs.behind.add_behind.Goals as goal
use Rattle.protocol_spec.proofs.ListLemmas.{push_has}

pub returns-in-Some-clause-kept : goal.returns-in-Some-clause-kept
returns-in-Some-clause-kept c =
    let w = c.push.new.self in
    let was : listed c.args.behind.now.entries c.args.tx ≡ c.in-Some.places.now = ap (λ (o : Option (List ℕ)). unwrap_or o []) (sym c.in-Some.ensures.value) in
    kept_listed c.args.behind.now.entries (c.get_mut.follows.lender w).entries c.args.tx c.in-Some.places.now w was
    (grows c.push.result c.in-Some.places.now w c.args.place c.push.ensures.ok c.push.ensures.err)
    ((c.get_mut.follows.holds w).3 (ap is_some (sym c.in-Some.ensures.value))).0

pub returns-in-Some-clause-added : goal.returns-in-Some-clause-added
returns-in-Some-clause-added c =
    let w = c.push.new.self in
    on_ok_weaker c.push.result
    (λ is.
    now_listed c.args.behind.now.entries (c.get_mut.follows.lender w).entries c.args.tx w c.args.place
    (rw is (push_has c.in-Some.places.now c.args.place))
    ((c.get_mut.follows.holds w).3 (ap is_some (sym c.in-Some.ensures.value))).0)
    c.push.ensures.ok

pub returns-clause-kept : goal.returns-clause-kept
returns-clause-kept c =
    let w = c.in_ok-one_place.field-0 in
    let m = c.get_mut.follows.lender-at-none in
    let none : listed c.args.behind.now.entries c.args.tx ≡ [] = ap (λ (o : Option (List ℕ)). unwrap_or o []) (sym c.get_mut.ensures.value ∙ ap option_copied_mut c.in_default.is) in
    let same : m.entries ≡ c.args.behind.now.entries = ap (λ n. n.entries) c.get_mut.follows.holds-at-none in
    subst (λ (ls : Lists). KeepsListed ls c.insert.new.self.entries) same
    (kept_listed m.entries c.insert.new.self.entries c.args.tx [] w (ap (λ (ls : Lists). listed ls c.args.tx) same ∙ none) (λ p has. absurd has) c.in_ok-insert.ensures.updates.0)
