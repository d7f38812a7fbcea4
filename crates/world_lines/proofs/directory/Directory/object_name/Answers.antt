use Rattle.std.proofs.Common.{◌≡◌, ◌∙◌, ap, sym, Some, None, subst, refl}
use Rattle.std.specs.Prelude.{option_copied, IfOk}
use Rattle.world_lines.proofs.Names.{object_named}
use Rattle.world_lines.proofs.directory.Directory.object_name.Goals as goal

pub returns-in-Some : goal.returns-in-Some
returns-in-Some c =
    subst (λ n. IfOk c.from_slice.result (λ name. name ≡ n))
    (c.as_slice.ensures.value
    ∙ object_named c.self.inside.things c.self.inside.users.rows c.self.inside.txs c.self.inside.drawn.rows c.args.self.now c.self.view_is c.args.id.now (Some c.in-Some.thing.now) _ (ap option_copied (sym c.in-Some.is) ∙ c.find.ensures) refl)
    c.from_slice.ensures

pub returns-in-Some-drawn : goal.returns-in-Some-drawn
returns-in-Some-drawn c =
    subst (λ n. IfOk c.created_name.result (λ name. name ≡ n))
    (object_named c.self.inside.things c.self.inside.users.rows c.self.inside.txs c.self.inside.drawn.rows c.args.self.now c.self.view_is c.args.id.now None (Some c.in-Some-drawn.row) (ap option_copied (sym c.in-None.is) ∙ c.find.ensures)
    (sym c.in-Some-drawn.is ∙ c.in_ok-drawn-in-None.ensures))
    c.created_name.ensures

pub returns-in-None-drawn : goal.returns-in-None-drawn
returns-in-None-drawn c =
    subst (λ n. IfOk c.from_slice-in-None-drawn.result (λ name. name ≡ n))
    (c.as_slice-in-None-drawn.ensures
    ∙ object_named c.self.inside.things c.self.inside.users.rows c.self.inside.txs c.self.inside.drawn.rows c.args.self.now c.self.view_is c.args.id.now None None (ap option_copied (sym c.in-None.is) ∙ c.find.ensures)
    (sym c.in-None-drawn.is ∙ c.in_ok-drawn-in-None.ensures))
    c.from_slice-in-None-drawn.ensures
