use Rattle.std.proofs.Common.{◌≡◌, ◌∙◌, ap, sym, subst, []}
use Rattle.std.specs.Prelude.{IfOk, find, option_copied}
use Rattle.chain_types.specs.Equal.{digest_eq}
use Rattle.tables.specs.Tables.{Rows}
use Rattle.world_lines.specs.declared.rows.DrawnRow.{DrawnRow}
use Rattle.world_lines.specs.Drawn.{all_rows}
use Rattle.world_lines.proofs.DrawnRows.{found_behind, found_there}
use Rattle.world_lines.proofs.drawn.DrawnIds.find.Goals as goal

pub returns-in-Some : goal.returns-in-Some
returns-in-Some c =
    found_there (λ (r : DrawnRow). digest_eq c.args.id.now r.id.0) c.self.inside.made.rows c.self.inside.waiting.items _ (ap option_copied (sym c.in-Some.is) ∙ c.find.ensures)
    ∙ ap (λ (t : Rows DrawnRow). find (λ (r : DrawnRow). digest_eq c.args.id.now r.id.0) t.rows) c.self.view_is

pub returns-in-None : goal.returns-in-None
returns-in-None c =
    subst (λ found. IfOk c.find_among.result (λ row. row ≡ found))
    (ap (λ lines. find (λ (r : DrawnRow). digest_eq c.args.id.now r.id.0) (all_rows [] lines)) c.as_slice.ensures.value
    ∙ found_behind (λ (r : DrawnRow). digest_eq c.args.id.now r.id.0) c.self.inside.made.rows c.self.inside.waiting.items (ap option_copied (sym c.in-None.is) ∙ c.find.ensures)
    ∙ ap (λ (t : Rows DrawnRow). find (λ (r : DrawnRow). digest_eq c.args.id.now r.id.0) t.rows) c.self.view_is)
    c.find_among.ensures
