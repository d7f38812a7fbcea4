use Rattle.std.proofs.Common.{◌∙◌, ap, sym, option_map}
use Rattle.std.specs.Prelude.{option_copied}
use Rattle.world_spec.specs.Setting.{Thing}
use Rattle.world_lines.specs.KnownRows.{thing_as}
use Rattle.world_lines.proofs.Names.{thing_found}
use Rattle.world_lines.proofs.directory.Directory.thing_id.Goals as goal

pub returns-in-Some : goal.returns-in-Some
returns-in-Some c =
    ap (λ o. option_map (λ (t : Thing). t.id) (option_map thing_as (option_copied o))) (sym c.in-Some.is)
    ∙ ap (option_map (λ (t : Thing). t.id)) (thing_found c.self.inside.things c.self.inside.users.rows c.self.inside.txs c.self.inside.drawn.rows c.args.self.now c.self.view_is c.args.name.now (option_copied c.named.result) c.named.ensures)

pub returns-in-None : goal.returns-in-None
returns-in-None c =
    ap (λ o. option_map (λ (t : Thing). t.id) (option_map thing_as (option_copied o))) (sym c.in-None.is)
    ∙ ap (option_map (λ (t : Thing). t.id)) (thing_found c.self.inside.things c.self.inside.users.rows c.self.inside.txs c.self.inside.drawn.rows c.args.self.now c.self.view_is c.args.name.now (option_copied c.named.result) c.named.ensures)
