use Rattle.std.proofs.Common.{sym, ◌∙◌}
use Rattle.std.specs.Str.{bytes_eq}
use Rattle.schedule_text.proofs.NameLists.{list_any-map}
use Rattle.schedule_text.proofs.names.Names.has.Goals as goal

pub returns : goal.returns
returns c =
    rw (← c.self.view_is)
    (c.contains.ensures ∙ sym (list_any-map (λ k. k.items) (bytes_eq c.args.name.now) c.self.inside.set.keys))
