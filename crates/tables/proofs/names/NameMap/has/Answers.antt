use Rattle.std.proofs.Common.{◌∙◌, ap, sym, is_some}
use Rattle.std.specs.Prelude.{bytes_eq}
use Rattle.tables.specs.Named.{named}
use Rattle.tables.proofs.Lookups.{lookup_map}
use Rattle.tables.proofs.names.NameMap.has.Goals as goal

pub returns : goal.returns
returns g c =
    c.contains_key.ensures ∙ ap is_some (sym (lookup_map (λ k. k.items) (bytes_eq c.args.name.now) c.self.inside.values.entries)) ∙ ap (λ m. is_some (named m c.args.name.now)) c.self.view_is
