use Rattle.std.proofs.Common.{◌∙◌, ap, sym}
use Rattle.std.specs.Prelude.{bytes_eq}
use Rattle.tables.specs.Named.{named}
use Rattle.tables.proofs.Lookups.{lookup_map}
use Rattle.tables.proofs.names.NameMap.get.Goals as goal

pub returns : goal.returns
returns g c =
    c.get.ensures.value ∙ sym (lookup_map (λ k. k.items) (bytes_eq c.args.name.now) c.self.inside.values.entries) ∙ ap (λ m. named m c.args.name.now) c.self.view_is
