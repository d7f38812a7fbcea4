use Rattle.std.proofs.Common.{◌≡◌, ◌∙◌, ap, sym, is_some, false}
use Rattle.std.specs.Prelude.{bytes_eq}
use Rattle.std.specs.Map.{lookup}
use Rattle.tables.specs.Named.{named, with_name}
use Rattle.tables.proofs.Lookups.{lookup_map, named_by, one_more}
use Rattle.tables.proofs.names.NameMap.add.Goals as goal

pub insert_new-requires : goal.insert_new-requires
insert_new-requires g c =
    ap (λ n. is_some (lookup (λ y. bytes_eq n y.items) c.self.inside.values.entries)) c.in_ok-name.ensures.items
    ∙ ap is_some (sym (lookup_map (λ k. k.items) (bytes_eq c.args.name.now) c.self.inside.values.entries))
    ∙ ap (λ m. is_some (named m c.args.name.now)) c.self.view_is ∙ sym c.if-has.ensures

pub returns-clause-ok : goal.returns-clause-ok
returns-clause-ok g c =
    let new : is_some (named (named_by (λ k. k.items) c.self.inside.values.entries) c.args.name.now) ≡ false = ap (λ m. is_some (named m c.args.name.now)) c.self.view_is ∙ sym c.if-has.ensures in
    ap (named_by (λ k. k.items)) c.in_ok-insert_new.ensures.ok
    ∙ one_more (λ k. k.items) c.self.inside.values.entries c.in_ok-name.name c.args.name.now c.args.value c.in_ok-name.ensures.items new
    ∙ ap (λ m. with_name m c.args.name.now c.args.value) c.self.view_is
