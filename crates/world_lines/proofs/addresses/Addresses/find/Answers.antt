use Rattle.std.proofs.Common.{◌∙◌, ap, sym}
use Rattle.std.specs.Prelude.{option_copied}
use Rattle.world_lines.proofs.addresses.Addresses.find.Goals as goal

pub returns-in-Some : goal.returns-in-Some
returns-in-Some c = c.self.invariant c.args.name.now _ (sym (ap option_copied (sym c.in-Some.is) ∙ c.get.ensures))
