use Rattle.std.proofs.Common.{◌≡◌, drop, length}
use Rattle.std.specs.Prelude.{fold}
use Rattle.world_lines.specs.Openings.{with_object}
use Rattle.world_lines.specs.SetUp.{with_all}
use Rattle.world_lines.proofs.directory.Directory.set_up_all.Given as goal

-- the lines that are left name and add what is missing, and things and objects are as many
abbrev pub invariant-loop-line : goal.invariant-loop-line
invariant-loop-line l =
    (with_all l.self (drop l.line-index l.setup) ≡ with_all l.fn.self l.setup)
    × (fold with_object l.objects.items (drop l.line-index l.setup) ≡ fold with_object l.fn.objects.items l.setup)
    × (length l.objects.items ≡ length l.self.things)
