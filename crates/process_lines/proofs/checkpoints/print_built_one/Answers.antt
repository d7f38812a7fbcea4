use Rattle.std.proofs.Common.{sym}
use Rattle.process_lines.specs.Texts.{built_one}
use Rattle.process_lines.proofs.checkpoints.print_built_one.Goals as goal

pub returns : goal.returns
unfolding built_one
returns c = rw (sym c.number_of-number.ensures) c.print.ensures
