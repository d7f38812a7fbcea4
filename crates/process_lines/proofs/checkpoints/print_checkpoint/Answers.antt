use Rattle.std.proofs.Common.{sym}
use Rattle.process_lines.specs.Texts.{checkpoint_text}
use Rattle.process_lines.proofs.checkpoints.print_checkpoint.Goals as goal

pub returns : goal.returns
unfolding checkpoint_text
returns c = rw (sym c.in_ok-bytes.ensures, sym c.in_ok-sealed.ensures, sym c.as_slice.ensures.value, sym c.as_slice-2.ensures.value) c.print.ensures
