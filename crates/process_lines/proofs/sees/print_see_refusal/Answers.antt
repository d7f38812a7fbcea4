use Rattle.process_lines.specs.Texts.{see_refusal_text}
use Rattle.process_lines.proofs.sees.print_see_refusal.Goals as goal

pub returns-in-Gap : goal.returns-in-Gap
unfolding see_refusal_text
returns-in-Gap c = rw c.in-Gap.is c.print.ensures
