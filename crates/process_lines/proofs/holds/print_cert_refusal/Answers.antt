use Rattle.process_lines.specs.Texts.{cert_refusal_text}
use Rattle.process_lines.proofs.holds.print_cert_refusal.Goals as goal

pub returns-in-ShortStake : goal.returns-in-ShortStake
unfolding cert_refusal_text
returns-in-ShortStake c = rw c.in-ShortStake.is c.print-in-ShortStake.ensures
