use Rattle.report_text.specs.Text.{send_text}
use Rattle.report_text.proofs.texts.print_send_text.Goals as goal

pub returns-in-WrongEpoch : goal.returns-in-WrongEpoch
unfolding send_text
returns-in-WrongEpoch c = rw c.in-WrongEpoch.is c.print_two_numbers-in-WrongEpoch.ensures

pub returns-in-ShortStake : goal.returns-in-ShortStake
unfolding send_text
returns-in-ShortStake c = rw c.in-ShortStake.is c.print_two_numbers-in-ShortStake.ensures
