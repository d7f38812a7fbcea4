use Rattle.report_text.specs.Text.{body_of}
use Rattle.report_text.proofs.printer.print_total_line.Goals as goal

pub returns-in-Make : goal.returns-in-Make
unfolding body_of
returns-in-Make c = rw c.in-Make.is c.print.ensures

pub returns-in-Refused : goal.returns-in-Refused
unfolding body_of
returns-in-Refused c = rw c.in-Refused.is c.print_two_numbers.ensures
