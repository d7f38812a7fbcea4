use Rattle.committee_core.proofs.Caught.{equal_printed}
use Rattle.committee_core.proofs.verdict.print_verdict.Goals as goal

pub returns-in_ok-print_number-in-Equal : goal.returns-in_ok-print_number-in-Equal
returns-in_ok-print_number-in-Equal c =
    equal_printed c.print_two-in-Equal.result c.args.text.now c.print_number.new.text c.print_two-in-Equal.new.text c.as_slice-in-Equal.result.now c.as_slice-in-Equal-2.result.now c.as_slice-in-Equal-3.result.now
    c.args.verdict c.in-Equal.checkpoints c.in-Equal.epoch c.in-Equal.objects c.in-Equal.is c.as_slice-in-Equal.ensures c.as_slice-in-Equal-2.ensures c.as_slice-in-Equal-3.ensures
    c.in_ok-print_number-in-Equal.ensures c.print_two-in-Equal.ensures
