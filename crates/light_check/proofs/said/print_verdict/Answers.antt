use Rattle.std.proofs.Common.{sym}
use Rattle.light_check.specs.Said.{verdict_body}
use Rattle.light_check.proofs.said.print_verdict.Goals as goal

pub returns-in-Malformed : goal.returns-in-Malformed
unfolding verdict_body
returns-in-Malformed c = rw (c.in-Malformed.is, sym c.from.ensures) c.print_two.ensures

pub returns-in-Bad : goal.returns-in-Bad
unfolding verdict_body
returns-in-Bad c = rw (c.in-Bad.is, sym c.from-in-Bad.ensures) c.print_two-in-Bad.ensures
