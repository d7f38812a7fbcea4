use Rattle.report_text.specs.Text.{cert_text}
use Rattle.report_text.proofs.Appends.{writes_then}
use Rattle.report_text.proofs.texts.print_cert_text.Goals as goal

pub returns-in_ok-extend-in-Formed : goal.returns-in_ok-extend-in-Formed
unfolding cert_text
returns-in_ok-extend-in-Formed c =
    rw c.in-Formed.is (writes_then c.print_numbers.result c.args.out.now c.extend.new.self c.print_numbers.new.out _ _ c.in_ok-extend-in-Formed.ensures.ok c.print_numbers.ensures)
