use Rattle.report_text.specs.Text.{final_text}
use Rattle.report_text.proofs.Appends.{writes_then}
use Rattle.report_text.proofs.texts.print_final_text.Goals as goal

pub returns-in_ok-extend-in-FinalBy : goal.returns-in_ok-extend-in-FinalBy
unfolding final_text
returns-in_ok-extend-in-FinalBy c =
    rw c.in-FinalBy.is (writes_then c.print_numbers.result c.args.out.now c.extend.new.self c.print_numbers.new.out _ _ c.in_ok-extend-in-FinalBy.ensures.ok c.print_numbers.ensures)
