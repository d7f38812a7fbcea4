use Rattle.report_text.specs.Text.{body_of}
use Rattle.report_text.proofs.Appends.{writes_part, writes_then}
use Rattle.report_text.proofs.printer.print_turn_line.Goals as goal

pub returns-in_err-print_member_head-in-Close : goal.returns-in_err-print_member_head-in-Close
unfolding body_of
returns-in_err-print_member_head-in-Close c = rw c.in-Close.is (writes_part _ c.from_residual.result c.args.out.now c.print_member_head.new.out _ _ c.from_residual.ensures.1 c.in_err-print_member_head-in-Close.ensures)

pub returns-in_ok-print_member_head-in-Close : goal.returns-in_ok-print_member_head-in-Close
unfolding body_of
returns-in_ok-print_member_head-in-Close c = rw c.in-Close.is (writes_then c.print_close_text.result c.args.out.now c.print_member_head.new.out c.print_close_text.new.out _ _ c.in_ok-print_member_head-in-Close.ensures c.print_close_text.ensures)

pub returns-in_err-print_member_head-in-End : goal.returns-in_err-print_member_head-in-End
unfolding body_of
returns-in_err-print_member_head-in-End c = rw c.in-End.is (writes_part _ c.from_residual-in_err-print_member_head-in-End.result c.args.out.now c.print_member_head-in-End.new.out _ _ c.from_residual-in_err-print_member_head-in-End.ensures.1 c.in_err-print_member_head-in-End.ensures)

pub returns-in_ok-print_member_head-in-End : goal.returns-in_ok-print_member_head-in-End
unfolding body_of
returns-in_ok-print_member_head-in-End c = rw c.in-End.is (writes_then c.print_end_text.result c.args.out.now c.print_member_head-in-End.new.out c.print_end_text.new.out _ _ c.in_ok-print_member_head-in-End.ensures c.print_end_text.ensures)

pub returns-in_err-print_member_head-in-Turn : goal.returns-in_err-print_member_head-in-Turn
unfolding body_of
returns-in_err-print_member_head-in-Turn c = rw c.in-Turn.is (writes_part _ c.from_residual-in_err-print_member_head-in-Turn.result c.args.out.now c.print_member_head-in-Turn.new.out _ _ c.from_residual-in_err-print_member_head-in-Turn.ensures.1 c.in_err-print_member_head-in-Turn.ensures)

pub returns-in_ok-print_member_head-in-Turn : goal.returns-in_ok-print_member_head-in-Turn
unfolding body_of
returns-in_ok-print_member_head-in-Turn c = rw c.in-Turn.is (writes_then c.print_turn_text.result c.args.out.now c.print_member_head-in-Turn.new.out c.print_turn_text.new.out _ _ c.in_ok-print_member_head-in-Turn.ensures c.print_turn_text.ensures)
