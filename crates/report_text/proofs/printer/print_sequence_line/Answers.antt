use Rattle.report_text.specs.Text.{body_of}
use Rattle.report_text.proofs.Appends.{writes_part, writes_then}
use Rattle.report_text.proofs.printer.print_sequence_line.Goals as goal

pub returns-in_err-print_tx_head-in-Order : goal.returns-in_err-print_tx_head-in-Order
unfolding body_of
returns-in_err-print_tx_head-in-Order c = rw c.in-Order.is (writes_part _ c.from_residual.result c.args.out.now c.print_tx_head.new.out _ _ c.from_residual.ensures.1 c.in_err-print_tx_head-in-Order.ensures)

pub returns-in_ok-print_tx_head-in-Order : goal.returns-in_ok-print_tx_head-in-Order
unfolding body_of
returns-in_ok-print_tx_head-in-Order c = rw c.in-Order.is (writes_then c.print_order_text.result c.args.out.now c.print_tx_head.new.out c.print_order_text.new.out _ _ c.in_ok-print_tx_head-in-Order.ensures c.print_order_text.ensures)

pub returns-in_err-print_member_head-in-OrderEnd : goal.returns-in_err-print_member_head-in-OrderEnd
unfolding body_of
returns-in_err-print_member_head-in-OrderEnd c = rw c.in-OrderEnd.is (writes_part _ c.from_residual-in_err-print_member_head-in-OrderEnd.result c.args.out.now c.print_member_head.new.out _ _ c.from_residual-in_err-print_member_head-in-OrderEnd.ensures.1 c.in_err-print_member_head-in-OrderEnd.ensures)

pub returns-in_ok-print_member_head-in-OrderEnd : goal.returns-in_ok-print_member_head-in-OrderEnd
unfolding body_of
returns-in_ok-print_member_head-in-OrderEnd c = rw c.in-OrderEnd.is (writes_then c.print_order_end_text.result c.args.out.now c.print_member_head.new.out c.print_order_end_text.new.out _ _ c.in_ok-print_member_head-in-OrderEnd.ensures c.print_order_end_text.ensures)

pub returns-in-OrderCommit : goal.returns-in-OrderCommit
unfolding body_of
returns-in-OrderCommit c = rw c.in-OrderCommit.is c.print_with_number.ensures

pub returns-in_err-print_member_head-in-See : goal.returns-in_err-print_member_head-in-See
unfolding body_of
returns-in_err-print_member_head-in-See c = rw c.in-See.is (writes_part _ c.from_residual-in_err-print_member_head-in-See.result c.args.out.now c.print_member_head-in-See.new.out _ _ c.from_residual-in_err-print_member_head-in-See.ensures.1 c.in_err-print_member_head-in-See.ensures)

pub returns-in_ok-print_member_head-in-See : goal.returns-in_ok-print_member_head-in-See
unfolding body_of
returns-in_ok-print_member_head-in-See c = rw c.in-See.is (writes_then c.print_see_text.result c.args.out.now c.print_member_head-in-See.new.out c.print_see_text.new.out _ _ c.in_ok-print_member_head-in-See.ensures c.print_see_text.ensures)

pub returns-in_err-print_entry_head-in-SeeEntry : goal.returns-in_err-print_entry_head-in-SeeEntry
unfolding body_of
returns-in_err-print_entry_head-in-SeeEntry c = rw c.in-SeeEntry.is (writes_part _ c.from_residual-in_err-print_entry_head-in-SeeEntry.result c.args.out.now c.print_entry_head.new.out _ _ c.from_residual-in_err-print_entry_head-in-SeeEntry.ensures.1 c.in_err-print_entry_head-in-SeeEntry.ensures)

pub returns-in_ok-print_entry_head-in-SeeEntry : goal.returns-in_ok-print_entry_head-in-SeeEntry
unfolding body_of
returns-in_ok-print_entry_head-in-SeeEntry c = rw c.in-SeeEntry.is (writes_then c.print_entry_text.result c.args.out.now c.print_entry_head.new.out c.print_entry_text.new.out _ _ c.in_ok-print_entry_head-in-SeeEntry.ensures c.print_entry_text.ensures)
