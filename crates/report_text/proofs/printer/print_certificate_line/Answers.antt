use Rattle.report_text.specs.Text.{body_of}
use Rattle.report_text.proofs.Appends.{writes_part, writes_then}
use Rattle.report_text.proofs.printer.print_certificate_line.Goals as goal

pub returns-in_err-print_tx_head-in-Cert : goal.returns-in_err-print_tx_head-in-Cert
unfolding body_of
returns-in_err-print_tx_head-in-Cert c = rw c.in-Cert.is (writes_part _ c.from_residual.result c.args.out.now c.print_tx_head.new.out _ _ c.from_residual.ensures.1 c.in_err-print_tx_head-in-Cert.ensures)

pub returns-in_ok-print_tx_head-in-Cert : goal.returns-in_ok-print_tx_head-in-Cert
unfolding body_of
returns-in_ok-print_tx_head-in-Cert c = rw c.in-Cert.is (writes_then c.print_cert_text.result c.args.out.now c.print_tx_head.new.out c.print_cert_text.new.out _ _ c.in_ok-print_tx_head-in-Cert.ensures c.print_cert_text.ensures)

pub returns-in_err-print_pair_head-in-Send : goal.returns-in_err-print_pair_head-in-Send
unfolding body_of
returns-in_err-print_pair_head-in-Send c = rw c.in-Send.is (writes_part _ c.from_residual-in_err-print_pair_head-in-Send.result c.args.out.now c.print_pair_head.new.out _ _ c.from_residual-in_err-print_pair_head-in-Send.ensures.1 c.in_err-print_pair_head-in-Send.ensures)

pub returns-in_ok-print_pair_head-in-Send : goal.returns-in_ok-print_pair_head-in-Send
unfolding body_of
returns-in_ok-print_pair_head-in-Send c = rw c.in-Send.is (writes_then c.print_send_text.result c.args.out.now c.print_pair_head.new.out c.print_send_text.new.out _ _ c.in_ok-print_pair_head-in-Send.ensures c.print_send_text.ensures)

pub returns-in_err-print_member_head-in-RawHold : goal.returns-in_err-print_member_head-in-RawHold
unfolding body_of
returns-in_err-print_member_head-in-RawHold c = rw c.in-RawHold.is (writes_part _ c.from_residual-in_err-print_member_head-in-RawHold.result c.args.out.now c.print_member_head.new.out _ _ c.from_residual-in_err-print_member_head-in-RawHold.ensures.1 c.in_err-print_member_head-in-RawHold.ensures)

pub returns-in_ok-print_member_head-in-RawHold : goal.returns-in_ok-print_member_head-in-RawHold
unfolding body_of
returns-in_ok-print_member_head-in-RawHold c = rw c.in-RawHold.is (writes_then c.print_send_text-in-RawHold.result c.args.out.now c.print_member_head.new.out c.print_send_text-in-RawHold.new.out _ _ c.in_ok-print_member_head-in-RawHold.ensures c.print_send_text-in-RawHold.ensures)

pub returns-in_err-print_pair_head-in-Ack : goal.returns-in_err-print_pair_head-in-Ack
unfolding body_of
returns-in_err-print_pair_head-in-Ack c = rw c.in-Ack.is (writes_part _ c.from_residual-in_err-print_pair_head-in-Ack.result c.args.out.now c.print_pair_head-in-Ack.new.out _ _ c.from_residual-in_err-print_pair_head-in-Ack.ensures.1 c.in_err-print_pair_head-in-Ack.ensures)

pub returns-in_ok-print_pair_head-in-Ack : goal.returns-in_ok-print_pair_head-in-Ack
unfolding body_of
returns-in_ok-print_pair_head-in-Ack c = rw c.in-Ack.is (writes_then c.print_ack_text.result c.args.out.now c.print_pair_head-in-Ack.new.out c.print_ack_text.new.out _ _ c.in_ok-print_pair_head-in-Ack.ensures c.print_ack_text.ensures)

pub returns-in_err-print_tx_head-in-Final : goal.returns-in_err-print_tx_head-in-Final
unfolding body_of
returns-in_err-print_tx_head-in-Final c = rw c.in-Final.is (writes_part _ c.from_residual-in_err-print_tx_head-in-Final.result c.args.out.now c.print_tx_head-in-Final.new.out _ _ c.from_residual-in_err-print_tx_head-in-Final.ensures.1 c.in_err-print_tx_head-in-Final.ensures)

pub returns-in_ok-print_tx_head-in-Final : goal.returns-in_ok-print_tx_head-in-Final
unfolding body_of
returns-in_ok-print_tx_head-in-Final c = rw c.in-Final.is (writes_then c.print_final_text.result c.args.out.now c.print_tx_head-in-Final.new.out c.print_final_text.new.out _ _ c.in_ok-print_tx_head-in-Final.ensures c.print_final_text.ensures)
