use Rattle.report_text.specs.Text.{body_of}
use Rattle.report_text.proofs.Appends.{joined, part_behind, writes_part, writes_then}
use Rattle.wire_bcs.specs.Wrote.{part_first}
use Rattle.report_text.proofs.printer.print_run_line.Goals as goal

pub returns-in_err-print_member_head-in-Run : goal.returns-in_err-print_member_head-in-Run
unfolding body_of
returns-in_err-print_member_head-in-Run c =
    rw c.in-Run.is (writes_part _ c.from_residual.result c.args.out.now c.print_member_head.new.out _ _ c.from_residual.ensures.1 c.in_err-print_member_head-in-Run.ensures)

pub returns-in_ok-print_member_head-in-Run : goal.returns-in_ok-print_member_head-in-Run
unfolding body_of
returns-in_ok-print_member_head-in-Run c =
    rw c.in-Run.is (writes_then c.print_run_text.result c.args.out.now c.print_member_head.new.out c.print_run_text.new.out _ _ c.in_ok-print_member_head-in-Run.ensures c.print_run_text.ensures)

pub returns-in_err-print_member_head-in-Checkpoint : goal.returns-in_err-print_member_head-in-Checkpoint
unfolding body_of
returns-in_err-print_member_head-in-Checkpoint c =
    rw c.in-Checkpoint.is (writes_part _ c.from_residual-in_err-print_member_head-in-Checkpoint.result c.args.out.now c.print_member_head-in-Checkpoint.new.out _ _ c.from_residual-in_err-print_member_head-in-Checkpoint.ensures.1 (part_first c.args.out.now c.print_member_head-in-Checkpoint.new.out _ _ c.in_err-print_member_head-in-Checkpoint.ensures))

pub returns-in_err-print_names-in-Checkpoint : goal.returns-in_err-print_names-in-Checkpoint
unfolding body_of
returns-in_err-print_names-in-Checkpoint c =
    rw c.in-Checkpoint.is (writes_part _ c.from_residual-in_err-print_names-in-Checkpoint.result c.args.out.now c.print_names.new.out _ _ c.from_residual-in_err-print_names-in-Checkpoint.ensures.1 (part_behind c.args.out.now c.print_member_head-in-Checkpoint.new.out c.print_names.new.out _ _ c.in_ok-print_member_head-in-Checkpoint.ensures c.in_err-print_names-in-Checkpoint.ensures))

pub returns-in_ok-print_names-in-Checkpoint : goal.returns-in_ok-print_names-in-Checkpoint
unfolding body_of
returns-in_ok-print_names-in-Checkpoint c =
    rw c.in-Checkpoint.is (writes_then c.print_only_if.result c.args.out.now c.print_names.new.out c.print_only_if.new.out _ _ (joined c.args.out.now c.print_member_head-in-Checkpoint.new.out c.print_names.new.out _ _ c.in_ok-print_member_head-in-Checkpoint.ensures c.in_ok-print_names-in-Checkpoint.ensures) c.print_only_if.ensures)
