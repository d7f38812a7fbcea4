use Rattle.std.proofs.Common.{◌∙◌}
use Rattle.report_text.specs.Text.{body_of}
use Rattle.report_text.proofs.Appends.{joined, part_behind, part_so_far, writes_part, writes_then}
use Rattle.wire_bcs.specs.Wrote.{part_first}
use Rattle.report_text.proofs.printer.print_member_line.Goals as goal

pub returns-in_err-print_member_head-in-Stop : goal.returns-in_err-print_member_head-in-Stop
unfolding body_of
returns-in_err-print_member_head-in-Stop c =
    rw c.in-Stop.is (writes_part _ c.from_residual.result c.args.out.now c.print_member_head.new.out _ _ c.from_residual.ensures.1 c.in_err-print_member_head-in-Stop.ensures)

pub returns-in_ok-print_member_head-in-Stop : goal.returns-in_ok-print_member_head-in-Stop
unfolding body_of
returns-in_ok-print_member_head-in-Stop c =
    rw c.in-Stop.is (writes_then c.print_kept.result c.args.out.now c.print_member_head.new.out c.print_kept.new.out _ _ c.in_ok-print_member_head-in-Stop.ensures c.print_kept.ensures)

pub returns-in_err-print_member_head-in-Restart : goal.returns-in_err-print_member_head-in-Restart
unfolding body_of
returns-in_err-print_member_head-in-Restart c =
    rw c.in-Restart.is (writes_part _ c.from_residual-in_err-print_member_head-in-Restart.result c.args.out.now c.print_member_head-in-Restart.new.out _ _ c.from_residual-in_err-print_member_head-in-Restart.ensures.1 c.in_err-print_member_head-in-Restart.ensures)

pub returns-in_ok-print_member_head-in-Restart : goal.returns-in_ok-print_member_head-in-Restart
unfolding body_of
returns-in_ok-print_member_head-in-Restart c =
    rw c.in-Restart.is (writes_then c.print_restart_text.result c.args.out.now c.print_member_head-in-Restart.new.out c.print_restart_text.new.out _ _ c.in_ok-print_member_head-in-Restart.ensures c.print_restart_text.ensures)

pub returns-in_err-print_member_head-in-Show : goal.returns-in_err-print_member_head-in-Show
unfolding body_of
returns-in_err-print_member_head-in-Show c =
    rw c.in-Show.is (writes_part _ c.from_residual-in_err-print_member_head-in-Show.result c.args.out.now c.print_member_head-in-Show.new.out _ _ c.from_residual-in_err-print_member_head-in-Show.ensures.1 c.in_err-print_member_head-in-Show.ensures)

pub returns-in_ok-print_member_head-in-Show : goal.returns-in_ok-print_member_head-in-Show
unfolding body_of
returns-in_ok-print_member_head-in-Show c =
    rw c.in-Show.is (writes_then c.print_show_text.result c.args.out.now c.print_member_head-in-Show.new.out c.print_show_text.new.out _ _ c.in_ok-print_member_head-in-Show.ensures c.print_show_text.ensures)

pub returns-in_err-print_object_head-in-Object : goal.returns-in_err-print_object_head-in-Object
unfolding body_of
returns-in_err-print_object_head-in-Object c =
    rw c.in-Object.is (writes_part _ c.from_residual-in_err-print_object_head-in-Object.result c.args.out.now c.print_object_head.new.out _ _ c.from_residual-in_err-print_object_head-in-Object.ensures.1 (part_first c.args.out.now c.print_object_head.new.out _ _ (part_first c.args.out.now c.print_object_head.new.out _ _ c.in_err-print_object_head-in-Object.ensures)))

pub returns-in_err-print_owner_text-in-Object : goal.returns-in_err-print_owner_text-in-Object
unfolding body_of
returns-in_err-print_owner_text-in-Object c =
    rw c.in-Object.is (writes_part _ c.from_residual-in_err-print_owner_text-in-Object.result c.args.out.now c.print_owner_text.new.out _ _ c.from_residual-in_err-print_owner_text-in-Object.ensures.1 (part_first c.args.out.now c.print_owner_text.new.out _ _ (part_behind c.args.out.now c.print_object_head.new.out c.print_owner_text.new.out _ _ c.in_ok-print_object_head-in-Object.ensures c.in_err-print_owner_text-in-Object.ensures)))

pub returns-in_err-extend-in-Object : goal.returns-in_err-extend-in-Object
unfolding body_of
returns-in_err-extend-in-Object c =
    rw c.in-Object.is (writes_part _ c.from_residual-in_err-extend-in-Object.result c.args.out.now c.extend.new.self _ _ c.from_residual-in_err-extend-in-Object.ensures.1 (part_so_far c.args.out.now c.extend.new.self _ _ (c.in_err-extend-in-Object.ensures.err ∙ joined c.args.out.now c.print_object_head.new.out c.print_owner_text.new.out _ _ c.in_ok-print_object_head-in-Object.ensures c.in_ok-print_owner_text-in-Object.ensures)))

pub returns-in_ok-extend-in-Object : goal.returns-in_ok-extend-in-Object
unfolding body_of
returns-in_ok-extend-in-Object c =
    rw c.in-Object.is (writes_then c.print_content_text.result c.args.out.now c.extend.new.self c.print_content_text.new.out _ _ (joined c.args.out.now c.print_owner_text.new.out c.extend.new.self _ _ (joined c.args.out.now c.print_object_head.new.out c.print_owner_text.new.out _ _ c.in_ok-print_object_head-in-Object.ensures c.in_ok-print_owner_text-in-Object.ensures) c.in_ok-extend-in-Object.ensures.ok) c.print_content_text.ensures)
