use Rattle.report_text.proofs.Appends.{writes_part, writes_then}
use Rattle.report_text.proofs.texts.print_end_of.Goals as goal

pub returns-in_err-print : goal.returns-in_err-print
returns-in_err-print c =
    writes_part _ c.from_residual.result c.args.out.now c.print.new.out _ _ c.from_residual.ensures.1 c.in_err-print.ensures

pub returns : goal.returns
returns c =
    writes_then c.print_only_if.result c.args.out.now c.print.new.out c.print_only_if.new.out _ _ c.in_ok-print.ensures c.print_only_if.ensures
