use Rattle.std.proofs.Common.{[], ◌∷◌, decimal}
use Rattle.report_text.proofs.Appends.{writes_then}
use Rattle.report_text.proofs.pieces.print_spaced_number.Goals as goal

pub returns : goal.returns
returns c =
    writes_then c.print_number.result c.args.out.now c.push.new.self c.print_number.new.out (32 ∷ []) (decimal c.args.number) c.in_ok-push.ensures.ok c.print_number.ensures
