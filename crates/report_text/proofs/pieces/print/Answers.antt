use Rattle.std.proofs.Common.{◌<◌, length, arith}
use Rattle.report_text.specs.Pieces.{piece_text}
use Rattle.report_text.proofs.Appends.{writes_some}
use Rattle.report_text.proofs.pieces.print.Goals as goal

pub returns-in_err-print_piece : goal.returns-in_err-print_piece
returns-in_err-print_piece c =
    let within : c.loop-piece.piece-index < length c.args.pieces.now = omega (arith, c.loop-piece-test.true) in
    writes_some _ c.from_residual.result piece_text c.args.pieces.now c.loop-piece.piece-index c.piece-item.result c.args.out.now c.loop-piece.out c.print_piece.new.out c.from_residual.ensures.1 within c.piece-item.is c.loop-piece.invariant c.in_err-print_piece.ensures
