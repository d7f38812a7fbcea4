use Rattle.steal_board.specs.Views.{paper_of}
use Rattle.steal_board.proofs.Calls.{splits_over}
use Rattle.steal_board.proofs.board.Board.split.Goals as goal

pub split_seat-requires : goal.split_seat-requires
split_seat-requires g c =
    let b = c.args.self.now in
    let x = c.args.seat.now.seat in
    let of = c.requires.of in (of.table, b.wide.0, splits_over (paper_of b.table.shared.key) x.id x.me.0 of.paper c.requires.share)
