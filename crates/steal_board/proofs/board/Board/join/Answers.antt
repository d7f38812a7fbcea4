use Rattle.steal_board.specs.Views.{paper_of}
use Rattle.steal_board.proofs.Calls.{joins_over}
use Rattle.steal_board.proofs.board.Board.join.Goals as goal

pub join_seat-requires : goal.join_seat-requires
join_seat-requires g c =
    let b = c.args.self.now in
    let one = c.requires.one in
    let other = c.requires.other in (
      one.table,
      other.table,
      other.clear,
      b.wide.0,
      joins_over (paper_of b.table.shared.key) c.args.one.seat.id c.args.other.seat.id c.args.one.seat.me.0 c.args.other.seat.me.0 one.paper one.part,
    )
