use Rattle.std.proofs.Common.{arith}
use Rattle.steal_board.specs.Views.{paper_of}
use Rattle.steal_board.proofs.Calls.{claims_over}
use Rattle.steal_board.proofs.board.Board.claim.Goals as goal

pub compare_exchange-found-requires : goal.compare_exchange-found-requires
compare_exchange-found-requires g c =
    let b = c.args.self.now in
    let x = c.args.seat.now.seat in
    let of = c.requires.of in
    let wide = b.wide.1 in
    let lt = c.requires.task in (of.table, omega (arith, wide, lt), claims_over (paper_of b.table.shared.key) b.table.shared.table_id.slots x.id x.me c.args.task of.paper of.part lt)
