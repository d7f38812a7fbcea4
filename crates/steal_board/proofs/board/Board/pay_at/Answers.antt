use Rattle.std.proofs.Common.{◌∷◌, Option, Some, length, ap, ◌∙◌}
use Rattle.atomic_table.specs.Table.{rest}
use Rattle.dag_core.specs.Values.{target}
use Rattle.steal_board.specs.Views.{paper_of}
use Rattle.steal_board.proofs.Calls.{inside_of, turns_over, pays_over}
use Rattle.steal_board.proofs.board.Board.pay_at.Goals as goal

pub load-requires : goal.load-requires
load-requires g c =
    let b = c.args.self.now in
    let x = c.args.seat.now.seat in
    let of = c.requires.of in
    let inside = inside_of c.as_slice.result.now b.edges b.table.shared.key.edges (length b.table.shared.key.jobs) b.table.shared.table_id.words c.args.edge c.as_slice.ensures.value b.same c.requires.edge b.forward b.wide.1 in (
      of.table,
      inside.0,
      turns_over (paper_of b.table.shared.key) b.table.shared.table_id.slots x.id x.me _ c.args.edge g.E.Spot.edge c.requires.named of.paper of.part c.requires.edge (b.deep ∙ ap length b.same) c.requires.claimed of.calm c.requires.unpaid,
    )

pub fetch_sub-requires : goal.fetch_sub-requires
fetch_sub-requires g c =
    let b = c.args.self.now in
    let of = c.requires.of in
    let v = c.args.seat.now.seat.me.0 in
    let out = rest c.load.new.seat.me.1 in
    let inside = inside_of c.as_slice.result.now b.edges b.table.shared.key.edges (length b.table.shared.key.jobs) b.table.shared.table_id.words c.args.edge c.as_slice.ensures.value b.same c.requires.edge b.forward b.wide.1 in
    let value : Option _ = Some c.args.value in
    let is = c.exchange.ensures.3 ∙ ap (λ w. (w, (c.args.edge, value) ∷ out)) c.load.ensures.2.0 in (
      c.exchange.ensures.0 ∙ (c.load.ensures.0 ∙ of.table),
      inside.1,
      pays_over (paper_of b.table.shared.key) b.table.shared.table_id.slots c.exchange.new.seat.id c.exchange.new.seat.me v out _ c.args.edge g.E.Spot.edge c.args.value is c.requires.named of.paper of.part c.requires.edge (b.deep ∙ ap length b.same) inside.2
          c.requires.value (ap (λ l. target l c.args.edge) (c.as_slice.ensures.value ∙ b.same)),
    )
