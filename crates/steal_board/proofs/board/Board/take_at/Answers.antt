use Rattle.std.proofs.Common.{◌∷◌, Some, None, length, ap, ◌∙◌}
use Rattle.atomic_table.specs.Table.{rest}
use Rattle.steal_board.specs.Views.{paper_of}
use Rattle.steal_board.proofs.Calls.{inside_of, last_slot, takes_over, returns_over}
use Rattle.steal_board.proofs.board.Board.take_at.Goals as goal

pub load-requires : goal.load-requires
load-requires g c =
    let b = c.args.self.now in
    let x = c.args.seat.now.seat in
    let of = c.requires.of in
    let inside = inside_of c.as_slice.result.now b.edges b.table.shared.key.edges (length b.table.shared.key.jobs) b.table.shared.table_id.words c.args.edge c.as_slice.ensures.value b.same c.requires.edge b.forward b.wide.1 in (
      of.table,
      inside.1,
      takes_over (paper_of b.table.shared.key) b.table.shared.table_id.slots x.id x.me _ c.args.edge g.E.Spot.edge c.requires.named of.paper of.part c.requires.edge (b.deep ∙ ap length b.same) c.requires.claimed c.requires.untaken,
    )

pub exchange-value-requires : goal.exchange-value-requires
exchange-value-requires g c =
    let took = c.load.ensures.2.1 in (
      c.load.ensures.0 ∙ c.requires.of.table,
      (Some took.0, last_slot c.load.new.seat.me.1 c.args.seat.now.seat.me.1 c.args.edge g.E.Spot.edge (Some took.0) c.requires.named took.2),
    )

pub load-requires-2 : goal.load-requires-2
load-requires-2 g c =
    let b = c.args.self.now in
    let of = c.requires.of in
    let v = c.args.seat.now.seat.me.0 in
    let out = rest c.load.new.seat.me.1 in
    let inside = inside_of c.as_slice.result.now b.edges b.table.shared.key.edges (length b.table.shared.key.jobs) b.table.shared.table_id.words c.args.edge c.as_slice.ensures.value b.same c.requires.edge b.forward b.wide.1 in
    let is = c.exchange-value.ensures.3 ∙ ap (λ w. (w, (c.args.edge, None) ∷ out)) c.load.ensures.2.0 in (
      c.exchange-value.ensures.0 ∙ (c.load.ensures.0 ∙ of.table),
      inside.1,
      returns_over (paper_of b.table.shared.key) b.table.shared.table_id.slots c.exchange-value.new.seat.id c.exchange-value.new.seat.me v out _ c.args.edge g.E.Spot.edge is c.requires.named of.paper of.part c.requires.edge,
    )
