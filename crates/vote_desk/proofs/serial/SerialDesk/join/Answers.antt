use Rattle.std.proofs.Common.{◌∙◌, arith}
use Rattle.vote_desk.specs.Kept.{Stands}
use Rattle.vote_desk.specs.Passes.{opening}
use Rattle.vote_desk.proofs.Calls.{is_joined, joins_fronts, joins_apart}
use Rattle.vote_desk.proofs.Moves.{joins, looks}
use Rattle.vote_desk.proofs.serial.SerialDesk.join.Goals as goal

pub join_seat-requires : goal.join_seat-requires
join_seat-requires g c =
    let d = c.args.self.now in
    let one = c.requires.one in
    let other = c.requires.other in
    let wide = c.requires.one.wide in (
      one.table,
      other.table,
      other.clear,
      omega (arith, wide),
      joins (Stands g.C.Clerk.step g.C.Clerk.state) (opening g.C.Clerk.state d) c.args.one.seat.id c.args.other.seat.id c.args.one.seat.me.0 c.args.other.seat.me.0 one.part one.calm other.calm,
    )

pub load-requires : goal.load-requires
load-requires g c =
    let d = c.args.self.now in
    let wide = c.requires.one.wide in
    let x = c.join_seat.new.seat in (
      c.join_seat.ensures.0 ∙ c.requires.one.table,
      omega (arith, wide),
      looks (Stands g.C.Clerk.step g.C.Clerk.state) (opening g.C.Clerk.state d) d.table.shared.table_id.slots x.id x.me,
    )

pub returns-clause-of : goal.returns-clause-of
returns-clause-of g c =
    is_joined g.C.Clerk.step g.C.Clerk.state c.args.self.now c.args.one c.args.other record { seat = c.load.new.seat } c.join_seat.new.seat.me _ c.load.result c.requires.one c.requires.other (c.load.ensures.0 ∙ c.join_seat.ensures.0) c.join_seat.ensures.2 c.load.ensures.2

pub returns-clause-front : goal.returns-clause-front
returns-clause-front g c = joins_fronts c.args.one c.args.other record { seat = c.load.new.seat } c.join_seat.new.seat.me _ c.load.result c.join_seat.ensures.2 c.load.ensures.2

pub returns-clause-apart : goal.returns-clause-apart
returns-clause-apart g c = joins_apart c.args.one c.args.other record { seat = c.load.new.seat } c.join_seat.new.seat.me _ c.load.result c.join_seat.ensures.2 c.load.ensures.2
