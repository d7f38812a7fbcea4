use Rattle.std.proofs.Common.{arith}
use Rattle.vote_desk.specs.Kept.{Stands}
use Rattle.vote_desk.specs.Passes.{opening}
use Rattle.vote_desk.proofs.Calls.{holds_taken}
use Rattle.vote_desk.proofs.Moves.{takes_slot}
use Rattle.vote_desk.proofs.serial.SerialDesk.take.Goals as goal

pub compare_exchange-requires : goal.compare_exchange-requires
compare_exchange-requires g c =
    let d = c.args.self.now in
    let x = c.args.pass.now.seat in
    let of = c.requires.of in
    let wide = of.wide in (of.table, omega (arith, wide), takes_slot (Stands g.C.Clerk.step g.C.Clerk.state) (opening g.C.Clerk.state d) d.table.shared.table_id.slots x.id x.me of.part of.same)

pub returns-clause-taken : goal.returns-clause-taken
returns-clause-taken g c = let told = c.compare_exchange.ensures in holds_taken g.C.Clerk.step g.C.Clerk.state c.args.self.now c.args.pass.now record { seat = c.compare_exchange.new.seat } c.compare_exchange.result _ c.requires.of told.0 told.2
