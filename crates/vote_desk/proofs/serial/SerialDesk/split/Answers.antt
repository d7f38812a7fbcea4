use Rattle.std.proofs.Common.{arith}
use Rattle.vote_desk.specs.Kept.{Stands}
use Rattle.vote_desk.specs.Passes.{opening}
use Rattle.vote_desk.proofs.Moves.{splits}
use Rattle.vote_desk.proofs.serial.SerialDesk.split.Goals as goal

pub split_seat-requires : goal.split_seat-requires
split_seat-requires g c =
    let d = c.args.self.now in
    let x = c.args.pass.now.seat in
    let wide = c.requires.of.wide in (c.requires.of.table, omega (arith, wide), splits (Stands g.C.Clerk.step g.C.Clerk.state) (opening g.C.Clerk.state d) x.id x.me.0 c.requires.share)
