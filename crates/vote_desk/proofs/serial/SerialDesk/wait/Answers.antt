use Rattle.vote_desk.proofs.Calls.{holds_later}
use Rattle.vote_desk.proofs.serial.SerialDesk.wait.Goals as goal

pub returns-then-take : goal.returns-then-take
returns-then-take g c = record { holds = holds_later g.C.Clerk.step g.C.Clerk.state c.args.self.now c.args.pass.now c.loop.pass c.take.new.pass c.loop.invariant.3 c.if-take.ensures.taken }
