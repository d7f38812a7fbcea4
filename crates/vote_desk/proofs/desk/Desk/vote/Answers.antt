use Rattle.std.proofs.Common.{subst}
use Rattle.vote_desk.specs.Desks.{Asks}
use Rattle.vote_desk.proofs.Benches.{asks_of}
use Rattle.vote_desk.proofs.desk.Desk.vote.Goals as goal

pub returns-in-Ok-Ok-clause-answer : goal.returns-in-Ok-Ok-clause-answer
returns-in-Ok-Ok-clause-answer g c =
    subst (Asks c.args.self.now c.args.pass.now record { pass = c.call.new.pass } c.args.bytes.now) c.in-Ok-Ok.field-0-is
    (asks_of c.args.self.now c.args.pass.now record { pass = c.call.new.pass } c.args.bytes.now c.in-Ok.asked c.in-Ok-Ok.field-0 c.in-Ok.ensures c.in-Ok-Ok.ensures.made)

pub returns-in-Ok-Err-clause-answer : goal.returns-in-Ok-Err-clause-answer
returns-in-Ok-Err-clause-answer g c =
    subst (Asks c.args.self.now c.args.pass.now record { pass = c.call.new.pass } c.args.bytes.now) c.in-Ok-Err.field-0-is
    (asks_of c.args.self.now c.args.pass.now record { pass = c.call.new.pass } c.args.bytes.now c.in-Ok.asked c.in-Ok-Err.field-0 c.in-Ok.ensures c.in-Ok-Err.ensures.made)
