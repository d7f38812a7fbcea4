use Rattle.std.proofs.Common.{inl, inr, refl}
use Rattle.std.proofs.KnownBytes.{Keeps-refl}
use Rattle.std.specs.Io.KnownBytes.{Appends}
use Rattle.inspect.specs.Sight.{sight_behind}
use Rattle.inspect.proofs.Asked.{answer_known, answer_written, is_said}
use Rattle.inspect.proofs.Statuses.{said_or_fault}
use Rattle.inspect.proofs.ask.say_of.Goals as goal

pub say-requires : goal.say-requires
say-requires g c = is_said c.args.question.now (sight_behind c.args.world.now c.args.text.now) c.in-Ok.answer.status c.in-Ok.answer.text c.in-Ok.ensures

pub returns-in-Ok-clause-known : goal.returns-in-Ok-clause-known
returns-in-Ok-clause-known g c = answer_known c.say.result c.in-Ok.answer.status (is_said c.args.question.now (sight_behind c.args.world.now c.args.text.now) c.in-Ok.answer.status c.in-Ok.answer.text c.in-Ok.ensures) c.say.ensures.known

pub returns-in-Ok-clause-written : goal.returns-in-Ok-clause-written
returns-in-Ok-clause-written g c = λ said.
    answer_written c.args.question.now (sight_behind c.args.world.now c.args.text.now) c.say.result c.in-Ok.answer.status c.in-Ok.answer.text (Appends (g.K.Sink.held c.args.sink.now) (g.K.Sink.held c.say.new.sink))
    c.in-Ok.ensures c.say.ensures.known c.say.ensures.written said

pub returns-in-Ok-clause-cut : goal.returns-in-Ok-clause-cut
returns-in-Ok-clause-cut g c = λ is. inr (c.in-Ok.answer.status, (c.in-Ok.answer.text, c.in-Ok.ensures, c.say.ensures.cut is))

pub returns-in-Err-clause-written : goal.returns-in-Err-clause-written
returns-in-Err-clause-written g c = λ said. said_or_fault 7 said (inr refl)

pub returns-in-Err-clause-cut : goal.returns-in-Err-clause-cut
returns-in-Err-clause-cut g c = λ is. inl (Keeps-refl (g.K.Sink.held c.args.sink.now))
