use Rattle.std.specs.Io.KnownBytes.{Appends}
use Rattle.inspect.proofs.Asked.{ran_cut, ran_said}
use Rattle.inspect.proofs.Statuses.{world_cut, world_not_six, world_not_three, world_text}
use Rattle.inspect.proofs.ask.ask_text.Goals as goal

pub returns-in-Ok-clause-known : goal.returns-in-Ok-clause-known
returns-in-Ok-clause-known g c = world_text c.say_of-status.result c.say_of-status.ensures.known

pub returns-in-Ok-clause-whole : goal.returns-in-Ok-clause-whole
returns-in-Ok-clause-whole g c = λ said. ran_said c.args.question.now c.args.text.now c.say_of-status.result (Appends (g.K.Sink.held c.args.sink.now) (g.K.Sink.held c.say_of-status.new.sink)) _ _ c.in-Ok.world c.in-Ok.ensures.ran (c.say_of-status.ensures.written said)

pub returns-in-Ok-clause-refused : goal.returns-in-Ok-clause-refused
returns-in-Ok-clause-refused g c = λ is. world_not_three c.say_of-status.result c.say_of-status.ensures.known is

pub returns-in-Ok-clause-keep_fault : goal.returns-in-Ok-clause-keep_fault
returns-in-Ok-clause-keep_fault g c = λ is. world_not_six c.say_of-status.result c.say_of-status.ensures.known is

pub returns-in-Ok-clause-unsaid : goal.returns-in-Ok-clause-unsaid
returns-in-Ok-clause-unsaid g c = λ is. world_not_six c.say_of-status.result c.say_of-status.ensures.known is

pub returns-in-Ok-clause-cut : goal.returns-in-Ok-clause-cut
returns-in-Ok-clause-cut g c = λ is. ran_cut c.args.question.now c.args.text.now _ _ _ _ c.in-Ok.world c.in-Ok.ensures.ran (c.say_of-status.ensures.cut (world_cut c.say_of-status.result c.say_of-status.ensures.known is))
