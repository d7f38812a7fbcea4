use Rattle.std.proofs.Common.{◌≡◌, ◌⊎◌, ℕ, List, subst}
use Rattle.std.specs.Io.KnownBytes.{Appends}
use Rattle.outside.specs.Causes.{Rose}
use Rattle.inspect.specs.Ends.{CutsText, MeetsBad, Refuses, RunsAndSays}
use Rattle.inspect.proofs.ask.ask_part.Goals as goal

pub returns-clause-whole : goal.returns-clause-whole
returns-clause-whole g c = λ said.
    subst (λ (text : List ℕ). RunsAndSays c.args.question.now text c.ask_text.result (Appends (g.K.Sink.held c.args.sink.now) (g.K.Sink.held c.ask_text.new.sink)) (g.D.Keeper.lists c.args.keeper.now) (g.D.Keeper.lists c.ask_text.new.keeper))
    c.part_of.ensures (c.ask_text.ensures.whole said)

pub returns-clause-refused : goal.returns-clause-refused
returns-clause-refused g c = λ is.
    subst (λ (text : List ℕ). Refuses text (g.K.Sink.held c.args.sink.now) (g.K.Sink.held c.ask_text.new.sink) (g.D.Keeper.lists c.args.keeper.now) (g.D.Keeper.lists c.ask_text.new.keeper))
    c.part_of.ensures (c.ask_text.ensures.refused is)

pub returns-clause-keep_fault : goal.returns-clause-keep_fault
returns-clause-keep_fault g c = λ is.
    subst (λ (text : List ℕ). Rose (g.D.Keeper.failed c.args.keeper.now) (g.D.Keeper.failed c.ask_text.new.keeper) ⊎ MeetsBad text (g.D.Keeper.lists c.args.keeper.now))
    c.part_of.ensures (c.ask_text.ensures.keep_fault is)

pub returns-clause-cut : goal.returns-clause-cut
returns-clause-cut g c = λ is.
    subst (λ (text : List ℕ). CutsText c.args.question.now text (g.K.Sink.held c.args.sink.now) (g.K.Sink.held c.ask_text.new.sink) (g.D.Keeper.lists c.args.keeper.now) (g.D.Keeper.lists c.ask_text.new.keeper))
    c.part_of.ensures (c.ask_text.ensures.cut is)
