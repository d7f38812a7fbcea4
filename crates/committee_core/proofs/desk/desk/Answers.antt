use Rattle.std.proofs.Common.{List, ℕ, inl, subst, sym}
use Rattle.schedule_text.specs.Schedule.{longest_text}
use Rattle.outside.specs.Streams.{ReadsText}
use Rattle.committee_core.proofs.Replays.{four_not_cut, four_not_said, keeps_held, seven_not_said}
use Rattle.committee_core.proofs.Voting.{desk_cut, desk_whole, known_desk}
use Rattle.committee_core.proofs.desk.desk.Goals as goal

pub returns-in-Ok-clause-known : goal.returns-in-Ok-clause-known
returns-in-Ok-clause-known g c = known_desk c.desk_read.result c.desk_read.ensures.known

pub returns-in-Ok-clause-whole : goal.returns-in-Ok-clause-whole
returns-in-Ok-clause-whole g c = λ is.
    let read = subst (λ (text : List ℕ). ReadsText longest_text (g.S.Source.left c.args.source.now) (g.S.Source.left c.read_text.new.source) text) (sym c.as_slice.ensures.value) c.in-Ok.ensures.ok in
    desk_whole c.args.callers _ _ _ _ c.as_slice.result.now read c.desk_read.result (c.desk_read.ensures.whole is)

pub returns-in-Ok-clause-cut : goal.returns-in-Ok-clause-cut
returns-in-Ok-clause-cut g c = λ is.
    let read = subst (λ (text : List ℕ). ReadsText longest_text (g.S.Source.left c.args.source.now) (g.S.Source.left c.read_text.new.source) text) (sym c.as_slice.ensures.value) c.in-Ok.ensures.ok in
    desk_cut c.args.callers _ _ _ _ c.as_slice.result.now read (c.desk_read.ensures.cut is)

pub returns-in-Err-Failed-clause-whole : goal.returns-in-Err-Failed-clause-whole
returns-in-Err-Failed-clause-whole g c = λ is. four_not_said is

pub returns-in-Err-Failed-clause-cut : goal.returns-in-Err-Failed-clause-cut
returns-in-Err-Failed-clause-cut g c = λ is. four_not_cut is

pub returns-in-Err-OutOfMemory-clause-whole : goal.returns-in-Err-OutOfMemory-clause-whole
returns-in-Err-OutOfMemory-clause-whole g c = λ is. seven_not_said is

pub returns-in-Err-OutOfMemory-clause-cut : goal.returns-in-Err-OutOfMemory-clause-cut
returns-in-Err-OutOfMemory-clause-cut g c = λ is. inl (keeps_held (g.K.Sink.held c.args.sink.now))
