use Rattle.std.proofs.Common.{List, ℕ, inl, inr, subst, sym}
use Rattle.schedule_text.specs.Schedule.{longest_text}
use Rattle.outside.specs.Streams.{ReadsText}
use Rattle.committee_core.proofs.Replays.{bad_of, four_not_cut, four_not_said, four_not_six, keeps_held, known_read, says_of, seven_not_said, seven_not_six}
use Rattle.committee_core.proofs.replay.replay.Goals as goal

pub returns-in-Ok-clause-whole : goal.returns-in-Ok-clause-whole
returns-in-Ok-clause-whole g c = λ is.
    let read = subst (λ (text : List ℕ). ReadsText longest_text (g.S.Source.left c.args.source.now) (g.S.Source.left c.read_text.new.source) text) (sym c.as_slice.ensures.value) c.in-Ok.ensures.ok in
    says_of c.args.member _ _ _ c.as_slice.result.now read (c.replay_read.ensures.whole is)

pub returns-in-Ok-clause-bad : goal.returns-in-Ok-clause-bad
returns-in-Ok-clause-bad g c = λ is.
    let read = subst (λ (text : List ℕ). ReadsText longest_text (g.S.Source.left c.args.source.now) (g.S.Source.left c.read_text.new.source) text) (sym c.as_slice.ensures.value) c.in-Ok.ensures.ok in
    bad_of c.args.member _ _ _ c.as_slice.result.now read (c.replay_read.ensures.bad is)

pub returns-in-Ok-clause-cut : goal.returns-in-Ok-clause-cut
returns-in-Ok-clause-cut g c = λ is.
    let read = subst (λ (text : List ℕ). ReadsText longest_text (g.S.Source.left c.args.source.now) (g.S.Source.left c.read_text.new.source) text) (sym c.as_slice.ensures.value) c.in-Ok.ensures.ok in
    inr (says_of c.args.member _ _ _ c.as_slice.result.now read (c.replay_read.ensures.cut is))

pub returns-in-Err-Failed-clause-whole : goal.returns-in-Err-Failed-clause-whole
returns-in-Err-Failed-clause-whole g c = λ is. four_not_said is

pub returns-in-Err-Failed-clause-bad : goal.returns-in-Err-Failed-clause-bad
returns-in-Err-Failed-clause-bad g c = λ is. four_not_six is

pub returns-in-Err-Failed-clause-cut : goal.returns-in-Err-Failed-clause-cut
returns-in-Err-Failed-clause-cut g c = λ is. four_not_cut is

pub returns-in-Err-OutOfMemory-clause-whole : goal.returns-in-Err-OutOfMemory-clause-whole
returns-in-Err-OutOfMemory-clause-whole g c = λ is. seven_not_said is

pub returns-in-Err-OutOfMemory-clause-bad : goal.returns-in-Err-OutOfMemory-clause-bad
returns-in-Err-OutOfMemory-clause-bad g c = λ is. seven_not_six is

pub returns-in-Err-OutOfMemory-clause-cut : goal.returns-in-Err-OutOfMemory-clause-cut
returns-in-Err-OutOfMemory-clause-cut g c = λ is. inl (keeps_held (g.K.Sink.held c.args.sink.now))

pub returns-in-Ok-clause-known : goal.returns-in-Ok-clause-known
returns-in-Ok-clause-known g c = known_read c.replay_read.result c.replay_read.ensures.known
