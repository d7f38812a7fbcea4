use Rattle.std.proofs.Common.{inl}
use Rattle.world_core.specs.Trusts.{trust_by}
use Rattle.committee_core.proofs.Members.{read_committee}
use Rattle.committee_core.proofs.Replays.{bad_read, cut_read, cut_refused, keeps_held, known_refused, known_schedule, refused_not_six, refused_with, seven_not_said, seven_not_six, whole_read, whole_refused}
use Rattle.committee_core.proofs.replay.replay_text.Goals as goal

pub replay_schedule-requires-clause-committee : goal.replay_schedule-requires-clause-committee
replay_schedule-requires-clause-committee g c = read_committee c.args.text.now c.in-Ok.schedule c.in-Ok.ensures.ok

pub returns-in-Ok-clause-whole : goal.returns-in-Ok-clause-whole
returns-in-Ok-clause-whole g c = λ is. whole_read (trust_by (g.S.MakesSeals.made c.args.sealer.now) (g.S.Checker.accepts c.args.sealer.now)) c.args.member c.args.text.now c.in-Ok.schedule _ _ _ c.replay_schedule.result c.in-Ok.ensures.ok c.replay_schedule.ensures.known c.replay_schedule.ensures.whole is

pub returns-in-Ok-clause-bad : goal.returns-in-Ok-clause-bad
returns-in-Ok-clause-bad g c = λ is. bad_read (trust_by (g.S.MakesSeals.made c.args.sealer.now) (g.S.Checker.accepts c.args.sealer.now)) c.args.member c.args.text.now c.in-Ok.schedule _ _ _ c.in-Ok.ensures.ok (c.replay_schedule.ensures.bad is)

pub returns-in-Ok-clause-cut : goal.returns-in-Ok-clause-cut
returns-in-Ok-clause-cut g c = λ is. cut_read (trust_by (g.S.MakesSeals.made c.args.sealer.now) (g.S.Checker.accepts c.args.sealer.now)) c.args.member c.args.text.now c.in-Ok.schedule _ _ _ c.in-Ok.ensures.ok (c.replay_schedule.ensures.cut is)

pub returns-in-Err-Refused-clause-whole : goal.returns-in-Err-Refused-clause-whole
returns-in-Err-Refused-clause-whole g c = λ is. whole_refused (trust_by (g.S.MakesSeals.made c.args.sealer.now) (g.S.Checker.accepts c.args.sealer.now)) c.args.member c.args.text.now (record { line = c.in-Err-Refused.line; cause = c.in-Err-Refused.cause }) _ _ _ c.say_refused.result (refused_with c.args.text.now c.in-Err-Refused.field-0 c.in-Err-Refused.line c.in-Err-Refused.cause c.in-Err-Refused.ensures.err c.in-Err-Refused.field-0-is) c.say_refused.ensures.known c.say_refused.ensures.written is

pub returns-in-Err-Refused-clause-bad : goal.returns-in-Err-Refused-clause-bad
returns-in-Err-Refused-clause-bad g c = λ is. refused_not_six c.say_refused.result c.say_refused.ensures.known is

pub returns-in-Err-Refused-clause-cut : goal.returns-in-Err-Refused-clause-cut
returns-in-Err-Refused-clause-cut g c = λ is. cut_refused (trust_by (g.S.MakesSeals.made c.args.sealer.now) (g.S.Checker.accepts c.args.sealer.now)) c.args.member c.args.text.now _ _ _ (record { line = c.in-Err-Refused.line; cause = c.in-Err-Refused.cause }) (refused_with c.args.text.now c.in-Err-Refused.field-0 c.in-Err-Refused.line c.in-Err-Refused.cause c.in-Err-Refused.ensures.err c.in-Err-Refused.field-0-is) (c.say_refused.ensures.cut is)

pub returns-in-Err-OutOfMemory-clause-whole : goal.returns-in-Err-OutOfMemory-clause-whole
returns-in-Err-OutOfMemory-clause-whole g c = λ is. seven_not_said is

pub returns-in-Err-OutOfMemory-clause-bad : goal.returns-in-Err-OutOfMemory-clause-bad
returns-in-Err-OutOfMemory-clause-bad g c = λ is. seven_not_six is

pub returns-in-Err-OutOfMemory-clause-cut : goal.returns-in-Err-OutOfMemory-clause-cut
returns-in-Err-OutOfMemory-clause-cut g c = λ is. inl (keeps_held (g.K.Sink.held c.args.sink.now))

pub returns-in-Ok-clause-known : goal.returns-in-Ok-clause-known
returns-in-Ok-clause-known g c = known_schedule c.replay_schedule.result c.replay_schedule.ensures.known

pub returns-in-Err-Refused-clause-known : goal.returns-in-Err-Refused-clause-known
returns-in-Err-Refused-clause-known g c = known_refused c.say_refused.result c.say_refused.ensures.known
