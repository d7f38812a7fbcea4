use Rattle.std.proofs.Common.{Err, ap, inl, inr, ◌∙◌}
use Rattle.world_core.specs.Trusts.{trust_by}
use Rattle.committee_core.proofs.Replays.{bad_not_zero, cut_bad, cut_started, keeps_held, known_bad, known_started, said_bad, said_started, seven_not_six, seven_not_zero, six_not_cut, six_not_zero, started_not_six}
use Rattle.committee_core.proofs.replay.replay_honest.Goals as goal

pub returns-in-Ok-clause-whole : goal.returns-in-Ok-clause-whole
returns-in-Ok-clause-whole g c = λ is. said_started (trust_by (g.S.MakesSeals.made c.args.sealer.now) (g.S.Checker.accepts c.args.sealer.now)) c.args.schedule.now c.args.member _ _ _ c.args.world.now c.in-Ok.replayed c.requires.opened c.requires.honest c.in-Ok.ensures.ok (c.say_started-status.ensures.written is)

pub returns-in-Ok-clause-bad : goal.returns-in-Ok-clause-bad
returns-in-Ok-clause-bad g c = λ is. started_not_six c.say_started-status.result c.say_started-status.ensures.known is

pub returns-in-Ok-clause-cut : goal.returns-in-Ok-clause-cut
returns-in-Ok-clause-cut g c = λ is. cut_started (trust_by (g.S.MakesSeals.made c.args.sealer.now) (g.S.Checker.accepts c.args.sealer.now)) c.args.schedule.now c.args.member _ _ _ c.args.world.now c.in-Ok.replayed c.requires.opened c.requires.honest c.in-Ok.ensures.ok (c.say_started-status.ensures.cut is)

pub returns-in-Err-BadRecord-clause-whole : goal.returns-in-Err-BadRecord-clause-whole
returns-in-Err-BadRecord-clause-whole g c = λ is. bad_not_zero c.say_bad_record.result c.say_bad_record.ensures.known is

pub returns-in-Err-BadRecord-clause-bad : goal.returns-in-Err-BadRecord-clause-bad
returns-in-Err-BadRecord-clause-bad g c = λ is. inl (said_bad (trust_by (g.S.MakesSeals.made c.args.sealer.now) (g.S.Checker.accepts c.args.sealer.now)) c.args.schedule.now c.args.member _ _ _ c.args.world.now c.in-Err-BadRecord.place c.requires.opened c.requires.honest (c.replay.ensures.bad c.in-Err-BadRecord.place (c.in-Err-BadRecord.is ∙ ap Err c.in-Err-BadRecord.field-0-is)) (c.say_bad_record.ensures.written is))

pub returns-in-Err-BadRecord-clause-cut : goal.returns-in-Err-BadRecord-clause-cut
returns-in-Err-BadRecord-clause-cut g c = λ is. cut_bad (trust_by (g.S.MakesSeals.made c.args.sealer.now) (g.S.Checker.accepts c.args.sealer.now)) c.args.schedule.now c.args.member _ _ _ c.args.world.now c.in-Err-BadRecord.place c.requires.opened c.requires.honest (c.replay.ensures.bad c.in-Err-BadRecord.place (c.in-Err-BadRecord.is ∙ ap Err c.in-Err-BadRecord.field-0-is)) (c.say_bad_record.ensures.cut is)

pub returns-in-Err-KeepFault-clause-whole : goal.returns-in-Err-KeepFault-clause-whole
returns-in-Err-KeepFault-clause-whole g c = λ is. six_not_zero is

pub returns-in-Err-KeepFault-clause-bad : goal.returns-in-Err-KeepFault-clause-bad
returns-in-Err-KeepFault-clause-bad g c = λ is. inr (c.replay.ensures.fault (c.in-Err-KeepFault.is ∙ ap Err c.in-Err-KeepFault.field-0-is), keeps_held (g.K.Sink.held c.args.sink.now))

pub returns-in-Err-KeepFault-clause-cut : goal.returns-in-Err-KeepFault-clause-cut
returns-in-Err-KeepFault-clause-cut g c = λ is. six_not_cut is

pub returns-in-Err-OutOfMemory-clause-whole : goal.returns-in-Err-OutOfMemory-clause-whole
returns-in-Err-OutOfMemory-clause-whole g c = λ is. seven_not_zero is

pub returns-in-Err-OutOfMemory-clause-bad : goal.returns-in-Err-OutOfMemory-clause-bad
returns-in-Err-OutOfMemory-clause-bad g c = λ is. seven_not_six is

pub returns-in-Err-OutOfMemory-clause-cut : goal.returns-in-Err-OutOfMemory-clause-cut
returns-in-Err-OutOfMemory-clause-cut g c = λ is. inl (keeps_held (g.K.Sink.held c.args.sink.now))

pub returns-in-Ok-clause-known : goal.returns-in-Ok-clause-known
returns-in-Ok-clause-known g c = known_started c.say_started-status.result c.say_started-status.ensures.known

pub returns-in-Err-BadRecord-clause-known : goal.returns-in-Err-BadRecord-clause-known
returns-in-Err-BadRecord-clause-known g c = known_bad c.say_bad_record.result c.say_bad_record.ensures.known
