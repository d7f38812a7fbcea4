use Rattle.std.proofs.Common.{inl}
use Rattle.committee_core.proofs.Replays.{keeps_held, seven_not_six, seven_not_whole}
use Rattle.committee_core.proofs.replay.replay_schedule.Goals as goal
use Rattle.validator_core.proofs.Settling.{keeps_same}

pub returns-in-Ok-clause-known : goal.returns-in-Ok-clause-known
returns-in-Ok-clause-known g c = c.replay_member-status.ensures.known

pub returns-in-Ok-clause-stays : goal.returns-in-Ok-clause-stays
returns-in-Ok-clause-stays g c = c.replay_member-status.ensures.stays

pub returns-in-Ok-clause-whole : goal.returns-in-Ok-clause-whole
returns-in-Ok-clause-whole g c = c.replay_member-status.ensures.whole

pub returns-in-Ok-clause-write_fault : goal.returns-in-Ok-clause-write_fault
returns-in-Ok-clause-write_fault g c = c.replay_member-status.ensures.write_fault

pub returns-in-Ok-clause-bad : goal.returns-in-Ok-clause-bad
returns-in-Ok-clause-bad g c = c.replay_member-status.ensures.bad

pub returns-in-Ok-clause-cut : goal.returns-in-Ok-clause-cut
returns-in-Ok-clause-cut g c = c.replay_member-status.ensures.cut

pub returns-in-Err-clause-stays : goal.returns-in-Err-clause-stays
returns-in-Err-clause-stays g c = keeps_same (g.D.Keeper.lists c.args.keeper.now)

pub returns-in-Err-clause-whole : goal.returns-in-Err-clause-whole
returns-in-Err-clause-whole g c = λ is. seven_not_whole is

pub returns-in-Err-clause-bad : goal.returns-in-Err-clause-bad
returns-in-Err-clause-bad g c = λ is. seven_not_six is

pub returns-in-Err-clause-cut : goal.returns-in-Err-clause-cut
returns-in-Err-clause-cut g c = λ is. inl (keeps_held (g.K.Sink.held c.args.sink.now))
