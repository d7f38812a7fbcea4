use Rattle.std.proofs.Common.{Err, ap, ◌∙◌}
use Rattle.committee_core.proofs.Voting.{never_bad, opened_as}
use Rattle.committee_core.proofs.desk.opened_member.Goals as goal

pub unreachable-requires : goal.unreachable-requires
unreachable-requires g c = never_bad _ _ c.args.keeper.now c.in-Err-BadRecord.field-0-0 c.requires (c.replay.ensures.bad c.in-Err-BadRecord.field-0-0 (c.in-Err-BadRecord.is ∙ ap Err c.in-Err-BadRecord.field-0-is))

pub returns-in-Ok-clause-member : goal.returns-in-Ok-clause-member
returns-in-Ok-clause-member g c = opened_as _ c.args.world.now.opening c.args.keeper.now c.args.world.now.terms c.in-Ok.replayed c.requires c.in-Ok.ensures.ok
