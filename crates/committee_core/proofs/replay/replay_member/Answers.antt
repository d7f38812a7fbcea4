use Rattle.std.proofs.Common.{sym, ◌∙◌}
use Rattle.world_core.specs.Trusts.{trust_by}
use Rattle.committee_core.proofs.Replays.{cut_none, known_honest, known_none, none_not_six, whole_honest, whole_none}
use Rattle.committee_core.proofs.replay.replay_member.Goals as goal
use Rattle.validator_core.proofs.Settling.{keeps_same}

pub returns-then-is_honest-clause-whole : goal.returns-then-is_honest-clause-whole
returns-then-is_honest-clause-whole g c = λ is. whole_honest _ c.args.member _ _ _ c.replay_honest.result c.replay_honest.ensures.known c.replay_honest.ensures.whole is

pub returns-then-is_honest-clause-bad : goal.returns-then-is_honest-clause-bad
returns-then-is_honest-clause-bad g c = c.replay_honest.ensures.bad

pub returns-then-is_honest-clause-cut : goal.returns-then-is_honest-clause-cut
returns-then-is_honest-clause-cut g c = c.replay_honest.ensures.cut

pub returns-clause-whole : goal.returns-clause-whole
returns-clause-whole g c = λ is. whole_none (trust_by (g.S.MakesSeals.made c.args.sealer.now) (g.S.Checker.accepts c.args.sealer.now)) c.args.schedule.now c.args.member _ _ _ c.say_no_member.result (sym c.is_honest.ensures ∙ c.if-is_honest.false) c.say_no_member.ensures.known c.say_no_member.ensures.written is

pub returns-clause-bad : goal.returns-clause-bad
returns-clause-bad g c = λ is. none_not_six c.say_no_member.result c.say_no_member.ensures.known is

pub returns-clause-cut : goal.returns-clause-cut
returns-clause-cut g c = λ is. cut_none (trust_by (g.S.MakesSeals.made c.args.sealer.now) (g.S.Checker.accepts c.args.sealer.now)) c.args.schedule.now c.args.member _ _ _ (sym c.is_honest.ensures ∙ c.if-is_honest.false) (c.say_no_member.ensures.cut is)

pub returns-then-is_honest-clause-known : goal.returns-then-is_honest-clause-known
returns-then-is_honest-clause-known g c = known_honest c.replay_honest.result c.replay_honest.ensures.known

pub returns-clause-known : goal.returns-clause-known
returns-clause-known g c = known_none c.say_no_member.result c.say_no_member.ensures.known

pub replay_honest-requires-clause-honest : goal.replay_honest-requires-clause-honest
replay_honest-requires-clause-honest g c = sym c.is_honest.ensures ∙ c.if-is_honest.true

pub returns-then-is_honest-clause-stays : goal.returns-then-is_honest-clause-stays
returns-then-is_honest-clause-stays g c = c.replay_honest.ensures.stays

pub returns-then-is_honest-clause-write_fault : goal.returns-then-is_honest-clause-write_fault
returns-then-is_honest-clause-write_fault g c = c.replay_honest.ensures.write_fault

pub returns-clause-stays : goal.returns-clause-stays
returns-clause-stays g c = keeps_same (g.D.Keeper.lists c.args.keeper.now)

pub returns-clause-write_fault : goal.returns-clause-write_fault
returns-clause-write_fault g c = c.say_no_member.ensures.write_fault
