use Rattle.committee_core.proofs.Opening.{fresh_lists}
use Rattle.committee_core.proofs.desk.world_of.Goals as goal

pub run_schedule-requires-clause-empty : goal.run_schedule-requires-clause-empty
run_schedule-requires-clause-empty g c κs within = fresh_lists 64 c.in_ok-keeper.keeper c.in_ok-keeper.ensures
