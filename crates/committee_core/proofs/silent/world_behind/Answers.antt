use Rattle.committee_core.proofs.Members.{read_committee}
use Rattle.committee_core.proofs.silent.world_behind.Goals as goal

pub run_schedule-requires-clause-committee : goal.run_schedule-requires-clause-committee
run_schedule-requires-clause-committee g c κs within = read_committee c.args.text.now c.in-Ok.schedule c.in-Ok.ensures.ok
