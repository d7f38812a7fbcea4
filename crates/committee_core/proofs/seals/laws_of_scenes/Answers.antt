use Rattle.std.proofs.Common.{refl}
use Rattle.committee_core.specs.Headline.{program_trust}
use Rattle.committee_core.proofs.Ended.{read_starts}
use Rattle.committee_core.proofs.seals.laws_of_scenes.Goals as goal

pub returns : goal.returns
returns c = record {
  first = c.steps_of_a_world.ensures.first program_trust;
  steps = c.steps_of_a_world.ensures.steps program_trust;
  lines = c.steps_of_a_world.ensures.lines program_trust;
  restart = c.steps_of_a_world.ensures.restart program_trust;
  restarted = c.steps_of_a_world.ensures.restarted;
  told = c.records_of_a_world.ensures.told program_trust;
  cut = c.records_of_a_world.ensures.cut program_trust;
  fronts = c.records_of_a_world.ensures.fronts;
  ahead = c.records_of_a_world.ensures.ahead;
  restarts = read_starts c.restarts_of_a_run.ensures.read program_trust refl;
}
