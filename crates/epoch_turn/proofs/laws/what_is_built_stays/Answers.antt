use Rattle.epoch_turn.proofs.Staying.{built_executed, built_held, chained_grows}
use Rattle.epoch_turn.proofs.laws.what_is_built_stays.Goals as goal

pub returns-clause-held : goal.returns-clause-held
returns-clause-held c = built_held

pub returns-clause-executed : goal.returns-clause-executed
returns-clause-executed c = built_executed

pub returns-clause-grows : goal.returns-clause-grows
returns-clause-grows c = chained_grows
