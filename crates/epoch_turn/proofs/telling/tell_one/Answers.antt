use Rattle.epoch_turn.proofs.Told.{told_next}
use Rattle.epoch_turn.proofs.telling.tell_one.Goals as goal

pub returns-clause-told : goal.returns-clause-told
returns-clause-told c = told_next c.admit.result c.args.held.now c.args.admission.now.admission.admitted c.args.place c.args.chain.now c.admit.new.self c.in-Some.due c.requires.told c.in-Some.ensures c.admit.ensures.ok
