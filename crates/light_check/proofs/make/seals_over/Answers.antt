use Rattle.light_check.proofs.Sealing.{all_seals}
use Rattle.light_check.proofs.make.seals_over.Goals as goal

pub returns-clause-members : goal.returns-clause-members
returns-clause-members g c = (all_seals (g.S.Checker.accepts c.args.sealer.now) c.args.bytes.now c.args.members.now c.loop-rest.rest.now c.loop-rest.seals c.in_default.len_below c.loop-rest.invariant).0

pub returns-clause-accepted : goal.returns-clause-accepted
returns-clause-accepted g c = (all_seals (g.S.Checker.accepts c.args.sealer.now) c.args.bytes.now c.args.members.now c.loop-rest.rest.now c.loop-rest.seals c.in_default.len_below c.loop-rest.invariant).1
