use Rattle.sui_validator.proofs.Opened.{is_opened}
use Rattle.sui_validator.proofs.opening.start_from.Goals as goal

pub returns-in-Ok : goal.returns-in-Ok
returns-in-Ok g c = is_opened (record { stakes = c.args.committee.now; writers = c.args.writers }) (g.S.Checker.accepts c.args.sealer.now) c.args.opening.now c.args.number c.args.kept.now c.in-Ok.validator c.in-Ok.ensures
