use Rattle.ptb_run.proofs.Keeping.{read_is}
use Rattle.ptb_run.proofs.drawn.read_or_hash.Goals as goal

pub returns-in-Some : goal.returns-in-Some
returns-in-Some c = read_is c.args.tx.now c.args.ids.now c.args.number c.in-Some.id.now c.requires c.in-Some.ensures.lookup.3.0 c.in-Some.ensures.lookup.1
