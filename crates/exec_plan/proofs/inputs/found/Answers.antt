use Rattle.std.proofs.Common.{◌∙◌, sym}
use Rattle.version_store.specs.Stores.{held_in}
use Rattle.exec_plan.proofs.Joined.{nobody_made}
use Rattle.exec_plan.proofs.inputs.found.Goals as goal

pub returns-in-None : goal.returns-in-None
returns-in-None c = nobody_made (held_in c.args.store.now) c.args.want.now (sym c.maker.ensures ∙ c.in-None.is)
