use Rattle.committee_core.proofs.Opening.{fresh_kept}
use Rattle.committee_core.proofs.keeping.fresh_keeper.Goals as goal

pub returns-clause-empty : goal.returns-clause-empty
returns-clause-empty c = fresh_kept 64 (record { calls = 0; failing = c.args.failing.now }) c.new.result c.new.ensures
