use Rattle.std.proofs.Common.{◌∙◌}
use Rattle.tables.proofs.Lookups.{goes_last}
use Rattle.tables.proofs.entries.insert_new.Goals as goal

pub returns-clause-ok : goal.returns-clause-ok
returns-clause-ok g c = c.in_ok-insert.ensures.entries ∙ goes_last g.K.PartialEq.eq c.args.map.now.entries c.args.key c.args.value c.requires
