use Rattle.std.proofs.Common.{◌∙◌}
use Rattle.validator_process.proofs.Growing.{whole_stands, width_stands}
use Rattle.validator_process.proofs.starting.start_from.Goals as goal

pub returns-clause-width : goal.returns-clause-width
returns-clause-width g c = width_stands (g.F.Disk.history c.start_over.result.1.disk) c.start_over.result.1.end c.start_over.result.1.counts c.start_over.result.1.shut (g.F.Disk.history c.args.log.disk) c.args.log.end c.args.log.counts c.args.log.shut c.start_over.ensures.stands ∙ c.requires.width

pub returns-clause-whole : goal.returns-clause-whole
returns-clause-whole g c = whole_stands (g.F.Disk.history c.start_over.result.1.disk) c.start_over.result.1.end c.start_over.result.1.counts c.start_over.result.1.shut (g.F.Disk.history c.args.log.disk) c.args.log.end c.args.log.counts c.args.log.shut c.start_over.ensures.stands c.requires.whole
