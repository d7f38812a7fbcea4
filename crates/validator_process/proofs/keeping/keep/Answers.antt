use Rattle.validator_process.proofs.Kept.{more_whole}
use Rattle.validator_process.proofs.keeping.keep.Goals as goal

pub returns-then-bytes-clause-more : goal.returns-then-bytes-clause-more
returns-then-bytes-clause-more g c = more_whole (g.F.Disk.history c.args.log.now.disk) c.args.log.now.end (g.F.Disk.failed c.args.log.now.disk) c.args.log.now.shut c.requires.whole (g.met.F.Disk.seen c.args.log.now.disk)
