use Rattle.std.proofs.Common.{◌∙◌, length}
use Rattle.disk_log.specs.Keeping.{told_lists}
use Rattle.validator_process.proofs.Kept.{more_whole}
use Rattle.validator_process.proofs.Made.{identity_added, identity_alone, identity_each, nothing_each}
use Rattle.validator_process.proofs.making.keep_identity.Goals as goal

pub returns-in-Err-clause-each : goal.returns-in-Err-clause-each
returns-in-Err-clause-each g c = nothing_each c.args.member c.args.text.now (g.F.Disk.history c.args.log.now.disk) c.args.log.now.end (length c.args.log.now.counts) c.args.log.now.shut c.requires.whole (g.met.F.Disk.seen c.args.log.now.disk)

pub returns-in-Err-clause-more : goal.returns-in-Err-clause-more
returns-in-Err-clause-more g c = more_whole (g.F.Disk.history c.args.log.now.disk) c.args.log.now.end (g.F.Disk.failed c.args.log.now.disk) c.args.log.now.shut c.requires.whole (g.met.F.Disk.seen c.args.log.now.disk)

pub returns-in-Ok-keep-clause-adds : goal.returns-in-Ok-keep-clause-adds
returns-in-Ok-keep-clause-adds g c =
    identity_added c.args.member c.args.text.now c.genesis_digest-genesis.result c.as_slice.result.now (told_lists (g.F.Disk.history c.args.log.now.disk) c.args.log.now.end (length c.args.log.now.counts)) (told_lists (g.F.Disk.history c.keep.new.log.disk) c.keep.new.log.end (length c.keep.new.log.counts)) c.genesis_digest-genesis.ensures (c.as_slice.ensures.value ∙ c.in-Ok.ensures) c.in-Ok-keep.ensures.adds

pub returns-in-Ok-keep-clause-alone : goal.returns-in-Ok-keep-clause-alone
returns-in-Ok-keep-clause-alone g c =
    identity_alone (g.F.Disk.history c.args.log.now.disk) (g.F.Disk.history c.keep.new.log.disk) c.args.log.now.end c.keep.new.log.end c.keep.new.log.shut c.args.member c.args.text.now c.genesis_digest-genesis.result c.as_slice.result.now c.genesis_digest-genesis.ensures (c.as_slice.ensures.value ∙ c.in-Ok.ensures) c.requires.empty (g.met.F.Disk.seen c.keep.new.log.disk) c.in-Ok-keep.ensures.exactly c.in-Ok-keep.ensures.whole

pub returns-clause-each : goal.returns-clause-each
returns-clause-each g c =
    identity_each c.args.member c.args.text.now (told_lists (g.F.Disk.history c.args.log.now.disk) c.args.log.now.end (length c.args.log.now.counts)) c.genesis_digest-genesis.result c.as_slice.result.now (length c.keep.new.log.counts) (g.F.Disk.history c.keep.new.log.disk) c.genesis_digest-genesis.ensures (c.as_slice.ensures.value ∙ c.in-Ok.ensures) c.in-Err-keep.ensures.each
