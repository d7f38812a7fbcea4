use Rattle.std.proofs.Common.{◌<◌, arith, subst, sym}
use Rattle.std.proofs.lemmas.Bool.Decides.{nat_tests}
use Rattle.disk_log.specs.Disk.{HasExtent}
use Rattle.world_core.specs.Trusts.{trust_by}
use Rattle.validator_process.proofs.Made.{too_long}
use Rattle.validator_process.proofs.making.make_text.Goals as goal

pub returns-then-size : goal.returns-then-size
returns-then-size g c =
    let sized = subst (HasExtent (g.F.Disk.history c.args.disk)) (sym c.size.ensures.extent) (g.met.F.Disk.sized c.args.disk) in
    let more = c.if-size.true in
    let long : 66 < c.size.result = grind (arith, nat_tests) in
    too_long (trust_by (g.S.MakesSeals.made c.args.sealer.now) (g.S.Checker.accepts c.args.sealer.now)) c.args.member c.args.text.now (g.F.Disk.history c.args.disk) (g.K.Sink.held c.args.sink.now) (g.K.Sink.held c.say_ended.new.sink)
    (g.K.Sink.faults c.args.sink.now) (g.K.Sink.faults c.say_ended.new.sink) (g.F.Disk.failed c.args.disk) c.say_ended.result c.size.result sized long c.say_ended.ensures
