use Rattle.std.proofs.Common.{◌++◌, ◌∷◌, [], List, Option, ℕ, Bool, length, refl, sym, subst, ◌∙◌, arith}
use Rattle.outside.specs.Lists.{Journals}
use Rattle.disk_log.specs.Keeping.{told_lists}
use Rattle.validator_process.specs.declared.stop.Stop.TheVariants as stop
use Rattle.validator_process.specs.Serving.{Next, Serves, ServesSome, around}
use Rattle.validator_process.proofs.Along.{none_more, same_member, same_up, serves_none, serves_push}
use Rattle.validator_process.proofs.Growing.{more_then}
use Rattle.validator_process.proofs.Kept.{each_whole, more_whole}
use Rattle.validator_process.proofs.serving.serve.Goals as goal

pub loop-init : goal.loop-init
loop-init g c =
    let accepts = g.S.Checker.accepts c.args.sealer.now in
    let left = g.I.Source.left c.args.source.now in
    let held = g.K.Sink.held c.args.sink.now in
    let kept = (told_lists (g.F.Disk.history c.args.log.now.disk) c.args.log.now.end (length c.args.log.now.counts)) in
    let seat = c.args.validator.now in
    record {
      served = ([], subst (λ (pending : List ℕ). Serves accepts [] (around [] left held kept seat) (around pending left held kept seat)) (sym c.requires.new) (serves_none accepts (around [] left held kept seat)));
      member = c.requires.member;
      up = c.requires.up;
      whole = c.requires.whole;
      more = more_whole (g.F.Disk.history c.args.log.now.disk) c.args.log.now.end (g.F.Disk.failed c.args.log.now.disk) c.args.log.now.shut c.requires.whole (g.met.F.Disk.seen c.args.log.now.disk);
      width = refl;
      read_later = omega arith;
      later = omega arith;
      said_later = omega arith;
    }

pub loop-preserved : goal.loop-preserved
loop-preserved g c =
    let accepts = g.S.Checker.accepts c.args.sealer.now in
    let first = around [] (g.I.Source.left c.args.source.now) (g.K.Sink.held c.args.sink.now) (told_lists (g.F.Disk.history c.args.log.now.disk) c.args.log.now.end (length c.args.log.now.counts)) c.args.validator.now in
    let mid = around c.loop.reader (g.I.Source.left c.loop.source) (g.K.Sink.held c.loop.sink) (told_lists (g.F.Disk.history c.loop.log.disk) c.loop.log.end (length c.loop.log.counts)) c.loop.validator in
    let now = around c.serve_next.new.reader (g.I.Source.left c.serve_next.new.source) (g.K.Sink.held c.serve_next.new.sink) (told_lists (g.F.Disk.history c.serve_next.new.log.disk) c.serve_next.new.log.end (length c.serve_next.new.log.counts)) c.serve_next.new.validator in
    let next = subst (λ (b : Bool). Next accepts mid now b) c.if-not-branch.false c.in_ok-serve_next.ensures.next in
    let served = c.loop.invariant.served in
    let all = serves_push accepts served.0 first mid served.1 next.0 now next.1 in
    record {
      served = (served.0 ++ next.0 ∷ [], all);
      member = same_member accepts (served.0 ++ next.0 ∷ []) first now all ∙ c.requires.member;
      up = same_up accepts (served.0 ++ next.0 ∷ []) first now all ∙ c.requires.up;
      whole = c.in_ok-serve_next.ensures.whole;
      more = more_then (g.F.Disk.history c.args.log.now.disk) (g.F.Disk.history c.loop.log.disk) (g.F.Disk.history c.serve_next.new.log.disk) c.args.log.now.end c.loop.log.end c.serve_next.new.log.end (g.F.Disk.failed c.loop.log.disk) (g.F.Disk.failed c.serve_next.new.log.disk)
          c.loop.invariant.more c.in_ok-serve_next.ensures.more;
      width = c.in_ok-serve_next.ensures.width ∙ c.loop.invariant.width;
      read_later = omega (arith, c.loop.invariant.read_later, c.in_ok-serve_next.ensures.read_later);
      later = omega (arith, c.loop.invariant.later, c.in_ok-serve_next.ensures.later);
      said_later = omega (arith, c.loop.invariant.said_later, c.in_ok-serve_next.ensures.said_later);
    }

pub returns-clause-cut : goal.returns-clause-cut
returns-clause-cut g c =
    let accepts = g.S.Checker.accepts c.args.sealer.now in
    let first = around [] (g.I.Source.left c.args.source.now) (g.K.Sink.held c.args.sink.now) (told_lists (g.F.Disk.history c.args.log.now.disk) c.args.log.now.end (length c.args.log.now.counts)) c.args.validator.now in
    let mid = around c.loop.reader (g.I.Source.left c.loop.source) (g.K.Sink.held c.loop.sink) (told_lists (g.F.Disk.history c.loop.log.disk) c.loop.log.end (length c.loop.log.counts)) c.loop.validator in
    let served = c.loop.invariant.served in
    none_more accepts served.0 first mid served.1

pub returns-clause-each : goal.returns-clause-each
returns-clause-each g c =
    let accepts = g.S.Checker.accepts c.args.sealer.now in
    let first = around [] (g.I.Source.left c.args.source.now) (g.K.Sink.held c.args.sink.now) (told_lists (g.F.Disk.history c.args.log.now.disk) c.args.log.now.end (length c.args.log.now.counts)) c.args.validator.now in
    let mid = around c.loop.reader (g.I.Source.left c.loop.source) (g.K.Sink.held c.loop.sink) (told_lists (g.F.Disk.history c.loop.log.disk) c.loop.log.end (length c.loop.log.counts)) c.loop.validator in
    let served = c.loop.invariant.served in
    each_whole (λ (lists : Option Journals). ServesSome accepts stop.OutOfMemory first (around c.loop.reader (g.I.Source.left c.loop.source) (g.K.Sink.held c.loop.sink) lists c.loop.validator))
    (g.F.Disk.history c.loop.log.disk) c.loop.log.end (length c.loop.log.counts) c.loop.log.shut c.loop.invariant.whole (g.met.F.Disk.seen c.loop.log.disk) (none_more accepts served.0 first mid served.1)
