use Rattle.std.proofs.Common.{◌∙◌, length, subst, sym, ◌<◌, ℕ, arith}
use Rattle.disk_log.specs.Keeping.{told_lists}
use Rattle.committee_core.specs.Calling.{call_count}
use Rattle.committee_core.proofs.CallLists.{read_as, read_before_if}
use Rattle.committee_core.proofs.call_log.read_from.Goals as goal

pub returns-then-place-count-clause-record : goal.returns-then-place-count-clause-record
returns-then-place-count-clause-record g c =
    read_before_if (told_lists (g.F.Disk.history c.args.log.now.disk) c.args.log.now.end (length c.args.log.now.counts)) c.args.unfinished.now c.args.member c.count.result c.args.place c.read.result
    c.count.ensures.told c.if-place-count.true c.read.ensures.record

pub returns-in-Ok-clause-record : goal.returns-in-Ok-clause-record
returns-in-Ok-clause-record g c =
    read_as (g.F.Disk.history c.args.log.now.disk) c.args.log.now.end c.args.log.now.counts c.args.unfinished.now c.in-Some.last c.in-Ok.bytes c.args.member c.count.result c.args.place
    c.in-Some.is (c.in-Ok.ensures ∙ c.as_slice.ensures.value) c.count.ensures.size c.requires.next c.count.ensures.told (λ lt. let past = c.if-place-count.false in omega (arith, past, lt))
    (subst (λ (n : ℕ). c.args.place < call_count c.args.unfinished.now c.args.member n) (sym c.count.ensures.size) c.requires.place)
