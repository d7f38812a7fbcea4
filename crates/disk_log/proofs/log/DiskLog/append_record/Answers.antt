use Rattle.std.proofs.Common.{◌≡◌, ℕ, ◌+◌, ◌*◌, ◌^◌, ◌<◌, ◌≤◌, Bool, true, false, length, map, refl, sym, ◌∙◌, ap, subst, arith, length-set}
use Rattle.std.proofs.lemmas.List.{length-map}
use Rattle.disk_log.specs.declared.moment.Span.{Span}
use Rattle.disk_log.specs.Disk.{IfTold}
use Rattle.disk_log.specs.Keeping.{IsGood, IsKept}
use Rattle.disk_log.specs.Log.{Rows, IsInside, IsReady, row_of, with_span}
use Rattle.disk_log.proofs.Appending.{full, lands, fails, goes-on-without, counts-more}
use Rattle.disk_log.proofs.Listing.{inside-with}
use Rattle.disk_log.proofs.log.DiskLog.append_record.Goals as goal

is-known : (rows : Rows) (m : ℕ) → m < length (map length rows) → m < length rows
is-known rows m lt = omega (arith, length-map rows length)

pub returns-then-self-count-ge-LIMIT-clause-appends : goal.returns-then-self-count-ge-LIMIT-clause-appends
returns-then-self-count-ge-LIMIT-clause-appends g c =
    rw (← c.self.view_is) (λ _. full _ _ c.self.inside.index _ _ c.self.invariant.kept (c.self.invariant.ready c.if-self.false))

pub invariant_of-self : goal.invariant_of-self
invariant_of-self g c =
    let known = is-known c.self.inside.index c.args.member (rw (← c.self.view_is) at c.requires.known) in
    let all = lands _ _ c.self.inside.end c.args.member c.args.bytes.now c.self.inside.index c.self.invariant.inside known (omega (arith, c.requires.short)) (omega (arith, c.ranges.member.fits)) c.self.invariant.kept c.in-Ok.ensures.recorded in
    let next : Rows = with_span c.self.inside.index c.args.member (record { at = c.self.inside.end + 9; count = length c.args.bytes.now }) in
    subst (λ (r : Rows). IsGood (g.K.Disk.history c.append_to.new.disk) (g.K.Disk.extent c.append_to.new.disk) (c.self.inside.end + 9 + length c.args.bytes.now) c.self.inside.members c.self.inside.shut r) (sym c.in-Ok.ensures.ok) (record {
      width = length-set c.self.inside.index c.args.member _ ∙ c.self.invariant.width;
      inside = inside-with c.self.inside.end (c.self.inside.end + 9 + length c.args.bytes.now) c.self.inside.index c.args.member (record { at = c.self.inside.end + 9; count = length c.args.bytes.now }) (omega arith) (omega arith) known c.self.invariant.inside;
      gate = c.in-Ok.ensures.reach;
      limit = omega (arith, c.if-self-count-ge-LIMIT.false);
      kept = all.1;
      ready = λ _. all.2;
    })

pub invariant_of-self-in-Err-OutOfMemory : goal.invariant_of-self-in-Err-OutOfMemory
invariant_of-self-in-Err-OutOfMemory g c =
    let all = goes-on-without _ _ c.self.inside.end c.args.member c.args.bytes.now c.self.inside.index c.self.invariant.kept (rw c.in-Err-OutOfMemory.field-0-is at c.in-Err-OutOfMemory.ensures.recorded) in
    subst (λ (r : Rows). IsGood (g.K.Disk.history c.append_to.new.disk) (g.K.Disk.extent c.append_to.new.disk) c.self.inside.end c.self.inside.members c.self.inside.shut r) (sym c.in-Err-OutOfMemory.ensures.err) (record {
      width = c.self.invariant.width;
      inside = c.self.invariant.inside;
      gate = omega (arith, c.self.invariant.gate, c.append_to.ensures.extent);
      limit = c.self.invariant.limit;
      kept = all.1;
      ready = λ _. all.2;
    })

pub invariant_of-self-in-Err-Failed : goal.invariant_of-self-in-Err-Failed
invariant_of-self-in-Err-Failed g c =
    let all = fails _ _ c.self.inside.end c.args.member c.args.bytes.now c.self.inside.index c.self.invariant.kept (rw c.in-Err-Failed.field-0-is at c.in-Err-Failed.ensures.recorded) in
    subst (λ (r : Rows). IsGood (g.K.Disk.history c.append_to.new.disk) (g.K.Disk.extent c.append_to.new.disk) c.self.inside.end c.self.inside.members true r) (sym c.in-Err-Failed.ensures.err) (record {
      width = c.self.invariant.width;
      inside = c.self.invariant.inside;
      gate = omega (arith, c.self.invariant.gate, c.append_to.ensures.extent);
      limit = c.self.invariant.limit;
      kept = all.1;
      ready = λ no. absurd (cc);
    })

pub returns-in-Ok-clause-appends : goal.returns-in-Ok-clause-appends
returns-in-Ok-clause-appends g c =
    let known = is-known c.self.inside.index c.args.member (rw (← c.self.view_is) at c.requires.known) in
    let all = lands _ _ c.self.inside.end c.args.member c.args.bytes.now c.self.inside.index c.self.invariant.inside known (omega (arith, c.requires.short)) (omega (arith, c.ranges.member.fits)) c.self.invariant.kept c.in-Ok.ensures.recorded in
    rw (← c.self.view_is) (λ _. all.0)

pub returns-in-Ok-clause-counts : goal.returns-in-Ok-clause-counts
returns-in-Ok-clause-counts g c =
    rw (← c.self.view_is, c.in-Ok.ensures.ok) (counts-more c.self.inside.index c.args.member (record { at = c.self.inside.end + 9; count = length c.args.bytes.now }))

pub returns-in-Err-OutOfMemory-clause-appends : goal.returns-in-Err-OutOfMemory-clause-appends
returns-in-Err-OutOfMemory-clause-appends g c =
    let all = goes-on-without _ _ c.self.inside.end c.args.member c.args.bytes.now c.self.inside.index c.self.invariant.kept (rw c.in-Err-OutOfMemory.field-0-is at c.in-Err-OutOfMemory.ensures.recorded) in
    rw (← c.self.view_is) (λ _. all.0)

pub returns-in-Err-Failed-clause-appends : goal.returns-in-Err-Failed-clause-appends
returns-in-Err-Failed-clause-appends g c =
    let all = fails _ _ c.self.inside.end c.args.member c.args.bytes.now c.self.inside.index c.self.invariant.kept (rw c.in-Err-Failed.field-0-is at c.in-Err-Failed.ensures.recorded) in
    rw (← c.self.view_is) (λ _. all.0)
