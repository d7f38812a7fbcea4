use Rattle.std.proofs.Common.{◌≡◌, ◌+◌, ◌<◌, ◌^◌, [], ◌∷◌, length, ap, subst, ⊎_elim, arith, Bool}
use Rattle.disk_log.specs.Disk.{IfTold}
use Rattle.disk_log.specs.Log.{ClosedIs}
use Rattle.disk_log.proofs.Mending.{told-closed, told-unread, told-mends, read-quiet}
use Rattle.disk_log.proofs.mend.mend.Goals as goal

pub returns-in-Ok-true-clause-mended : goal.returns-in-Ok-true-clause-mended
returns-in-Ok-true-clause-mended g c = told-closed _ _ _ c.in-Ok-true.ensures.history c.requires.read
    (subst (λ (b : Bool). IfTold (g.K.Disk.history c.args.disk.now) (λ h. ClosedIs c.args.end h.now.reads b)) c.in-Ok-true.field-0-test c.in-Ok-true.ensures.closed)

pub returns-in-Err-clause-mended : goal.returns-in-Err-clause-mended
returns-in-Err-clause-mended g c = told-unread _ _ _ _ c.is_closed.ensures.history c.requires.read

pub put-requires-clause-quiet : goal.put-requires-clause-quiet
put-requires-clause-quiet g c = read-quiet (g.K.Disk.history c.args.disk.now) _ c.args.end c.in-Ok-false.ensures.history c.requires.read

pub put-requires-clause-end : goal.put-requires-clause-end
put-requires-clause-end g c =
    let one : length c.as_slice.result.now ≡ 1 = ap length c.as_slice.ensures in
    ⊎_elim (λ zero-end. omega (arith, zero-end, one)) (λ lt. omega (arith, lt, one, c.is_closed.ensures.below)) c.requires.gate

pub returns-clause-mended : goal.returns-clause-mended
returns-clause-mended g c =
    told-mends _ (g.K.Disk.history c.is_closed.new.disk) _ _ _ c.in-Ok-false.ensures.history c.requires.read
    (subst (λ (b : Bool). IfTold (g.K.Disk.history c.args.disk.now) (λ h. ClosedIs c.args.end h.now.reads b)) c.in-Ok-false.field-0-test c.in-Ok-false.ensures.closed) (rw c.as_slice.ensures at c.put.ensures.put)
