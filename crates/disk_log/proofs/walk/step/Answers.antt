use Rattle.std.proofs.Common.{sym, subst, ◌+◌}
use Rattle.std.proofs.Common.{◌<◌, length, arith}
use Rattle.disk_log.specs.Disk.{IfTold}
use Rattle.disk_log.specs.Log.{IsWalked, Rows, IsNext}
use Rattle.disk_log.proofs.Walking.{told-on}
use Rattle.disk_log.proofs.walk.step.Goals as goal

pub returns-in-Ok-clause-more : goal.returns-in-Ok-clause-more
returns-in-Ok-clause-more g c =
    let known : c.in-Ok-Some.head.member < length c.args.index.now = omega (arith, c.members.ensures, c.if-head-members.false) in
    let on = told-on (g.K.Disk.history c.args.disk.now) c.args.at c.args.index.now c.in-Ok-Some.head.member c.in-Ok-Some.head.count known c.requires.inside c.requires.walked (rw c.in-Ok-Some.field-0-is at c.in-Ok-Some.ensures.next) in
    subst (λ (r : Rows). IfTold (g.K.Disk.history c.args.disk.now) (λ h. IsWalked (c.args.at + 9 + c.in-Ok-Some.head.count) r h.now.reads)) (sym c.in-Ok.ensures.ok) on
