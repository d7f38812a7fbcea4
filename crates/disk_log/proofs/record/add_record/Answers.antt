use Rattle.std.proofs.Common.{arith}
use Rattle.disk_log.proofs.Recording.{record-refused, record-done, put-quiet, gate-quiet}
use Rattle.disk_log.proofs.record.add_record.Goals as goal

pub put-requires-clause-quiet : goal.put-requires-clause-quiet
put-requires-clause-quiet g c = gate-quiet _ _ c.requires.gate

pub returns-in-Err-clause-recorded : goal.returns-in-Err-clause-recorded
returns-in-Err-clause-recorded g c =
    record-refused _ _ _ _ _ c.args.body.now _ c.requires.body c.requires.gate (omega (arith, c.requires.short)) (omega (arith, c.ranges.member.fits)) c.in-Err.ensures.put

pub put-requires-2-clause-quiet : goal.put-requires-2-clause-quiet
put-requires-2-clause-quiet g c = put-quiet _ _ _ _ c.in-Ok.ensures.put

pub returns-clause-recorded : goal.returns-clause-recorded
returns-clause-recorded g c =
    record-done _ _ _ _ _ _ c.args.body.now _ c.requires.body c.requires.gate (omega (arith, c.requires.short)) (omega (arith, c.ranges.member.fits)) c.in-Ok.ensures.put (rw c.as_slice.ensures at c.put-2.ensures.put)
