use Rattle.std.proofs.Common.{Err, ap, inl}
use Rattle.committee_core.specs.Follow.{unrefused, unsaid}
use Rattle.committee_core.proofs.Caught.{front_of}
use Rattle.committee_core.proofs.follow.follow_text.Goals as goal

pub returns-in-Ok-clause-cut : goal.returns-in-Ok-clause-cut
returns-in-Ok-clause-cut g c = λ is. unsaid c.in-Ok.verdict c.in-Ok.ensures.finds c.in-Ok.ensures.steady (c.say_verdict.ensures.cut is)

pub returns-in-Err-Refused-clause-cut : goal.returns-in-Err-Refused-clause-cut
returns-in-Err-Refused-clause-cut g c = λ is.
    let refused = c.in-Err-Refused.ensures.refused c.in-Err-Refused.line c.in-Err-Refused.cause (ap Err c.in-Err-Refused.field-0-is) in
    unrefused (record { line = c.in-Err-Refused.line; cause = c.in-Err-Refused.cause }) refused.0 refused.1 (c.say_refused.ensures.cut is)

pub returns-in-Err-KeepFault-clause-keep_fault : goal.returns-in-Err-KeepFault-clause-keep_fault
returns-in-Err-KeepFault-clause-keep_fault g c = λ is.
    inl (c.in-Err-KeepFault.ensures.keep_fault (ap Err c.in-Err-KeepFault.field-0-is), front_of c.args.text.now c.args.member _ _ _ c.in-Err-KeepFault.ensures.cut)

pub returns-in-Err-OutOfMemory-clause-cut : goal.returns-in-Err-OutOfMemory-clause-cut
returns-in-Err-OutOfMemory-clause-cut g c = λ is. front_of c.args.text.now c.args.member _ _ _ c.in-Err-OutOfMemory.ensures.cut
