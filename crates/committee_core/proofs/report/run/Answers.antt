use Rattle.std.proofs.Common.{Err, List, ap, inl, inr, subst, sym, ℕ}
use Rattle.schedule_text.specs.Schedule.{longest_text}
use Rattle.outside.specs.Streams.{ReadsText}
use Rattle.validator_core.proofs.Settling.{keeps_same}
use Rattle.committee_core.specs.Headline.{program_trust}
use Rattle.committee_core.proofs.Ended.{bad, cut, refused, whole}
use Rattle.committee_core.proofs.Members.{read_committee}
use Rattle.committee_core.proofs.Replays.{refused_with}
use Rattle.committee_core.proofs.Whole.{schedule_cut}
use Rattle.committee_core.proofs.report.run.Goals as goal

pub run_schedule-requires-clause-committee : goal.run_schedule-requires-clause-committee
run_schedule-requires-clause-committee g c κs within = read_committee c.as_slice.result.now c.in-Ok-read_schedule.schedule c.in-Ok-read_schedule.ensures.ok

pub returns-in-Err-Refused-clause-refused : goal.returns-in-Err-Refused-clause-refused
returns-in-Err-Refused-clause-refused g c = λ is.
    let read = subst (λ (text : List ℕ). ReadsText longest_text (g.S.Source.left c.args.source.now) (g.S.Source.left c.read_text.new.source) text) (sym c.as_slice.ensures.value) c.in-Ok.ensures.ok in
    let why = refused_with c.as_slice.result.now c.in-Err-Refused.field-0 c.in-Err-Refused.line c.in-Err-Refused.cause c.in-Err-Refused.ensures.err c.in-Err-Refused.field-0-is in
    refused _ _ _ _ _ _ c.as_slice.result.now read (record { line = c.in-Err-Refused.line; cause = c.in-Err-Refused.cause }, why, c.say_refused.ensures.written is, keeps_same (g.D.Keeper.lists c.args.keeper.now))

pub returns-in-Ok-run_schedule-clause-whole : goal.returns-in-Ok-run_schedule-clause-whole
returns-in-Ok-run_schedule-clause-whole g c = λ is.
    let read = subst (λ (text : List ℕ). ReadsText longest_text (g.S.Source.left c.args.source.now) (g.S.Source.left c.read_text.new.source) text) (sym c.as_slice.ensures.value) c.in-Ok.ensures.ok in
    whole _ _ _ _ _ _ c.as_slice.result.now read (c.in-Ok-read_schedule.schedule, c.in-Ok-read_schedule.ensures.ok, rw (sym c.program_sealer-sealer.ensures) c.in-Ok-run_schedule.ensures.ok)

pub returns-in-Err-WriteFault-clause-cut : goal.returns-in-Err-WriteFault-clause-cut
returns-in-Err-WriteFault-clause-cut g c = λ is.
    let read = subst (λ (text : List ℕ). ReadsText longest_text (g.S.Source.left c.args.source.now) (g.S.Source.left c.read_text.new.source) text) (sym c.as_slice.ensures.value) c.in-Ok.ensures.ok in
    cut _ _ _ _ _ _ c.as_slice.result.now read
    (schedule_cut program_trust c.as_slice.result.now c.in-Ok-read_schedule.schedule _ _ _ _ c.in-Ok-read_schedule.ensures.ok (rw (sym c.program_sealer-sealer.ensures) c.in-Err-WriteFault.ensures.cut))

pub returns-in-Err-KeepFault-clause-keep_fault : goal.returns-in-Err-KeepFault-clause-keep_fault
returns-in-Err-KeepFault-clause-keep_fault g c = λ is.
    let read = subst (λ (text : List ℕ). ReadsText longest_text (g.S.Source.left c.args.source.now) (g.S.Source.left c.read_text.new.source) text) (sym c.as_slice.ensures.value) c.in-Ok.ensures.ok in
    inl (
      c.in-Err-KeepFault.ensures.keep_fault (ap Err c.in-Err-KeepFault.field-0-is),
      cut _ _ _ _ _ _ c.as_slice.result.now read
          (schedule_cut program_trust c.as_slice.result.now c.in-Ok-read_schedule.schedule _ _ _ _ c.in-Ok-read_schedule.ensures.ok (rw (sym c.program_sealer-sealer.ensures) c.in-Err-KeepFault.ensures.cut)),
    )

pub returns-in-Err-BadRecord-clause-keep_fault : goal.returns-in-Err-BadRecord-clause-keep_fault
returns-in-Err-BadRecord-clause-keep_fault g c = λ is.
    let read = subst (λ (text : List ℕ). ReadsText longest_text (g.S.Source.left c.args.source.now) (g.S.Source.left c.read_text.new.source) text) (sym c.as_slice.ensures.value) c.in-Ok.ensures.ok in
    inr (bad _ _ _ _ _ c.as_slice.result.now read
    (c.in-Ok-read_schedule.schedule, c.in-Ok-read_schedule.ensures.ok, rw (sym c.program_sealer-sealer.ensures) (c.in-Err-BadRecord.ensures.bad (ap Err c.in-Err-BadRecord.field-0-is))))

pub returns-in-Err-OutOfMemory-run_schedule-clause-cut : goal.returns-in-Err-OutOfMemory-run_schedule-clause-cut
returns-in-Err-OutOfMemory-run_schedule-clause-cut g c = λ is.
    let read = subst (λ (text : List ℕ). ReadsText longest_text (g.S.Source.left c.args.source.now) (g.S.Source.left c.read_text.new.source) text) (sym c.as_slice.ensures.value) c.in-Ok.ensures.ok in
    cut _ _ _ _ _ _ c.as_slice.result.now read
    (schedule_cut program_trust c.as_slice.result.now c.in-Ok-read_schedule.schedule _ _ _ _ c.in-Ok-read_schedule.ensures.ok (rw (sym c.program_sealer-sealer.ensures) c.in-Err-OutOfMemory-run_schedule.ensures.cut))
