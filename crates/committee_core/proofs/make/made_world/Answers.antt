use Rattle.std.proofs.Common.{◌∙◌, Err, ap}
use Rattle.committee_core.proofs.Made.{kept_cut, kept_none, not_bad, ran_made}
use Rattle.committee_core.proofs.make.made_world.Goals as goal

pub returns-in_default-clause-cut : goal.returns-in_default-clause-cut
returns-in_default-clause-cut g c = kept_none c.generated_text_is_a_schedule.ensures c.args.number c.requires.high _ c.requires.empty

pub returns-in-Ok-world_behind-clause-ok : goal.returns-in-Ok-world_behind-clause-ok
returns-in-Ok-world_behind-clause-ok g c =
    ran_made c.generated_text_is_a_schedule.ensures c.args.number c.requires.high c.as_slice.result.now (c.as_slice.ensures.value ∙ c.in-Ok.ensures) _ _ _ c.in-Ok-world_behind.ensures.ran

pub returns-in-Err-KeepFault-clause-cut : goal.returns-in-Err-KeepFault-clause-cut
returns-in-Err-KeepFault-clause-cut g c =
    kept_cut c.generated_text_is_a_schedule.ensures c.args.number c.requires.high c.as_slice.result.now (c.as_slice.ensures.value ∙ c.in-Ok.ensures) _ _ c.in-Err-KeepFault.ensures.cut

pub unreachable-requires-in-Err-BadRecord : goal.unreachable-requires-in-Err-BadRecord
unreachable-requires-in-Err-BadRecord g c =
    not_bad c.generated_text_is_a_schedule.ensures c.args.number c.requires.high c.as_slice.result.now (c.as_slice.ensures.value ∙ c.in-Ok.ensures) _ (c.in-Err-BadRecord.ensures.bad (ap Err c.in-Err-BadRecord.field-0-is))

pub returns-clause-cut : goal.returns-clause-cut
returns-clause-cut g c =
    kept_cut c.generated_text_is_a_schedule.ensures c.args.number c.requires.high c.as_slice.result.now (c.as_slice.ensures.value ∙ c.in-Ok.ensures) _ _ c.in-Err-OutOfMemory.ensures.cut
