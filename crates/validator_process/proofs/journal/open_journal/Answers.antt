use Rattle.std.proofs.Common.{subst}
use Rattle.disk_log.specs.Log.{WalkCause}
use Rattle.validator_process.proofs.Ended.{unopened_bad}
use Rattle.validator_process.proofs.journal.open_journal.Goals as goal

pub returns-in-Err-default-BadMember-clause-cause : goal.returns-in-Err-default-BadMember-clause-cause
returns-in-Err-default-BadMember-clause-cause g c =
    unopened_bad (g.F.Disk.history c.args.disk) _ _ c.in-Err-default-BadMember.field-0-1-0 (subst (WalkCause (g.F.Disk.failed c.args.disk) (g.F.Disk.failed c.in-Err-default-BadMember.disk) (g.F.Disk.history c.args.disk) 65) c.in-Err-default-BadMember.field-0-1-is c.in-Err-default-BadMember.ensures.cause)
