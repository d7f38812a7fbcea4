use Rattle.std.proofs.Common.{◌≡◌, length}
use Rattle.schedule_text.specs.Known.{each_check, member_check}
use Rattle.schedule_text.proofs.reading.Reading.members_check.Given as goal

abbrev pub invariant-loop-rest : goal.invariant-loop-rest
invariant-loop-rest l = each_check (member_check l.self.schedule) l.rest ≡ each_check (member_check l.self.schedule) l.members

abbrev pub decreases-loop-rest : goal.decreases-loop-rest
decreases-loop-rest l = length l.rest
