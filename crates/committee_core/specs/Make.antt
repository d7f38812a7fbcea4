-- What the program promises of `make N`: it runs the generator's schedule of N transactions, whose late member runs on
-- 4 workers, and writes one line, the summary.
use Rattle.std.specs.Prelude.{◌≡◌, ◌⊎◌, ℕ, List, Option, Some, Ok, slice_get}
use Rattle.std.specs.Io.KnownBytes.{Appends}
use Rattle.outside.specs.Causes.{Rose}
use Rattle.outside.specs.Lists.{Journals}
use Rattle.report_text.specs.declared.lines.Line.TheVariants as line
use Rattle.report_text.specs.Text.{text_of}
use Rattle.schedule_make.specs.Make.{make_text_of}
use Rattle.schedule_text.specs.declared.words.Schedule.{Schedule}
use Rattle.schedule_text.specs.Schedule.{schedule_of}
use Rattle.protocol_spec.specs.Member.Member.{Member}
use Rattle.world_spec.specs.Scene.{Scene}
use Rattle.world_spec.specs.World.{member_at}
use Rattle.world_spec.specs.Run.{Sums, sums_of, world_after}
use Rattle.world_core.specs.declared.sums.Sums as sums_type
use Rattle.world_core.specs.Sums as told
use Rattle.committee_core.specs.Headline.{HoldsAlong, program_trust}
use Rattle.committee_core.specs.Journals.{KeepsFronts, KeepsRun}
use Rattle.committee_core.specs.Outside.{Outside}
use Rattle.committee_core.specs.Report.{setting_in}
use Rattle.outside.specs.Streams.{AppendsFront}

-- `make N: transactions A checkpoints B objects C sum D`
abbrev pub summary_text : ℕ → Sums → List ℕ
summary_text number sums = text_of (line.Make number sums.transactions sums.checkpoints sums.objects sums.sum)

-- the schedule that is made, and member 0 after its whole run; the headline holds at each moment of it
pub record IsMade (number : ℕ) (s : Schedule) (m : Member) : Type 0 where
  pub is : schedule_of (make_text_of number 4) ≡ Ok s
  pub stands : member_at (setting_in program_trust s) (world_after (setting_in program_trust s) s.events) 0 ≡ Some m
  pub holds : HoldsAlong s

-- what the code sees of the world after it has the sums of its member 0, and its records were kept
pub record RunsMade (number : ℕ) (kept kept' : Option Journals) (sc : Scene) : Type 0 where
  pub schedule : Schedule
  pub member : Member
  pub made : IsMade number schedule member
  pub sums : told.sums_at (slice_get sc.posts 0) ≡ Some (told.sums_of member)
  pub journals : KeepsRun program_trust schedule kept kept'

-- the made schedule ran, its records were kept, and these are the sums of its member 0
pub record IsSummed (number : ℕ) (kept kept' : Option Journals) (given : sums_type.Sums) : Type 0 where
  pub schedule : Schedule
  pub member : Member
  pub made : IsMade number schedule member
  pub is : given ≡ told.sums_of member
  pub journals : KeepsRun program_trust schedule kept kept'

-- the made schedule ran for a while: prefixes of its records were kept
pub record KeepsMade (number : ℕ) (kept kept' : Option Journals) : Type 0 where
  pub schedule : Schedule
  pub member : Member
  pub made : IsMade number schedule member
  pub journals : KeepsFronts program_trust schedule kept kept'

-- the summary of member 0 was written, and the records of the run were kept
pub record MakesWhole (number : ℕ) (held held' : Option (List ℕ)) (kept kept' : Option Journals) : Type 0 where
  pub schedule : Schedule
  pub member : Member
  pub made : IsMade number schedule member
  pub written : Appends held held' (summary_text number (sums_of member))
  pub journals : KeepsRun program_trust schedule kept kept'

-- a prefix of the summary was written, and prefixes of the records were kept
pub record MakesFront (number : ℕ) (held held' : Option (List ℕ)) (kept kept' : Option Journals) : Type 0 where
  pub schedule : Schedule
  pub member : Member
  pub made : IsMade number schedule member
  pub written : AppendsFront held held' (summary_text number (sums_of member))
  pub journals : KeepsFronts program_trust schedule kept kept'

-- how `make N` may end, by its status; the source is not touched
pub record MakeEnds (number : ℕ) (before now : Outside) (status : ℕ) : Type 0 where
  pub known : (status ≡ 0) ⊎ (status ≡ 5) ⊎ (status ≡ 6) ⊎ (status ≡ 7)
  pub unread : (now.left ≡ before.left) × (now.read_faults ≡ before.read_faults)
  pub whole : status ≡ 0 → MakesWhole number before.held now.held before.kept now.kept
  pub steady : status ≡ 0 → Rose before.keep_faults now.keep_faults → ⊥
  pub write_fault : status ≡ 5 → Rose before.write_faults now.write_faults
  pub keep_fault : status ≡ 6 → Rose before.keep_faults now.keep_faults
  pub cut : (status ≡ 5) ⊎ (status ≡ 6) ⊎ (status ≡ 7) → MakesFront number before.held now.held before.kept now.kept
