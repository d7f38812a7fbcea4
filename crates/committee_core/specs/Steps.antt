-- What the run of one event leaves, in terms of the scene (the code's view of the world).
use Rattle.std.specs.Prelude.{◌≡◌, ℕ, true, false, List, Option, Ok, slice_get}
use Rattle.std.specs.Io.KnownBytes.{Appends, Keeps}
use Rattle.outside.specs.Lists.{Journals}
use Rattle.report_text.specs.declared.lines.Line.{Line}
use Rattle.schedule_text.specs.declared.words.Event.{Event}
use Rattle.schedule_text.specs.declared.words.Event.TheVariants as event
use Rattle.world_spec.specs.Setting.{Trust}
use Rattle.world_spec.specs.Scene.{Scene, rules_in}
use Rattle.world_spec.specs.SceneSteps.{AddsLine, MayAddLine, lines_in, records_left, steps_to, work_of}
use Rattle.world_spec.specs.SceneWorlds.{AreKeepable, is_restart}
use Rattle.world_core.specs.Restarts.{RestartsAs, StaysDown}
use Rattle.committee_core.specs.Report.{lines_text}
use Rattle.outside.specs.Streams.{AppendsFront}
use Rattle.committee_core.specs.Ways.{bad_record_text}

-- the event was taken and gives these lines; each entry that was ordered before it can be kept
pub record IsTaken (trust : Trust) (e : Event) (sc now : Scene) (told told' : Option Journals) (given : List Line) : Type 0 where
  pub scene : is_restart e ≡ false → now ≡ steps_to trust sc e
  pub lines : is_restart e ≡ false → given ≡ lines_in trust sc e
  pub kept : AddsLine (records_left (rules_in trust.accepts sc) sc (work_of sc e)) told told'
  pub keepable : AreKeepable sc.sequences
  pub restart : (m : ℕ) → e ≡ event.Restart m → RestartsAs trust.accepts told m sc now (slice_get sc.posts m) (Ok given)

-- the event was taken, and its lines were written
pub record Passes (trust : Trust) (e : Event) (sc now : Scene) (told told' : Option Journals) (held held' : Option (List ℕ)) : Type 0 where
  pub given : List Line
  pub taken : IsTaken trust e sc now told told' given
  pub written : Appends held held' (lines_text given)

-- the event was taken, but of its lines only a prefix was written
pub record IsUnwritten (trust : Trust) (e : Event) (sc : Scene) (told told' : Option Journals) (held held' : Option (List ℕ)) : Type 0 where
  pub now : Scene
  pub given : List Line
  pub taken : IsTaken trust e sc now told told' given
  pub written : AppendsFront held held' (lines_text given)

-- the event was not completed: nothing is written for it, and it left some of its records or none
pub record IsUntaken (trust : Trust) (e : Event) (sc : Scene) (told told' : Option Journals) (held held' : Option (List ℕ)) : Type 0 where
  pub kept : MayAddLine (records_left (rules_in trust.accepts sc) sc (work_of sc e)) told told'
  pub written : Keeps held held'

-- the event restarts a member, and a record that is read back is bad
pub record ReadsBad (trust : Trust) (e : Event) (sc : Scene) (told : Option Journals) (member place : ℕ) : Type 0 where
  pub restarts : is_restart e ≡ true
  pub keepable : AreKeepable sc.sequences
  pub stays : (m : ℕ) → e ≡ event.Restart m → StaysDown trust.accepts told m sc member place

-- the event restarts a member with a bad record, and the line that says so was written as `Writes` says
pub record IsBadRecord (trust : Trust) (e : Event) (sc : Scene) (told : Option Journals) (Writes : Option (List ℕ) → Option (List ℕ) → List ℕ → Type 0) (held held' : Option (List ℕ)) : Type 0 where
  pub member : ℕ
  pub place : ℕ
  pub reads : ReadsBad trust e sc told member place
  pub written : Writes held held' (bad_record_text member place)

-- how a run may end in this event: it was not taken, its lines were not all written, or the line of its bad record was
-- not
pub data IsCutAt (trust : Trust) (e : Event) (sc : Scene) (told told' : Option Journals) (held held' : Option (List ℕ)) : Type 0 where
  untaken : IsUntaken trust e sc told told' held held' → IsCutAt trust e sc told told' held held'
  unwritten : IsUnwritten trust e sc told told' held held' → IsCutAt trust e sc told told' held held'
  unsaid : IsBadRecord trust e sc told AppendsFront held held' → IsCutAt trust e sc told told' held held'
