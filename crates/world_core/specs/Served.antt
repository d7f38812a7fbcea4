-- What a call on a member leaves, and what a line of the schedule does. Source: this profile.
use Rattle.std.specs.Prelude.{◌≡◌, ◌≤◌, ℕ, true, false, List, Option, Result, Ok, Err, IfOk, IsErrOf, OnErr, OnOk, is_some, length, slice_get}
use Rattle.outside.specs.Causes.{Rose}
use Rattle.outside.specs.Lists.{Journals}
use Rattle.protocol_spec.specs.Chain.Certificates.{Rules}
use Rattle.protocol_spec.specs.Member.Calls.{Call}
use Rattle.protocol_spec.specs.Member.Member.{Member}
use Rattle.report_text.specs.declared.lines.Line.{Line}
use Rattle.schedule_text.specs.declared.words.Event.{Event}
use Rattle.wire_bcs.specs.declared.seq.OutOfMemory.{OutOfMemory}
use Rattle.world_lines.specs.Pushed.{GrowsToward}
use Rattle.world_spec.specs.Posts.{reached_in, record_left}
use Rattle.world_spec.specs.Scene.{Scene, rules_in}
use Rattle.world_spec.specs.SceneSteps.{lines_in, standing_at, steps_to, work_of}
use Rattle.world_core.specs.Steps.{lines_after, scene_after}
use Rattle.world_spec.specs.SceneWorlds.{is_restart}
use Rattle.world_spec.specs.Setting.{Trust}
use Rattle.world_core.specs.declared.reply.Reply.{Reply}
use Rattle.world_core.specs.declared.reply.SeatFault.{SeatFault}
use Rattle.world_core.specs.declared.reply.SeatFault.TheVariants as seat_fault
use Rattle.world_core.specs.declared.world.WorldFault.{WorldFault}
use Rattle.world_core.specs.declared.world.WorldFault.TheVariants as fault
use Rattle.world_core.specs.Crews.{Crew, IsAble, PostsAfter}
use Rattle.world_core.specs.Cuts.{LineCut, SeenCut, books_in, orders_end}
use Rattle.world_core.specs.Kept.{LeavesAs, is_quiet}
use Rattle.world_core.specs.Replies.{Leaves, Replies}
use Rattle.world_core.specs.Restarts.{MayRestart}
use Rattle.world_core.specs.Stays.{Stays}

-- the keeper of records: its width, and its count of faults, which rose if a fault of the keeper broke off the call
pub record KeeperAfter (wide widened failed risen : ℕ) (BrokeOff : Type 0) : Type 0 where
  pub width : widened ≡ wide
  pub later : failed ≤ risen
  pub fault : BrokeOff → Rose failed risen

-- a call on a member: the reply by what became of it, the members, the record that it leaves, and when it is not completed
pub record Served {A : Type 0} (Says : Member → A → Type 0) (r : Rules) (call : Call) (m : ℕ) (old new : Crew) (before now : Option Journals) (result : Result (Reply A) SeatFault) : Type 0 where
  pub answer : IfOk result (Replies Says (reached_in r old.posts m call))
  pub posts : PostsAfter r call m old.posts new.posts result
  pub terms : new.terms ≡ old.terms
  pub many : length new.posts ≡ length old.posts
  pub kept : Leaves before now m (record_left (reached_in r old.posts m call)) result
  pub owed : IsErrOf result seat_fault.KeepFault → is_some (record_left (reached_in r old.posts m call)) ≡ true
  pub able : IsErrOf result seat_fault.OutOfMemory → IsAble (standing_at (slice_get old.posts m))

-- a line that is not a `restart`: if it was completed, the world, the report's lines and the records are the
-- definition's; if it broke off, `cut` says how far its call came, and all else is as before (`books`, `quiet`, `said`)
pub record LineAfter {E : Type 0} (trust : Trust) (old : Scene) (e : Event) (new : Scene) (before now : Option Journals) (result : Result (List Line) E) : Type 0 where
  pub world : OnOk result (new ≡ scene_after trust old e)
  pub lines : IfOk result (λ lines. lines ≡ lines_after trust old e)
  pub kept : LeavesAs (rules_in trust.accepts old) old (work_of old e) before now result
  pub cut : OnErr result (LineCut (rules_in trust.accepts old) old (work_of old e) new.posts before now)
  pub books : OnErr result (SeenCut books_in trust old (orders_end e) new)
  pub quiet : OnErr result (is_quiet e ≡ true → new.posts ≡ old.posts)
  pub said : OnErr result (GrowsToward old.said new.said (scene_after trust old e).said)

-- any line: likewise, and what a `restart` promises
pub record StepAfter (trust : Trust) (old : Scene) (e : Event) (new : Scene) (before now : Option Journals) (result : Result (List Line) WorldFault) : Type 0 where
  pub world : OnOk result (is_restart e ≡ false → new ≡ steps_to trust old e)
  pub lines : IfOk result (λ lines. is_restart e ≡ false → lines ≡ lines_in trust old e)
  pub kept : LeavesAs (rules_in trust.accepts old) old (work_of old e) before now result
  pub restart : MayRestart trust.accepts before old new e result
  pub stay : OnOk result (Stays old new)
  pub cut : OnErr result (LineCut (rules_in trust.accepts old) old (work_of old e) new.posts before now)
  pub books : OnErr result (SeenCut books_in trust old (orders_end e) new)
  pub quiet : OnErr result (is_quiet e ≡ true → new.posts ≡ old.posts)
  pub said : OnErr result (GrowsToward old.said new.said (steps_to trust old e).said)
  pub bad : (m place : ℕ) → IsErrOf result (fault.BadRecord m place) → is_restart e ≡ true

-- the outcome of a line by the outcome of its call; and of one that touches no record, and fails only if memory is refused
abbrev pub call_outcome : Result (List Line) SeatFault → Result (List Line) WorldFault
call_outcome (Ok lines) = Ok lines
call_outcome (Err seat_fault.KeepFault) = Err fault.KeepFault
call_outcome (Err seat_fault.OutOfMemory) = Err fault.OutOfMemory

abbrev pub quiet_outcome : Result (List Line) OutOfMemory → Result (List Line) WorldFault
quiet_outcome (Ok lines) = Ok lines
quiet_outcome (Err e) = Err fault.OutOfMemory
