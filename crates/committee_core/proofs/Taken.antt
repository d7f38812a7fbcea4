-- What the step of a world says, whatever it answers.
use Rattle.std.proofs.Common.{◌≡◌, ℕ, List, length, Option, Some, None, Result, Ok, Err, IfOk, OnOk, OnErr, IsErrOf, slice_get, subst}
use Rattle.outside.specs.Lists.{Journals}
use Rattle.report_text.specs.declared.lines.Line.{Line}
use Rattle.schedule_text.specs.declared.words.Event.{Event}
use Rattle.schedule_text.specs.declared.words.Event.TheVariants as event
use Rattle.world_spec.specs.Setting.{Trust}
use Rattle.world_spec.specs.Posts.{Post}
use Rattle.world_spec.specs.Scene.{Scene, rules_in}
use Rattle.world_spec.specs.SceneSteps.{MayAddLine, records_left, work_of}
use Rattle.world_spec.specs.SceneWorlds.{AreKeepable}
use Rattle.world_core.specs.Restarts.{Accepting, MayRestart, RestartsAs, StaysDown}
use Rattle.world_core.specs.Served.{StepAfter}
use Rattle.world_core.specs.declared.world.WorldFault.{WorldFault}
use Rattle.world_core.specs.declared.world.WorldFault.TheVariants as fault
use Rattle.committee_core.specs.Steps.{IsTaken, ReadsBad}

restart-as : (accepts : Accepting) (told : Option Journals) (old now : Scene) (e : Event) (r : Result (List Line) WorldFault) (m : ℕ) → e ≡ event.Restart m
    → MayRestart accepts told old now e r → RestartsAs accepts told m old now (slice_get old.posts m) r
restart-as accepts told old now e r m is h = subst (λ (d : Event). MayRestart accepts told old now d r) is h

pub taken_as : (r : Result (List Line) WorldFault) (trust : Trust) (e : Event) (sc now : Scene) (told told' : Option Journals) → StepAfter trust sc e now told told' r → AreKeepable sc.sequences → IfOk r (IsTaken trust e sc now told told')
taken_as (Ok given) trust e sc now told told' step keepable = record {
  scene = step.world;
  lines = step.lines;
  kept = step.kept;
  keepable = keepable;
  restart = λ m is. restart-as trust.accepts told sc now e (Ok given) m is step.restart;
}
taken_as (Err f) trust e sc now told told' step keepable = tt

pub left_as : (r : Result (List Line) WorldFault) (trust : Trust) (e : Event) (sc now : Scene) (told told' : Option Journals) → StepAfter trust sc e now told told' r → OnErr r (MayAddLine (records_left (rules_in trust.accepts sc) sc (work_of sc e)) told told')
left_as (Ok given) trust e sc now told told' step = tt
left_as (Err f) trust e sc now told told' step = step.kept

bad-at : (accepts : Accepting) (told : Option Journals) (m : ℕ) (old now : Scene) (p : Option Post) (member place : ℕ) → RestartsAs accepts told m old now p (Err (fault.BadRecord member place)) → StaysDown accepts told m old member place
bad-at accepts told m old now (Some p) member place h = h
bad-at accepts told m old now None member place h = h

pub bad_as : (r : Result (List Line) WorldFault) (trust : Trust) (e : Event) (sc now : Scene) (told told' : Option Journals) → StepAfter trust sc e now told told' r → AreKeepable sc.sequences
    → (member place : ℕ) → IsErrOf r (fault.BadRecord member place) → ReadsBad trust e sc told member place
bad_as r trust e sc now told told' step keepable member place is = record {
  restarts = step.bad member place is;
  keepable = keepable;
  stays = λ m which. bad-at trust.accepts told m sc now (slice_get sc.posts m) member place
      (restart-as trust.accepts told sc now e (Err (fault.BadRecord member place)) m which (subst (λ (x : Result (List Line) WorldFault). MayRestart trust.accepts told sc now e x) is step.restart));
}

-- as many members as before
pub stay_as : (r : Result (List Line) WorldFault) (trust : Trust) (e : Event) (sc now : Scene) (told told' : Option Journals) → StepAfter trust sc e now told told' r → OnOk r (length now.posts ≡ length sc.posts)
stay_as (Ok given) trust e sc now told told' step = step.stay.many
stay_as (Err f) trust e sc now told told' step = tt
