-- The laws of scenes that a run stands on, for these seals. The public functions of `run_law` prove them.
use Rattle.std.specs.Prelude.{◌≡◌, ◌<◌, ℕ, false, List, [], ◌∷◌, length, Option, Ok}
use Rattle.outside.specs.Lists.{Journals}
use Rattle.protocol_spec.specs.Member.Member.{Member}
use Rattle.report_text.specs.declared.lines.Line.TheVariants as line
use Rattle.report_text.specs.declared.lines.RestartText.TheVariants as restart_text
use Rattle.schedule_text.specs.declared.words.Setup.{Setup}
use Rattle.schedule_text.specs.declared.words.Event.{Event}
use Rattle.schedule_text.specs.declared.words.Event.TheVariants as event
use Rattle.world_spec.specs.Starts.{started}
use Rattle.world_spec.specs.Setting.{Setting, Trust, setting_of}
use Rattle.world_spec.specs.World.{World, new_world}
use Rattle.world_spec.specs.Step.{happens}
use Rattle.world_spec.specs.Report.{lines_of}
use Rattle.world_spec.specs.Posts.{started_at}
use Rattle.world_spec.specs.Scene.{Scene, new_scene, rules_in}
use Rattle.world_spec.specs.SceneSteps.{AddsLine, MayAddLine, lines_in, records_left, steps_to, work_of}
use Rattle.world_spec.specs.SceneWorlds.{HasRoom, Restarts, Shows, Tells, TellsFront, is_restart, journal_in}
use Rattle.committee_core.specs.Journals.{StartsWhereRead}

pub record SceneLaws (trust : Trust) : Type 0 where
  -- the scene of the set-up shows the first world, and each step the world after the line, with its lines
  pub first : (lines : List Setup) → Shows trust (setting_of trust lines) (new_world (setting_of trust lines)) (new_scene (setting_of trust lines) lines)
  pub steps : (s : Setting) (w : World) (sc : Scene) (e : Event) → Shows trust s w sc → is_restart e ≡ false → Shows trust s (happens s w e) (steps_to trust sc e)
  pub lines : (s : Setting) (w : World) (sc : Scene) (e : Event) → Shows trust s w sc → is_restart e ≡ false → lines_of s w e ≡ lines_in trust sc e
  pub restart : (s : Setting) (w : World) (sc : Scene) (m : ℕ) (state : Member) → Shows trust s w sc → Restarts s w → m < length w.seats → started s.rules s.opening (journal_in w m) ≡ Ok state → Shows trust s (happens s w (event.Restart m)) (record sc { posts = started_at sc.terms sc.posts m state })
  pub restarted : (s : Setting) (w : World) (m : ℕ) → lines_of s w (event.Restart m) ≡ line.Restart m (restart_text.Records (length (journal_in w m))) ∷ []
  -- observable lists follow the journals: after a line whose records were added, and after one that was cut
  pub told : (s : Setting) (w : World) (sc : Scene) (e : Event) (before now : Option Journals) → Shows trust s w sc → HasRoom before w → Tells before w → AddsLine (records_left (rules_in trust.accepts sc) sc (work_of sc e)) before now → Tells now (happens s w e)
  pub cut : (s : Setting) (w : World) (sc : Scene) (e : Event) (before now : Option Journals) → Shows trust s w sc → HasRoom before w → Tells before w → MayAddLine (records_left (rules_in trust.accepts sc) sc (work_of sc e)) before now → TellsFront now (happens s w e)
  pub fronts : (told : Option Journals) (w : World) → Tells told w → TellsFront told w
  pub ahead : (s : Setting) (w : World) (e : Event) (told : Option Journals) → TellsFront told w → TellsFront told (happens s w e)
  -- in the run of a text that is read every member starts from its journal
  pub restarts : StartsWhereRead trust
