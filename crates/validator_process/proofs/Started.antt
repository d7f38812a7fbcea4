-- A member that started from its records, or did not.
use Rattle.std.proofs.Common.{ℕ, Option, sym, ap, ◌∙◌}
use Rattle.std.specs.Prelude.{Ok, Err}
use Rattle.outside.specs.Lists.{Journals}
use Rattle.world_spec.specs.Scene.{Scene, rules_in}
use Rattle.world_spec.specs.Seats.{Seated}
use Rattle.world_core.specs.Replies.{Accepting}
use Rattle.world_core.specs.declared.replay.Replayed.{Replayed}
use Rattle.world_core.specs.Replays.{IsReplayed}
use Rattle.world_core.specs.SeatRestarts.{HasBadRecord}
use Rattle.process_lines.specs.declared.starts.StartLine.TheVariants as start
use Rattle.validator_process.specs.declared.reading.Unstarted.TheVariants as unstarted
use Rattle.validator_process.specs.Genesis.{member_started}
use Rattle.validator_process.specs.Starting.{StartsAs}

module _ (accepts : Accepting) (scene : Scene) (m : ℕ) (told : Option Journals) where
  pub replayed_starts : (given : Replayed) → IsReplayed (rules_in accepts scene) scene.opening told scene.terms m given → StartsAs accepts scene m told (Ok given.validator)
  replayed_starts given r = (r.kept, r.is, ap (member_started scene m) r.starts ∙ ap (λ (s : Seated). Ok s) (sym r.stands))

  pub bad_starts : (place : ℕ) → HasBadRecord (rules_in accepts scene) scene.opening told m place → StartsAs accepts scene m told (Err (unstarted.Refused (start.BadRecord place)))
  bad_starts place b = (b.kept, b.is, ap (member_started scene m) b.starts)
