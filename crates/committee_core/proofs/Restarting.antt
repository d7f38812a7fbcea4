-- Events that restart a member.
use Rattle.std.proofs.Common.{◌≡◌, ℕ, true, refl}
use Rattle.schedule_text.specs.declared.words.Event.{Event}
use Rattle.schedule_text.specs.declared.words.Event.TheVariants as event
use Rattle.world_spec.specs.SceneWorlds.{is_restart}

-- the event that restarts a member
pub restart-of : (e : Event) → is_restart e ≡ true → (m : ℕ) × (e ≡ event.Restart m)
restart-of (event.Restart m) h = (m, refl)
restart-of e h = absurd (cc)
