-- Each record of each seat was due.
use Rattle.std.specs.Prelude.{◌≡◌, ℕ, List, [], slice_get, Some}
use Rattle.schedule_text.specs.declared.words.Event.{Event}
use Rattle.protocol_spec.specs.Chain.Words.{Along}
use Rattle.protocol_spec.proofs.ListLemmas.{along-push}
use Rattle.world_spec.specs.Setting.{Setting}
use Rattle.world_spec.specs.World.{Seat}
use Rattle.world_spec.specs.Run.{world_after}
use Rattle.protocol_spec.specs.Member.Due.{IsDueBehind}
use Rattle.safety_law.proofs.InWorld.{in_world}

pub every-record : (s : Setting) (events : List Event) (m : ℕ) (seat : Seat) → slice_get (world_after s events).seats m ≡ Some seat → Along (IsDueBehind s.rules s.opening) [] seat.records
every-record s events m seat e =
    in_world s (Along (IsDueBehind s.rules s.opening) [])
    (λ records call x d along. along-push (IsDueBehind s.rules s.opening) [] records x along (call, d)) tt events m seat e
