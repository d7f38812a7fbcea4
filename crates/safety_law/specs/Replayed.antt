-- What a member's journal gives back.
use Rattle.std.specs.Prelude.{◌≡◌, ℕ, List, slice_get, Some, Ok}
use Rattle.schedule_text.specs.declared.words.Event.{Event}
use Rattle.protocol_spec.specs.Member.Replay.{replayed}
use Rattle.world_spec.specs.Setting.{Setting}
use Rattle.world_spec.specs.World.{Seat, member_in}
use Rattle.world_spec.specs.Run.{world_after}

-- in every run, a start from a member's records finds none that is bad, and gives the member's state
abbrev pub NoRecordIsBad : Type 0
NoRecordIsBad = (s : Setting) (events : List Event) (m : ℕ) (seat : Seat) → slice_get (world_after s events).seats m ≡ Some seat
    → replayed s.rules s.opening seat.records ≡ Ok (member_in s seat)
