-- The votes that count: a member's last, and that of the first honest member. Source: this profile; votes are those
-- of Sui Lutris.
use Rattle.std.specs.Prelude.{ℕ, Bool, List, map, Option, None, if◌then◌else◌}
use Rattle.std.specs.List.{enumerate_from}
use Rattle.digest_core.specs.declared.Digest.{Digest}
use Rattle.protocol_spec.specs.Chain.Words.{first_of}
use Rattle.world_spec.specs.World.{Said, Seat, seat_honest}
use Rattle.world_spec.specs.Step.{last_said, vote_in}

-- the origins of a member's last vote for the transaction, which is of this epoch
abbrev pub vote_by : List Said → ℕ → Digest → ℕ → Option (List (Option Digest))
vote_by said epoch tx m = last_said (vote_in epoch tx) m said

-- the origins of a member's last vote, if its flag says that it is honest
abbrev pub vote_if : List Said → ℕ → Digest → (ℕ × Bool) → Option (List (Option Digest))
vote_if said epoch tx flag = if flag.1 then vote_by said epoch tx flag.0 else None

-- the last vote of the lowest-numbered honest member that has one, if these members are honest
abbrev pub first_vote : List Said → ℕ → Digest → List Bool → Option (List (Option Digest))
first_vote said epoch tx honest = first_of (vote_if said epoch tx) (enumerate_from 0 honest)

-- which members of a world are honest, by number
abbrev pub flags_of : List Seat → List Bool
flags_of seats = map seat_honest seats
