-- What a member has built and holds, in numbers. Source: this profile.
use Rattle.std.specs.Prelude.{Option, option_map, length}
use Rattle.effects_core.specs.Money.{currency_sum}
use Rattle.protocol_spec.specs.Member.Member.{Member, built, live_objects}
use Rattle.validator_core.specs.Built.{transactions_in}
use Rattle.world_spec.specs.Seats.{Seated}
use Rattle.world_spec.specs.Posts.{Post}
use Rattle.world_core.specs.Crews.{honest_at}
use Rattle.world_core.specs.declared.sums.Sums.{Sums}

-- the transactions in the checkpoints that the member has built, these checkpoints, its live objects, and what
-- they hold of currency 0, that of gas
abbrev pub sums_of : Member → Sums
sums_of m = record {
  transactions = transactions_in (built m);
  checkpoints = length (built m);
  objects = length (live_objects m);
  sum = currency_sum (live_objects m) 0;
}

-- the sums of the member at this place; none if it is not there, faulty or down
abbrev pub sums_at : Option Post → Option Sums
sums_at post = option_map (λ (seat : Seated). sums_of seat.state) (honest_at post)
