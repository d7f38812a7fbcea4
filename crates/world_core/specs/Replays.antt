-- A member as it starts from records that were kept before. Source: this profile.
use Rattle.std.specs.Prelude.{◌≡◌, ℕ, List, Option, Ok, length}
use Rattle.chain_types.specs.declared.objects.Object.{Object}
use Rattle.outside.specs.Lists.{Journals}
use Rattle.protocol_spec.specs.Chain.Certificates.{Rules}
use Rattle.protocol_spec.specs.Member.Member.{Member}
use Rattle.world_spec.specs.Starts.{started}
use Rattle.world_spec.specs.Terms.{Terms}
use Rattle.world_spec.specs.Posts.{seat_at}
use Rattle.world_core.specs.SeatRestarts.{IsJournal}
use Rattle.world_core.specs.declared.replay.Replayed.{Replayed}

-- the outcome of a replay: a member started from its records in a new epoch 0, and the number of these records
pub record IsReplayed (r : Rules) (opening : List Object) (told : Option Journals) (terms : Terms) (m : ℕ) (given : Replayed) : Type 0 where
  pub kept : List (List ℕ)
  pub state : Member
  pub is : IsJournal told m kept
  pub many : given.count ≡ length kept
  pub starts : started r opening kept ≡ Ok state
  pub stands : given.validator ≡ seat_at terms m state
