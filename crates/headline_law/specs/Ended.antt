-- What holds of the sequence of an epoch as a member has seen it, and at the epoch's end. Source: Sui Lutris (a quorum
-- ends an epoch); this profile (admission, and the cuts of checkpoints).
use Rattle.std.specs.Prelude.{◌≡◌, ℕ, true, List, find, flat_map, slice_get, Some, None}
use Rattle.chain_types.specs.declared.objects.Object.{Object}
use Rattle.chain_messages.specs.declared.messages.Statement.TheVariants as statement
use Rattle.schedule_text.specs.declared.words.Event.{Event}
use Rattle.protocol_spec.specs.Chain.Words.{Has}
use Rattle.protocol_spec.specs.Chain.Committee.{weight, is_quorum}
use Rattle.protocol_spec.specs.Chain.Certificates.{Rules}
use Rattle.protocol_spec.specs.Member.Admission.{is_free}
use Rattle.protocol_spec.specs.Member.Sequence.{Sequence, seen}
use Rattle.world_spec.specs.Setting.{Setting}
use Rattle.world_spec.specs.World.{Seat, new_world, member_in, is_honest}
use Rattle.world_spec.specs.Run.{world_after}
use Rattle.world_spec.specs.Assumptions.{NoForgery, HasSaid}
use Rattle.safety_law.specs.Checkpointed.{admitted_in}

-- no pending certificate is free, whatever was seen
abbrev pub NothingFreeWaits : Type 0
NothingFreeWaits = (r : Rules) (opening : List Object) (epoch : ℕ) (entries : List (List ℕ))
    → find (is_free r.writers (seen r opening epoch entries).admission) (seen r opening epoch entries).admission.pending ≡ None

-- the cuts hold all that was admitted, and the members whose End was counted are a quorum
pub record IsWhole (r : Rules) (q : Sequence) : Type 0 where
  pub cuts : flat_map admitted_in q.cuts ≡ q.admission.admitted
  pub quorum : is_quorum r.stakes (weight r.stakes q.counted) ≡ true

-- a sequence that has ended is whole in this sense
abbrev pub EndsAreWhole : Type 0
EndsAreWhole = (r : Rules) (opening : List Object) (epoch : ℕ) (entries : List (List ℕ)) → (seen r opening epoch entries).ended ≡ true → IsWhole r (seen r opening epoch entries)

-- each honest member whose End a member has counted stated it
abbrev pub CountedIsStated : Type 0
CountedIsStated = (s : Setting) (events : List Event) → NoForgery s events (new_world s) → (m : ℕ) (seat : Seat) → slice_get (world_after s events).seats m ≡ Some seat
    → (member : ℕ) → Has (member_in s seat).sequence.counted member → is_honest (world_after s events) member ≡ true
    → HasSaid (world_after s events) member (statement.End (member_in s seat).epoch)
