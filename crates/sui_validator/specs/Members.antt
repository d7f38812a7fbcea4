-- A member with its journal and its sealer. Source: this profile.
use Rattle.std.specs.Prelude.{◌≡◌, ◌≤◌, ℕ, Bool, ◌==◌, ◌||◌, nat_lt, List, length, map, Option, Some, None, Result, Ok, Err, if◌then◌else◌, true, ⊤}
use Rattle.digest_core.specs.declared.Digest.{Digest}
use Rattle.quorum_core.specs.declared.signer.Signer.{Signer}
use Rattle.chain_types.specs.declared.objects.Object.{Object}
use Rattle.chain_types.specs.declared.objects.ObjectId.{ObjectId}
use Rattle.protocol_spec.specs.declared.refusals.StartRefusal.{StartRefusal}
use Rattle.protocol_spec.specs.declared.refusals.StartRefusal.TheVariants as no_start
use Rattle.chain_types.specs.Equal.{id_eq}
use Rattle.protocol_spec.specs.Chain.Certificates.{Rules}
use Rattle.protocol_spec.specs.Chain.Words.{repeats}
use Rattle.protocol_spec.specs.Member.Member.{Member}
use Rattle.world_spec.specs.Seats.{Seated}
use Rattle.world_spec.specs.Starts.{started}
use Rattle.world_spec.specs.Terms.{Terms, rules_for}
use Rattle.sui_validator.specs.Journals.{Records, Stays}
use Rattle.sui_validator.specs.declared.opening.OpenRefusal.{OpenRefusal}
use Rattle.sui_validator.specs.declared.opening.OpenRefusal.TheVariants as no_open

-- a member's seat, the journal that keeps its records, and the sealer that makes its seals
pub record Seating (J S : Type 0) : Type 0 where
  pub seat : Seated
  pub journal : J
  pub sealer : S

abbrev pub workers_of : ℕ → Option ℕ
workers_of count = if (count == 0) || nat_lt 16 count then None else Some count

abbrev pub ids_of : List Object → List ObjectId
ids_of objects = map (λ (o : Object). o.id) objects

-- ---- how a member is opened

-- this is the state in which a member starts from its records, or why it does not, if the records are observable
abbrev pub StartsFrom : Rules → List Object → Option Records → Result Member StartRefusal → Type 0
StartsFrom rules opening None said = ⊤
StartsFrom rules opening (Some records) said = started rules opening records ≡ said

-- the member of this number is up, in the state in which it starts from its records; the journal stays as it was
pub record IsOpened (terms : Terms) (accepts : Signer → List ℕ → Digest → Bool) (opening : List Object) (number : ℕ) (before now : Option Records) (seat : Seated) : Type 0 where
  pub state : StartsFrom (rules_for terms accepts) opening before (Ok seat.state)
  pub member : seat.member ≡ number
  pub of : seat.terms ≡ terms
  pub up : seat.up ≡ true
  pub journal : Stays before now

abbrev pub Opens : Terms → (Signer → List ℕ → Digest → Bool) → List Object → ℕ → Option Records → Option Records → Result Seated OpenRefusal → Type 0
Opens terms accepts opening number before now (Ok seat) = IsOpened terms accepts opening number before now seat
Opens terms accepts opening number before now (Err (no_open.NoMember which members)) = (which ≡ number) × ((members ≡ length terms.stakes) × (length terms.stakes ≤ number))
Opens terms accepts opening number before now (Err no_open.ObjectTwice) = repeats id_eq (ids_of opening) ≡ true
Opens terms accepts opening number before now (Err no_open.ReadFault) = ⊤
Opens terms accepts opening number before now (Err (no_open.BadRecord place why)) = StartsFrom (rules_for terms accepts) opening before (Err (no_start.BadRecord place why))
Opens terms accepts opening number before now (Err no_open.OutOfMemory) = ⊤
