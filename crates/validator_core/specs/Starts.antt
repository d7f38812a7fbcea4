-- The start of a member from the records that it kept. Source: this profile.
use Rattle.std.specs.Prelude.{◌≡◌, ℕ, true, Result, Ok, Err}
use Rattle.protocol_spec.specs.declared.refusals.StartRefusal.{StartRefusal}
use Rattle.protocol_spec.specs.declared.refusals.StartRefusal.TheVariants as no_start
use Rattle.protocol_spec.specs.Member.Member.{Member}
use Rattle.world_spec.specs.Terms.{Terms}
use Rattle.world_spec.specs.Seats.{Seated}

-- the start ends in the definition's state, or with its refusal; if memory was refused nothing is said
abbrev pub StateAs : Result Member StartRefusal → Member → Result (Unit {0}) StartRefusal → Type 0
StateAs said state (Ok done) = said ≡ Ok state
StateAs said state (Err no_start.OutOfMemory) = Unit {0}
StateAs said state (Err (no_start.BadRecord place why)) = said ≡ Err (no_start.BadRecord place why)

abbrev pub Starts : Result Member StartRefusal → ℕ → Terms → Result Seated StartRefusal → Type 0
Starts said member terms (Ok seat) = (said ≡ Ok seat.state) × (seat.member ≡ member) × (seat.terms ≡ terms) × (seat.up ≡ true)
Starts said member terms (Err no_start.OutOfMemory) = Unit {0}
Starts said member terms (Err (no_start.BadRecord place why)) = said ≡ Err (no_start.BadRecord place why)
