-- A member as contracts see it: its number, its committee, whether it is up, and its state. What a call does to it.
-- Source: this profile.
use Rattle.std.specs.Prelude.{ℕ, Bool, false, List, Option, None, if◌then◌else◌}
use Rattle.digest_core.specs.declared.Digest.{Digest}
use Rattle.quorum_core.specs.declared.signer.Signer.{Signer}
use Rattle.journal_core.specs.declared.records.Record.{Record}
use Rattle.protocol_spec.specs.Chain.Certificates.{Rules}
use Rattle.protocol_spec.specs.Member.Member.{Member}
use Rattle.protocol_spec.specs.Member.Calls.{Call, called, due}
use Rattle.world_spec.specs.Terms.{Terms, rules_for}

-- the number of the member, the terms of its committee, whether it is up, and its state
pub record Seated : Type 0 where
  pub member : ℕ
  pub terms : Terms
  pub up : Bool
  pub state : Member

abbrev pub rules_of_seat : Seated → (Signer → List ℕ → Digest → Bool) → Rules
rules_of_seat seat accepts = rules_for seat.terms accepts

-- the committee's rules with no accepted seal, for calls that check none
abbrev pub bare_rules : Seated → Rules
bare_rules seat = rules_of_seat seat (λ by bytes seal. false)

-- the member after a call; one that is down stays as it is
abbrev pub behind : Rules → Seated → Call → Seated
behind r seat call = if seat.up then record seat { state = called r seat.state call } else seat

-- the record that is due; a member that is down appends none
abbrev pub due_at : Rules → Seated → Call → Option Record
due_at r seat call = if seat.up then due r seat.state call else None
