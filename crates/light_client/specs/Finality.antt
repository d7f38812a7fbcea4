-- What sealed acknowledgements show. Source: Sui Lutris (effects are final once a quorum has acknowledged them); the
-- order of the causes is this profile's own.
use Rattle.std.specs.Prelude.{◌≡◌, ℕ, ◌+◌, Bool, true, false, not, ◌&&◌, ◌==◌, bytes_eq, List, [], ◌∷◌, map, Option, Some, None, Result, Ok, Err}
use Rattle.wire_bcs.specs.Shapes.{seq}
use Rattle.quorum_core.specs.declared.signer.Signer.TheVariants as signers
use Rattle.quorum_core.specs.Committee.{is_quorum, is_roll, total_of, weight}
use Rattle.chain_messages.specs.Messages.{sealed, statement}
use Rattle.chain_messages.specs.declared.messages.Sealed.{Sealed}
use Rattle.chain_messages.specs.declared.messages.Statement.{Statement}
use Rattle.chain_messages.specs.declared.messages.Statement.TheVariants as statements
use Rattle.protocol_spec.specs.Chain.Words.{Each, and_then, first_of, first_some, where_true}
use Rattle.light_check.specs.Certified.{Accepting}
use Rattle.light_client.specs.declared.finality.Acknowledged.{Acknowledged}
use Rattle.light_client.specs.Input.{input}
use Rattle.light_client.specs.declared.refusal.Refusal.{Refusal}
use Rattle.light_client.specs.declared.refusal.Refusal.TheVariants as refusal

-- what a statement acknowledges
abbrev pub acknowledged_in : Statement → Option Acknowledged
acknowledged_in (statements.Ack epoch tx effects) = Some (record { epoch = epoch; tx = tx; effects = effects })
acknowledged_in (statements.Vote epoch tx origins) = None
acknowledged_in (statements.End epoch) = None
acknowledged_in (statements.Checkpoint epoch number digest) = None

abbrev pub same_acknowledged : Acknowledged → Acknowledged → Bool
same_acknowledged a b = (a.epoch == b.epoch) && (bytes_eq a.tx.0 b.tx.0 && bytes_eq a.effects.0 b.effects.0)

-- the members that sealed, in the order of the statements
abbrev pub sealers : List Sealed → List ℕ
sealers said = map (λ (s : Sealed). s.member) said

-- ---- the causes

abbrev pub not_one : ℕ → Option Acknowledged → Option Refusal
not_one place None = Some (refusal.NoAcknowledgement place)
not_one place (Some a) = None

-- the refusal of the first statement that is not an acknowledgement; the first of the list stands at this place
abbrev pub no_acknowledgement : ℕ → List Sealed → Option Refusal
no_acknowledgement place [] = None
no_acknowledgement place (s ∷ said) = first_some (not_one place (acknowledged_in s.statement) ∷ no_acknowledgement (place + 1) said ∷ [])

abbrev pub is_other : Option Acknowledged → Option Acknowledged → Bool
is_other (Some a) (Some b) = not (same_acknowledged a b)
is_other (Some a) None = false
is_other None b = false

-- the refusal of a statement that acknowledges something else than the first one
abbrev pub differs_from : Sealed → Sealed → Option Refusal
differs_from first s = where_true (is_other (acknowledged_in first.statement) (acknowledged_in s.statement)) (refusal.Differ first.member s.member)

abbrev pub differing : List Sealed → Option Refusal
differing [] = None
differing (first ∷ said) = first_of (differs_from first) said

-- the refusal of a seal that is not accepted over its statement
abbrev pub bad_seal : Accepting → Sealed → Option Refusal
bad_seal accepts s = where_true (not (accepts (signers.Member s.member) (statement.spell s.statement) s.seal)) (refusal.BadSeal s.member)

-- why these statements show nothing, whatever their seals
unfoldable pub why_unsealed : List ℕ → List Sealed → Option Refusal
why_unsealed stakes said = first_some (
    no_acknowledgement 0 said ∷
    where_true (not (is_roll stakes (sealers said))) refusal.Order ∷
    where_true (not (is_quorum stakes (weight stakes (sealers said)))) (refusal.ShortStake (weight stakes (sealers said)) (total_of stakes)) ∷
    differing said ∷ [])

-- why these statements show nothing: the causes above in order, and last the first seal that is not accepted
unfoldable pub why_not_final : List ℕ → Accepting → List Sealed → Option Refusal
why_not_final stakes accepts said = first_some (why_unsealed stakes said ∷ first_of (bad_seal accepts) said ∷ [])

-- ---- what is acknowledged

abbrev pub first_acknowledged : List Sealed → Option Acknowledged
first_acknowledged [] = None
first_acknowledged (s ∷ said) = acknowledged_in s.statement

-- the answer: what all statements acknowledge if nothing is wrong with them, else why not. An empty list has too
-- little stake
abbrev pub acknowledged_or : Option Refusal → Option Acknowledged → Result Acknowledged Refusal
acknowledged_or (Some why) first = Err why
acknowledged_or None (Some a) = Ok a
acknowledged_or None None = Err (refusal.ShortStake 0 0)

abbrev pub final_of : List ℕ → Accepting → List Sealed → Result Acknowledged Refusal
final_of stakes accepts said = acknowledged_or (why_not_final stakes accepts said) (first_acknowledged said)

-- the answer for bytes: why they do not decode to a list of sealed statements, else the answer for the list
unfoldable pub final_answer : List ℕ → Accepting → List ℕ → Result Acknowledged Refusal
final_answer stakes accepts bytes = and_then (input (seq sealed) bytes) (λ said. final_of stakes accepts said)

-- each statement can be encoded
abbrev pub AllShort : List Sealed → Type 0
AllShort said = Each sealed.short said

-- the statement is this acknowledgement, under an accepted seal of its member
pub record Acknowledges (accepts : Accepting) (a : Acknowledged) (s : Sealed) : Type 0 where
  pub is : s.statement ≡ statements.Ack a.epoch a.tx a.effects
  pub accepted : accepts (signers.Member s.member) (statement.spell s.statement) s.seal ≡ true

-- the bytes encode acknowledgements of this by a quorum
pub record SpellsFinal (stakes : List ℕ) (accepts : Accepting) (bytes : List ℕ) (a : Acknowledged) : Type 0 where
  pub said : List Sealed
  pub spelled : bytes ≡ (seq sealed).spell said
  pub fits : (seq sealed).fits said
  pub roll : is_roll stakes (sealers said) ≡ true
  pub quorum : is_quorum stakes (weight stakes (sealers said)) ≡ true
  pub each : Each (Acknowledges accepts a) said
