-- The seals in bytes, listed with their statements for a caller that checks each seal itself. Source: this profile.
use Rattle.std.specs.Prelude.{◌≡◌, ℕ, ◌+◌, List, [], ◌∷◌, ◌++◌, length, map, Result, Ok}
use Rattle.wire_bcs.specs.Codec.{Codec}
use Rattle.wire_bcs.specs.Shapes.{seq}
use Rattle.chain_messages.specs.declared.messages.Certificate.{Certificate}
use Rattle.chain_messages.specs.declared.messages.MemberSeal.{MemberSeal}
use Rattle.chain_messages.specs.declared.messages.Sealed.{Sealed}
use Rattle.chain_messages.specs.Messages as messages
use Rattle.protocol_spec.specs.Chain.Words.{Each, and_then}
use Rattle.protocol_spec.specs.Chain.Certificates.{vote_of}
use Rattle.light_check.specs.declared.chain.Link.{Link}
use Rattle.light_check.specs.declared.chain.Chain.{Chain}
use Rattle.light_check.specs.Chains as codecs
use Rattle.light_check.specs.Certified.{IsAccepted, stated}
use Rattle.light_client.specs.Accepted.{accepted_in}
use Rattle.light_client.specs.Input.{input}
use Rattle.light_client.specs.declared.accepted.SealRow.{SealRow}
use Rattle.light_client.specs.declared.listing.Listing.{Listing}
use Rattle.light_client.specs.declared.refusal.Refusal.{Refusal}

-- a statement, and the seals on it
pub record Under : Type 0 where
  pub statement : List ℕ
  pub seals : List MemberSeal

-- the row of a seal on a statement that stands at this offset
abbrev pub row_at : ℕ → List ℕ → MemberSeal → SealRow
row_at at statement s = record { at = at; length = length statement; member = s.member; seal = s.seal.0 }

-- the bytes of all statements, one after the other
abbrev pub statements_in : List Under → List ℕ
statements_in [] = []
statements_in (u ∷ us) = u.statement ++ statements_in us

-- the rows of all seals, in order; the first statement stands at this offset
abbrev pub rows_from : ℕ → List Under → List SealRow
rows_from at [] = []
rows_from at (u ∷ us) = map (row_at at u.statement) u.seals ++ rows_from (at + length u.statement) us

-- ---- the statements and seals of a value

abbrev pub of_link : Link → Under
of_link l = record { statement = stated l.checkpoint; seals = l.seals }

abbrev pub of_chain : Chain → List Under
of_chain c = map of_link c.links

abbrev pub of_certificate : Certificate → List Under
of_certificate c = record { statement = messages.statement.spell (vote_of c); seals = c.seals } ∷ []

abbrev pub of_sealed : Sealed → Under
of_sealed s = record { statement = messages.statement.spell s.statement; seals = record { member = s.member; seal = s.seal } ∷ [] }

abbrev pub of_acknowledgements : List Sealed → List Under
of_acknowledgements said = map of_sealed said

-- ---- listings

abbrev pub listed : List Under → Listing
listed us = record { rows = rows_from 0 us; statements = statements_in us }

unfoldable pub chain_listing : List ℕ → Result Listing Refusal
chain_listing bytes = and_then (input codecs.chain bytes) (λ (c : Chain). Ok (listed (of_chain c)))

unfoldable pub certificate_listing : List ℕ → Result Listing Refusal
certificate_listing bytes = and_then (input messages.certificate bytes) (λ (c : Certificate). Ok (listed (of_certificate c)))

unfoldable pub acknowledgements_listing : List ℕ → Result Listing Refusal
acknowledgements_listing bytes = and_then (input (seq messages.sealed) bytes) (λ (said : List Sealed). Ok (listed (of_acknowledgements said)))

-- ---- what a list is for

-- each seal on each of the statements is accepted
abbrev pub AllAccepted : List SealRow → List ℕ → List Under → Type 0
AllAccepted rows statements us = Each (λ (u : Under). Each (IsAccepted (accepted_in rows statements) u.statement) u.seals) us

-- the bytes encode a value, all of whose seals are accepted with the listing
pub record Lists {A : Type 0} (codec : Codec A) (of : A → List Under) (bytes : List ℕ) (l : Listing) : Type 0 where
  pub value : A
  pub spelled : bytes ≡ codec.spell value
  pub fits : codec.fits value
  pub all : AllAccepted l.rows l.statements (of value)
