-- The rules of one committee, and valid certificates. Source: Sui Lutris; that votes name origins is this profile's own.
use Rattle.std.specs.Prelude.{ℕ, Bool, not, ◌==◌, List, [], ◌∷◌, map, length, Option, Result, Ok, Err, option_map}
use Rattle.digest_core.specs.declared.Digest.{Digest}
use Rattle.wire_bcs.specs.declared.fault.WireFault.{WireFault}
use Rattle.wire_bcs.specs.Place.{Stop}
use Rattle.wire_bcs.specs.Whole.{whole}
use Rattle.quorum_core.specs.declared.signer.Signer.{Signer}
use Rattle.quorum_core.specs.declared.signer.Signer.TheVariants as signers
use Rattle.chain_types.specs.Transactions as transactions
use Rattle.chain_messages.specs.Messages as messages
use Rattle.chain_types.specs.declared.transactions.Transaction.{Transaction}
use Rattle.chain_types.specs.declared.transactions.SignedTx.{SignedTx}
use Rattle.chain_types.specs.declared.refusals.CertRefusal.{CertRefusal}
use Rattle.chain_types.specs.declared.refusals.CertRefusal.TheVariants as refused
use Rattle.chain_messages.specs.declared.messages.Statement.{Statement}
use Rattle.chain_messages.specs.declared.messages.Statement.TheVariants as statement
use Rattle.chain_messages.specs.declared.messages.MemberSeal.{MemberSeal}
use Rattle.chain_messages.specs.declared.messages.Certificate.{Certificate}
use Rattle.chain_messages.specs.declared.messages.Entry.{Entry}
use Rattle.chain_types.specs.Digests.{transaction_digest}
use Rattle.protocol_spec.specs.Chain.Words.{first_some, first_of, where_true}
use Rattle.protocol_spec.specs.Chain.Keys.{objects_of}
use Rattle.protocol_spec.specs.Chain.Shape.{shape_fault}
use Rattle.protocol_spec.specs.Chain.Committee.{weight, total_of, is_quorum, is_roll}

-- What is fixed for all members of a committee: the stakes; the limit of writers of one shared object between
-- two marks, or none; and which seals are accepted over which bytes.
pub record Rules : Type 0 where
  pub stakes : List ℕ
  pub writers : Option ℕ
  pub accepts : Signer → List ℕ → Digest → Bool

-- the rules of a committee
abbrev pub rules_of : List ℕ → Option ℕ → (Signer → List ℕ → Digest → Bool) → Rules
rules_of stakes writers accepts = record { stakes = stakes; writers = writers; accepts = accepts }

-- a member's seal covers the encoding of the statement, a sender's that of the transaction
abbrev pub accepts_statement : Rules → ℕ → Statement → Digest → Bool
accepts_statement r member st seal = r.accepts (signers.Member member) (messages.statement.spell st) seal

abbrev pub accepts_sender : Rules → Transaction → Digest → Bool
accepts_sender r t seal = r.accepts (signers.User t.sender.0) (transactions.transaction.spell t) seal

-- ---- reading: the value that all the bytes encode, or their first fault

abbrev pub read_as : {A : Type 0} → Result A Stop → Result A WireFault
read_as (Ok x) = Ok x
read_as (Err s) = Err (record { at = s.place.at; why = s.why })

unfoldable pub read_signed : List ℕ → Result SignedTx WireFault
read_signed bytes = read_as (whole transactions.signed bytes)

unfoldable pub read_certificate : List ℕ → Result Certificate WireFault
read_certificate bytes = read_as (whole messages.certificate bytes)

unfoldable pub read_entry : List ℕ → Result Entry WireFault
read_entry bytes = read_as (whole messages.entry bytes)

-- ---- certificates

-- the statement that each seal of a certificate is over
abbrev pub vote_of : Certificate → Statement
vote_of c = statement.Vote c.tx.epoch (transaction_digest c.tx) c.origins

abbrev pub members_of : Certificate → List ℕ
members_of c = map (λ (s : MemberSeal). s.member) c.seals

-- the seal that is not accepted
abbrev pub bad_seal : Rules → Certificate → MemberSeal → Option CertRefusal
bad_seal rules c s = where_true (not (accepts_statement rules s.member (vote_of c) s.seal)) (refused.BadSeal s.member)

abbrev pub cert_cases : Rules → Certificate → List (Option CertRefusal)
cert_cases rules c =
    option_map refused.Shape (shape_fault c.tx) ∷
    where_true (not (length c.origins == length (objects_of c.tx))) (refused.Shape 13) ∷
    where_true (not (is_roll rules.stakes (members_of c))) refused.Order ∷
    where_true (not (is_quorum rules.stakes (weight rules.stakes (members_of c)))) (refused.ShortStake (weight rules.stakes (members_of c)) (total_of rules.stakes)) ∷
    first_of (bad_seal rules c) c.seals ∷ []

-- why a certificate is not valid, if it is not
unfoldable pub cert_refusal : Rules → Certificate → Option CertRefusal
cert_refusal rules c = first_some (cert_cases rules c)
