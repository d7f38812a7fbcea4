-- Messages on the wire (BCS; the variant numbers are this profile's).
use Rattle.std.specs.Prelude.{ℕ, List, Option, ◌⊎◌, refl}
use Rattle.std.proofs.Common.{inl, inr}
use Rattle.digest_core.specs.declared.Digest.{Digest}
use Rattle.wire_bcs.specs.Codec.{Codec}
use Rattle.wire_bcs.specs.Items.{number, nothing}
use Rattle.wire_bcs.specs.Shapes.{pair, by, seq, option}
use Rattle.wire_bcs.specs.Tags.{case, last, choice}
use Rattle.wire_bcs.specs.Digests.{digest}
use Rattle.chain_types.specs.Transactions.{transaction}
use Rattle.chain_messages.specs.declared.messages.Statement.{Statement}
use Rattle.chain_messages.specs.declared.messages.Statement.TheVariants as statements
use Rattle.chain_messages.specs.declared.messages.Sealed.{Sealed}
use Rattle.chain_messages.specs.declared.messages.MemberSeal.{MemberSeal}
use Rattle.chain_messages.specs.declared.messages.Certificate.{Certificate}
use Rattle.chain_messages.specs.declared.messages.Entry.{Entry}
use Rattle.chain_messages.specs.declared.messages.Entry.TheVariants as entries

-- ---- Vote 0 (epoch, tx, origins); End 1 (epoch); Checkpoint 2 (epoch, number, digest); Ack 3 (epoch, tx, effects)

abbrev pub StatementParts : Type 0
StatementParts = (ℕ × (Digest × List (Option Digest))) ⊎ (ℕ ⊎ ((ℕ × (ℕ × Digest)) ⊎ (ℕ × (Digest × Digest))))

abbrev pub statement_to : Statement → StatementParts
statement_to (statements.Vote epoch tx origins) = inl (epoch, (tx, origins))
statement_to (statements.End epoch) = inr (inl epoch)
statement_to (statements.Checkpoint epoch number_of of) = inr (inr (inl (epoch, (number_of, of))))
statement_to (statements.Ack epoch tx effects) = inr (inr (inr (epoch, (tx, effects))))

abbrev pub statement_from : StatementParts → Statement
statement_from (inl p) = statements.Vote p.0 p.1.0 p.1.1
statement_from (inr (inl epoch)) = statements.End epoch
statement_from (inr (inr (inl p))) = statements.Checkpoint p.0 p.1.0 p.1.1
statement_from (inr (inr (inr p))) = statements.Ack p.0 p.1.0 p.1.1

unfoldable pub statement : Codec Statement
statement = by statement_to statement_from
    (elim [ statements.Vote a b c ↦ refl | statements.End a ↦ refl | statements.Checkpoint a b c ↦ refl | statements.Ack a b c ↦ refl ])
    (elim [ inl p ↦ refl | inr (inl a) ↦ refl | inr (inr (inl p)) ↦ refl | inr (inr (inr p)) ↦ refl ])
    (choice
    (case 0 (pair (number 8) (pair digest (seq (option digest))))  -- Vote
    (case 1 (number 8)  -- End
    (case 2 (pair (number 8) (pair (number 8) digest))  -- Checkpoint
    (last 3 (pair (number 8) (pair digest digest)))  -- Ack
    refl) refl) refl) refl)

-- member, statement, seal
unfoldable pub sealed : Codec Sealed
sealed = by (λ s. (s.member, (s.statement, s.seal))) (λ p. record { member = p.0; statement = p.1.0; seal = p.1.1 }) (λ _. refl) (λ _. refl)
    (pair (number 4) (pair statement digest))

-- member, seal
unfoldable pub member_seal : Codec MemberSeal
member_seal = by (λ s. (s.member, s.seal)) (λ p. record { member = p.0; seal = p.1 }) (λ _. refl) (λ _. refl) (pair (number 4) digest)

-- transaction, origins, seals
unfoldable pub certificate : Codec Certificate
certificate = by (λ c. (c.tx, (c.origins, c.seals))) (λ p. record { tx = p.0; origins = p.1.0; seals = p.1.1 }) (λ _. refl) (λ _. refl)
    (pair transaction (pair (seq (option digest)) (seq member_seal)))

-- ---- Cert 0 (certificate); End 1 (sealed); Commit 2

abbrev pub EntryParts : Type 0
EntryParts = Certificate ⊎ (Sealed ⊎ Unit {0})

abbrev pub entry_to : Entry → EntryParts
entry_to (entries.Cert cert) = inl cert
entry_to (entries.End said) = inr (inl said)
entry_to entries.Commit = inr (inr tt)

abbrev pub entry_from : EntryParts → Entry
entry_from (inl cert) = entries.Cert cert
entry_from (inr (inl said)) = entries.End said
entry_from (inr (inr u)) = entries.Commit

unfoldable pub entry : Codec Entry
entry = by entry_to entry_from
    (elim [ entries.Cert a ↦ refl | entries.End a ↦ refl | entries.Commit ↦ refl ])
    (elim [ inl a ↦ refl | inr (inl a) ↦ refl | inr (inr u) ↦ refl ])
    (choice
    (case 0 certificate  -- Cert
    (case 1 sealed  -- End
    (last 2 nothing)  -- Commit
    refl) refl) refl)
