-- Journal records on the wire (BCS; the variant numbers are this profile's).
use Rattle.std.specs.Prelude.{ℕ, List, Option, ◌⊎◌, refl}
use Rattle.std.proofs.Common.{inl, inr}
use Rattle.digest_core.specs.declared.Digest.{Digest}
use Rattle.wire_bcs.specs.Codec.{Codec}
use Rattle.wire_bcs.specs.Items.{nothing, bytes_codec}
use Rattle.wire_bcs.specs.Shapes.{pair, by, seq, option}
use Rattle.wire_bcs.specs.Tags.{case, last, choice}
use Rattle.wire_bcs.specs.Digests.{digest}
use Rattle.chain_types.specs.declared.transactions.Transaction.{Transaction}
use Rattle.chain_types.specs.Transactions.{transaction}
use Rattle.chain_messages.specs.declared.messages.Certificate.{Certificate}
use Rattle.chain_messages.specs.Messages.{certificate}
use Rattle.journal_core.specs.declared.records.RanItem.{RanItem}
use Rattle.journal_core.specs.declared.records.Record.{Record}
use Rattle.journal_core.specs.declared.records.Record.TheVariants as records

-- tx digest, effects digest
unfoldable pub ran_item : Codec RanItem
ran_item = by (λ i. (i.tx, i.effects)) (λ p. record { tx = p.0; effects = p.1 }) (λ _. refl) (λ _. refl) (pair digest digest)

-- ---- Vote 0 (transaction, origins); Hold 1 (certificate); See 2 (the entry's bytes with length); Close 3;
-- Ran 4 (sequence of digest); Turn 5; Ran2 6 (sequence of (tx digest, effects digest))

abbrev pub RecordParts : Type 0
RecordParts = (Transaction × List (Option Digest)) ⊎ (Certificate ⊎ (List ℕ ⊎ (Unit {0} ⊎ (List Digest ⊎ (Unit {0} ⊎ List RanItem)))))

abbrev pub record_to : Record → RecordParts
record_to (records.Vote tx origins) = inl (tx, origins)
record_to (records.Hold cert) = inr (inl cert)
record_to (records.See bytes) = inr (inr (inl bytes))
record_to records.Close = inr (inr (inr (inl tt)))
record_to (records.Ran ran) = inr (inr (inr (inr (inl ran))))
record_to records.Turn = inr (inr (inr (inr (inr (inl tt)))))
record_to (records.Ran2 ran) = inr (inr (inr (inr (inr (inr ran)))))

abbrev pub record_from : RecordParts → Record
record_from (inl p) = records.Vote p.0 p.1
record_from (inr (inl cert)) = records.Hold cert
record_from (inr (inr (inl bytes))) = records.See bytes
record_from (inr (inr (inr (inl u)))) = records.Close
record_from (inr (inr (inr (inr (inl ran))))) = records.Ran ran
record_from (inr (inr (inr (inr (inr (inl u)))))) = records.Turn
record_from (inr (inr (inr (inr (inr (inr ran)))))) = records.Ran2 ran

unfoldable pub journal_record : Codec Record
journal_record = by record_to record_from
    (elim [ records.Vote a b ↦ refl | records.Hold a ↦ refl | records.See a ↦ refl | records.Close ↦ refl | records.Ran a ↦ refl | records.Turn ↦ refl | records.Ran2 a ↦ refl ])
    (elim [ inl p ↦ refl | inr (inl a) ↦ refl | inr (inr (inl a)) ↦ refl | inr (inr (inr (inl u))) ↦ refl | inr (inr (inr (inr (inl a)))) ↦ refl | inr (inr (inr (inr (inr (inl u))))) ↦ refl | inr (inr (inr (inr (inr (inr a))))) ↦ refl ])
    (choice
    (case 0 (pair transaction (seq (option digest)))  -- Vote
    (case 1 certificate  -- Hold
    (case 2 bytes_codec  -- See
    (case 3 nothing  -- Close
    (case 4 (seq digest)  -- Ran
    (case 5 nothing  -- Turn
    (last 6 (seq ran_item))  -- Ran2
    refl) refl) refl) refl) refl) refl) refl)
