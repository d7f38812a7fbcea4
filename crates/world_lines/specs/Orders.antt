-- The sequences of a run, and their entries as rows. Source: one sequence for each epoch is the premise of the Sui Lutris
-- paper.
use Rattle.std.specs.Prelude.{◌≡◌, ◌<◌, ◌+◌, ℕ, Bool, List, [], ◌∷◌, ◌++◌, length, map, slice_set, if◌then◌else◌}
use Rattle.std.specs.List.{list_any}
use Rattle.wire_bcs.specs.Items.{length_limit}
use Rattle.digest_core.specs.declared.Digest.{Digest}
use Rattle.quorum_core.specs.declared.signer.Signer.{Signer}
use Rattle.quorum_core.specs.declared.signer.Signer.TheVariants as signers
use Rattle.chain_messages.specs.declared.messages.Entry.{Entry}
use Rattle.chain_messages.specs.declared.messages.Entry.TheVariants as entry
use Rattle.chain_messages.specs.declared.messages.Statement.TheVariants as statement
use Rattle.chain_messages.specs.declared.messages.MemberSeal.{MemberSeal}
use Rattle.chain_messages.specs.Messages as messages
use Rattle.protocol_spec.specs.Chain.Certificates.{Rules}
use Rattle.protocol_spec.specs.Member.Sequence.{seen}
use Rattle.protocol_spec.specs.Chain.Words.{Each}
use Rattle.world_spec.specs.World.{entries_at}
use Rattle.world_lines.specs.Ends.{ends_read}
use Rattle.world_lines.specs.declared.order.EntryView.{EntryView}
use Rattle.world_lines.specs.declared.order.EntryView.TheVariants as views
use Rattle.world_lines.specs.declared.order.OrderedRow.{OrderedRow}

-- the sequences of the epochs up to the open one, which is the last
pub record Orders : Type 0 where
  pub sequences : List (List Entry)
  pub epoch : ℕ

abbrev pub no_orders : Orders
no_orders = record { sequences = [] ∷ []; epoch = 0 }

-- the entries of the open epoch
abbrev pub open_in : Orders → List Entry
open_in o = entries_at o.sequences o.epoch

-- the sequences with this entry at the end of the open epoch's
abbrev pub with_entry : Orders → Entry → Orders
with_entry o e = record o { sequences = slice_set o.sequences o.epoch (open_in o ++ e ∷ []) }

-- another epoch opens, with no entry
abbrev pub risen_orders : Orders → Orders
risen_orders o = record { sequences = o.sequences ++ [] ∷ []; epoch = o.epoch + 1 }

-- the encoding of an entry
abbrev pub spelled_entry : Entry → List ℕ
spelled_entry e = messages.entry.spell e

-- whether the open epoch has ended: a member that sees all its entries sees its end
abbrev pub has_ended_by : Rules → Orders → Bool
has_ended_by r o = (seen r [] o.epoch (map spelled_entry (open_in o))).ended

-- ---- Ends

-- a member's End of an epoch, under its seal
abbrev pub sealed_end_by : (Signer → List ℕ → Digest) → ℕ → ℕ → Entry
sealed_end_by seal m epoch = entry.End (record { member = m; statement = statement.End epoch; seal = seal (signers.Member m) (messages.statement.spell (statement.End epoch)) })

-- the sequences after a check for the end of the epoch: if the open one has ended, another opens
abbrev pub risen_by : Rules → Orders → Orders
risen_by r o = if has_ended_by r o then risen_orders o else o

-- ---- rows

-- the entry of a row, from what its contracts keep of it
abbrev pub entry_in : EntryView → Entry
entry_in (views.Cert c) = entry.Cert c.value
entry_in (views.Whole e) = e.value

abbrev pub row_entry : OrderedRow → Entry
row_entry r = entry_in r.entry

abbrev pub entries_of : List OrderedRow → List Entry
entries_of rows = map row_entry rows

-- a row is sound: its bytes are its entry's encoding, and short enough for a record
pub record IsSpelled (r : OrderedRow) : Type 0 where
  pub spelled : r.bytes ≡ messages.entry.spell (row_entry r)
  pub short : length r.bytes < length_limit

abbrev pub AreSpelled : List OrderedRow → Type 0
AreSpelled rows = Each IsSpelled rows

abbrev pub row_bytes : OrderedRow → List ℕ
row_bytes r = r.bytes

-- these are the Ends of an epoch among the rows, without repetitions: as sets the two are equal (a test holds of one
-- of the first exactly if it holds of one of the others)
pub record AreEnds (epoch : ℕ) (rows : List OrderedRow) (ends : List MemberSeal) : Type 0 where
  pub same : (test : MemberSeal → Bool) → list_any test ends ≡ list_any test (ends_read epoch (map row_bytes rows))

abbrev pub orders_of : List (List OrderedRow) → List OrderedRow → Orders
orders_of past open_rows = record { sequences = map entries_of past ++ entries_of open_rows ∷ []; epoch = length past }
