-- The transaction of a line, with the digests of versions and the seals given as functions.
use Rattle.std.specs.Prelude.{ℕ, ◌+◌, ◌-◌, ◌%◌, ◌==◌, List, Bool, map, fold, Option, if◌then◌else◌}
use Rattle.std.specs.Int.{w64, to_le_bytes}
use Rattle.digest_core.specs.declared.Digest.{Digest}
use Rattle.digest_core.specs.Tagged.{address_of_name}
use Rattle.quorum_core.specs.declared.signer.Signer.{Signer}
use Rattle.quorum_core.specs.declared.signer.Signer.TheVariants as signers
use Rattle.chain_types.specs.declared.objects.ObjectId.{ObjectId}
use Rattle.chain_types.specs.declared.objects.ObjectKey.{ObjectKey}
use Rattle.chain_types.specs.declared.objects.ObjectRef.{ObjectRef}
use Rattle.chain_types.specs.declared.transactions.Input.{Input}
use Rattle.chain_types.specs.declared.transactions.Input.TheVariants as inputs
use Rattle.chain_types.specs.declared.transactions.Argument.{Argument}
use Rattle.chain_types.specs.declared.transactions.Transaction.{Transaction}
use Rattle.chain_types.specs.Digests.{transaction_digest}
use Rattle.chain_types.specs.Transactions as transactions
use Rattle.schedule_text.specs.declared.words.ObjWord.{ObjWord}
use Rattle.schedule_text.specs.declared.words.RefWord.{RefWord}
use Rattle.schedule_text.specs.declared.words.ArgWord.{ArgWord}
use Rattle.schedule_text.specs.declared.words.InputWord.{InputWord}
use Rattle.schedule_text.specs.declared.words.InputWord.TheVariants as input_word
use Rattle.world_spec.specs.Setting.{Name}
use Rattle.world_spec.specs.World.{Made}
use Rattle.world_spec.specs.Making.{TxLine, argument_of, command_of, digest_or_zero, id_of, spoiled_if}
use Rattle.world_spec.specs.Known.{Known, setting_with, world_with}

-- the id that a word names
abbrev pub word_id : Known → ObjWord → ObjectId
word_id k word = id_of (setting_with k) (world_with k) word

-- a reference, by the digest that is held under its version
abbrev pub reference_at : (ObjectKey → Option Digest) → ObjectKey → Bool → ObjectRef
reference_at held key spoiled = record { id = key.id; version = key.version; digest = spoiled_if spoiled (digest_or_zero (held key)) }

abbrev pub reference_by : Known → (ObjectKey → Option Digest) → RefWord → ObjectRef
reference_by k held r = reference_at held (record { id = word_id k r.object; version = r.version }) r.spoiled

abbrev pub input_by : Known → (ObjectKey → Option Digest) → InputWord → Input
input_by k held (input_word.Number n) = inputs.Pure (to_le_bytes w64 n)
input_by k held (input_word.Address name) = inputs.Pure (address_of_name name).0
input_by k held (input_word.Bytes bytes) = inputs.Pure bytes
input_by k held (input_word.Owned r) = inputs.Owned (reference_by k held r)
input_by k held (input_word.Immutable r) = inputs.Immutable (reference_by k held r)
input_by k held (input_word.Shared object initial mutable) = inputs.Shared (word_id k object) initial mutable

abbrev pub transaction_by : Known → (ObjectKey → Option Digest) → TxLine → Transaction
transaction_by k held l = record {
  epoch = l.epoch;
  sender = record { 0 = address_of_name l.sender };
  gas = reference_by k held l.gas;
  budget = l.budget;
  inputs = map (input_by k held) l.inputs;
  commands = map command_of l.commands;
}

-- a transaction under a name, with its sender's seal
abbrev pub made_by : (Signer → List ℕ → Digest) → Name → Bool → Transaction → Made
made_by seal name spoiled t = record {
  name = name;
  digest = transaction_digest t;
  signed = record { tx = t; seal = spoiled_if spoiled (seal (signers.User t.sender.0) (transactions.transaction.spell t)) };
}

-- the transaction that a line makes
abbrev pub line_made : Known → (ObjectKey → Option Digest) → (Signer → List ℕ → Digest) → TxLine → Made
line_made k held seal l = made_by seal l.name l.spoiled (transaction_by k held l)

-- a byte with its last bit flipped
abbrev pub turned : ℕ → ℕ
turned b = if b % 2 == 0 then b + 1 else b - 1

-- the argument of the last word; `before` if there is no word
abbrev pub last_after : Argument → List ArgWord → Argument
last_after before words = fold (λ a word. argument_of word) before words
