-- The transaction of a line in a world is that by what is known and held in it.
use Rattle.std.proofs.Common.{◌≡◌, ap, refl, map}
use Rattle.digest_core.specs.Tagged.{address_of_name}
use Rattle.chain_types.specs.declared.transactions.Input.{Input}
use Rattle.chain_types.specs.declared.transactions.Transaction.{Transaction}
use Rattle.schedule_text.specs.declared.words.InputWord.{InputWord}
use Rattle.schedule_text.specs.declared.words.InputWord.TheVariants as input_word
use Rattle.world_spec.specs.Setting.{Setting}
use Rattle.world_spec.specs.World.{Seating, WorldOf}
use Rattle.world_spec.specs.Making.{TxLine, command_of, input_over, made_as, transaction_over}
use Rattle.world_spec.specs.Known.{names_of}
use Rattle.world_spec.specs.MadeLines.{input_by, line_made, made_by, reference_by, transaction_by}
use Rattle.world_spec.specs.HeldDigests.{held_over}

module _ {S : Type 0} (k : Seating S) (s : Setting) (w : WorldOf S) where
  input_same : (word : InputWord) → input_over k s w word ≡ input_by (names_of s w) (held_over k w) word
  input_same (input_word.Number n) = refl
  input_same (input_word.Address name) = refl
  input_same (input_word.Bytes bytes) = refl
  input_same (input_word.Owned r) = refl
  input_same (input_word.Immutable r) = refl
  input_same (input_word.Shared object initial mutable) = refl

  abbrev with_inputs : TxLine → (InputWord → Input) → Transaction
  with_inputs l f = record {
    epoch = l.epoch;
    sender = record { 0 = address_of_name l.sender };
    gas = reference_by (names_of s w) (held_over k w) l.gas;
    budget = l.budget;
    inputs = map f l.inputs;
    commands = map command_of l.commands;
  }

  pub transaction_same : (l : TxLine) → transaction_over k s w l ≡ transaction_by (names_of s w) (held_over k w) l
  transaction_same l = ap (with_inputs l) (λ i word. input_same word i)

  pub line_same : (l : TxLine) → made_as s l.name l.spoiled (transaction_over k s w l) ≡ line_made (names_of s w) (held_over k w) s.seal l
  line_same l = ap (made_by s.seal l.name l.spoiled) (transaction_same l)
