-- Different values have different encodings. Source: BCS.
use Rattle.std.specs.Prelude.{◌≡◌}
use Rattle.wire_bcs.specs.Codec.{Codec}
use Rattle.chain_types.specs.Transactions as transactions
use Rattle.chain_messages.specs.Messages as messages
use Rattle.journal_core.specs.Records as journals

-- values whose numbers and lengths are in their ranges are equal if their encodings are
abbrev pub AreSpelledApart : {A : Type 0} → Codec A → Type 0
AreSpelledApart {A} c = (x y : A) → c.fits x → c.fits y → c.spell x ≡ c.spell y → x ≡ y

pub record TransactionsAreSpelledApart : Type 0 where
  pub transactions : AreSpelledApart transactions.transaction
  pub statements : AreSpelledApart messages.statement
  pub certificates : AreSpelledApart messages.certificate
  pub entries : AreSpelledApart messages.entry
  pub records : AreSpelledApart journals.journal_record
