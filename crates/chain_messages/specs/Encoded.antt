-- The bytes of a transaction within an entry.
use Rattle.std.specs.Prelude.{◌≡◌, ℕ, List, []}
use Rattle.chain_types.specs.Transactions.{transaction}
use Rattle.chain_messages.specs.declared.messages.Entry.{Entry}
use Rattle.chain_messages.specs.declared.messages.Entry.TheVariants as entries

-- these bytes encode the transaction of the entry's certificate; another entry has no transaction, and no bytes of one
abbrev pub IsTxOf : Entry → List ℕ → Type 0
IsTxOf (entries.Cert c) bytes = bytes ≡ transaction.spell c.tx
IsTxOf (entries.End s) bytes = bytes ≡ []
IsTxOf entries.Commit bytes = bytes ≡ []
