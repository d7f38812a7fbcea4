-- The bytes that a record takes over.
use Rattle.std.specs.Prelude.{◌≡◌, ℕ, List}
use Rattle.chain_types.specs.Transactions.{transaction}
use Rattle.chain_messages.specs.Messages.{certificate}
use Rattle.journal_core.specs.declared.records.Record.{Record}
use Rattle.journal_core.specs.declared.records.Record.TheVariants as records

-- these bytes encode the transaction of a vote's record, or the certificate that a record holds; of other records nothing is said
abbrev pub IsEncodedIn : Record → List ℕ → Type 0
IsEncodedIn (records.Vote tx origins) bytes = bytes ≡ transaction.spell tx
IsEncodedIn (records.Hold cert) bytes = bytes ≡ certificate.spell cert
IsEncodedIn (records.See entry) bytes = Unit {0}
IsEncodedIn records.Close bytes = Unit {0}
IsEncodedIn (records.Ran txs) bytes = Unit {0}
IsEncodedIn records.Turn bytes = Unit {0}
IsEncodedIn (records.Ran2 items) bytes = Unit {0}
