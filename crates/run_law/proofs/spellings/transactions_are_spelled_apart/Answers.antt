use Rattle.chain_types.specs.Transactions as transactions
use Rattle.chain_messages.specs.Messages as messages
use Rattle.journal_core.specs.Records as journals
use Rattle.run_law.proofs.Apart.{apart}
use Rattle.run_law.proofs.spellings.transactions_are_spelled_apart.Goals as goal

pub returns : goal.returns
returns c = record {
  transactions = apart transactions.transaction;
  statements = apart messages.statement;
  certificates = apart messages.certificate;
  entries = apart messages.entry;
  records = apart journals.journal_record;
}
