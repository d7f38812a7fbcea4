-- A transaction that is made can be encoded if its lists are as short as BCS can encode.
use Rattle.std.proofs.Common.{◌≡◌, false, arith}
use Rattle.chain_types.specs.declared.transactions.Transaction.{Transaction}
use Rattle.chain_types.specs.Transactions.{transaction}
use Rattle.chain_types.specs.Long.{has_long_list}
use Rattle.chain_types.proofs.Spelled as spelled

pub short_lists : (t : Transaction) → has_long_list 2147483647 t ≡ false → transaction.short t
short_lists t e = spelled.short_lists 2147483647 (omega arith) t e
