-- Transactions that no line of a schedule makes.
use Rattle.std.specs.Prelude.{ℕ, List, replicate}
use Rattle.chain_types.specs.declared.objects.ObjectId.{ObjectId}
use Rattle.chain_types.specs.declared.objects.ObjectRef.{ObjectRef}
use Rattle.chain_types.specs.declared.transactions.Input.{Input}
use Rattle.chain_types.specs.declared.transactions.Command.{Command}
use Rattle.chain_types.specs.declared.transactions.Transaction.{Transaction}

abbrev pub some_id : ℕ → ObjectId
some_id n = record { 0 = record { 0 = replicate 32 n } }

abbrev pub some_gas : ObjectRef
some_gas = record { id = some_id 1; version = 1; digest = record { 0 = replicate 32 2 } }

abbrev pub transaction_of : ℕ → List Input → List Command → Transaction
transaction_of budget inputs commands = record { epoch = 0; sender = record { 0 = record { 0 = replicate 32 3 } }; gas = some_gas; budget = budget; inputs = inputs; commands = commands }
