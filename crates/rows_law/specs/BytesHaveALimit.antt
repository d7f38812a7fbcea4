-- A transaction with more bytes than one may have.
use Rattle.std.specs.Prelude.{◌≡◌, [], ◌∷◌, replicate, Some}
use Rattle.chain_types.specs.declared.transactions.Command.TheVariants as command
use Rattle.chain_types.specs.declared.transactions.Argument.TheVariants as argument
use Rattle.chain_types.specs.declared.transactions.Input.TheVariants as inputs
use Rattle.protocol_spec.specs.Chain.Shape.{shape_fault}
use Rattle.rows_law.specs.SomeTransaction.{transaction_of}

abbrev pub BytesHaveALimit : Type 0
BytesHaveALimit = shape_fault (transaction_of 2000 (inputs.Pure (replicate 131072 0) ∷ []) (command.Call 4 (argument.Input 0 ∷ []) ∷ [])) ≡ Some 1
