-- Transactions just past the limits of a shape, and one at them.
use Rattle.std.specs.Prelude.{◌≡◌, ℕ, zero, suc, ◌+◌, List, [], ◌∷◌, ◌++◌, replicate, Some, None}
use Rattle.chain_types.specs.declared.objects.Kind.TheVariants as kind
use Rattle.chain_types.specs.declared.transactions.Command.{Command}
use Rattle.chain_types.specs.declared.transactions.Command.TheVariants as command
use Rattle.chain_types.specs.declared.transactions.Argument.TheVariants as argument
use Rattle.chain_types.specs.declared.transactions.Input.TheVariants as inputs
use Rattle.protocol_spec.specs.Chain.Shape.{shape_fault}
use Rattle.rows_law.specs.SomeTransaction.{transaction_of}

-- this many pairs of a new counter and its freezing, from the command of this number on
abbrev pub pairs : ℕ → ℕ → List Command
pairs from zero = []
pairs from (suc n) = command.Call 4 (argument.Input 0 ∷ []) ∷ command.Call 11 (argument.Result from ∷ []) ∷ pairs (from + 2) n

abbrev pub zero_number : List ℕ
zero_number = replicate 8 0

pub record BlocksHaveLimits : Type 0 where
  pub most_commands : shape_fault (transaction_of 200000 (inputs.Pure zero_number ∷ []) (pairs 0 512)) ≡ None
  pub commands : shape_fault (transaction_of 200000 (inputs.Pure zero_number ∷ []) (pairs 0 512 ++ command.Call 4 (argument.Input 0 ∷ []) ∷ [])) ≡ Some 3
  pub arguments : shape_fault (transaction_of 2000 (inputs.Pure zero_number ∷ []) (command.MakeVec kind.Coin (replicate 513 (argument.Input 0)) ∷ [])) ≡ Some 12
  pub inputs_at_most : shape_fault (transaction_of 2000 (replicate 257 (inputs.Pure zero_number)) (command.Call 4 (argument.Input 0 ∷ []) ∷ [])) ≡ Some 4
