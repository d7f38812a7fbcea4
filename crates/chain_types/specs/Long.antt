-- Lists of a transaction that are longer than a limit.
use Rattle.std.specs.Prelude.{ℕ, Bool, false, ◌||◌, nat_lt, List, length}
use Rattle.std.specs.List.{list_any}
use Rattle.chain_types.specs.declared.transactions.Input.{Input}
use Rattle.chain_types.specs.declared.transactions.Input.TheVariants as inputs
use Rattle.chain_types.specs.declared.transactions.Command.{Command}
use Rattle.chain_types.specs.declared.transactions.Command.TheVariants as commands
use Rattle.chain_types.specs.declared.transactions.Transaction.{Transaction}

abbrev pub is_long_list : {A : Type 0} → ℕ → List A → Bool
is_long_list most xs = nat_lt most (length xs)

abbrev pub is_long_input : ℕ → Input → Bool
is_long_input most (inputs.Pure bytes) = is_long_list most bytes
is_long_input most (inputs.Owned r) = false
is_long_input most (inputs.Immutable r) = false
is_long_input most (inputs.Shared id initial mutable) = false

abbrev pub is_long_command : ℕ → Command → Bool
is_long_command most (commands.Call native args) = is_long_list most args
is_long_command most (commands.Transfer values to) = is_long_list most values
is_long_command most (commands.Split coin amounts) = is_long_list most amounts
is_long_command most (commands.Merge target sources) = is_long_list most sources
is_long_command most (commands.MakeVec of_kind values) = is_long_list most values

-- too many inputs or commands, or an input with too many bytes, or a command with too many arguments or amounts
abbrev pub has_long_list : ℕ → Transaction → Bool
has_long_list most t =
    is_long_list most t.inputs || (list_any (is_long_input most) t.inputs || (is_long_list most t.commands || list_any (is_long_command most) t.commands))
