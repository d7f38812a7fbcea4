-- The shape of a transaction: the faults 1 to 12, of which the least that applies is the answer. Source: Sui documentation
-- (programmable transaction blocks); the limits are this profile's own.
use Rattle.std.specs.Prelude.{ℕ, ◌+◌, ◌-◌, ◌*◌, Bool, true, false, ◌||◌, ◌==◌, nat_lt, nat_le, List, [], ◌∷◌, ◌++◌, length, Option}
use Rattle.std.specs.List.{list_any, enumerate_from}
use Rattle.chain_types.specs.declared.natives.TheConstants.{LAST_NATIVE}
use Rattle.chain_types.specs.declared.transactions.Input.{Input}
use Rattle.chain_types.specs.declared.transactions.Input.TheVariants as input
use Rattle.chain_types.specs.declared.transactions.Argument.{Argument}
use Rattle.chain_types.specs.declared.transactions.Argument.TheVariants as argument
use Rattle.chain_types.specs.declared.transactions.Command.{Command}
use Rattle.chain_types.specs.declared.transactions.Command.TheVariants as command
use Rattle.chain_types.specs.declared.transactions.Transaction.{Transaction}
use Rattle.chain_types.specs.Equal.{id_eq}
use Rattle.chain_types.specs.Transactions as transactions
use Rattle.protocol_spec.specs.Chain.Words.{first_some, where_true, repeats}
use Rattle.protocol_spec.specs.Chain.Keys.{objects_of, named_ids, version_limit}

-- every argument of a command, in order
abbrev pub arguments_of : Command → List Argument
arguments_of (command.Call native args) = args
arguments_of (command.Transfer values to) = values ++ to ∷ []
arguments_of (command.Split coin amounts) = coin ∷ amounts
arguments_of (command.Merge target sources) = target ∷ sources
arguments_of (command.MakeVec kind values) = values

-- an Input argument with no such input
abbrev pub is_no_input : Transaction → Argument → Bool
is_no_input t argument.Gas = false
is_no_input t (argument.Input n) = nat_le (length t.inputs) n
is_no_input t (argument.Result c) = false
is_no_input t (argument.Nested c k) = false

-- a result of a command that is not earlier than this one
abbrev pub is_late : ℕ → Argument → Bool
is_late here argument.Gas = false
is_late here (argument.Input n) = false
is_late here (argument.Result c) = nat_le here c
is_late here (argument.Nested c k) = nat_le here c

abbrev pub names_late : (ℕ × Command) → Bool
names_late (here, c) = list_any (is_late here) (arguments_of c)

-- a Split, Merge or Transfer of nothing
abbrev pub is_empty_list : {A : Type 0} → List A → Bool
is_empty_list [] = true
is_empty_list (x ∷ xs) = false

abbrev pub is_idle : Command → Bool
is_idle (command.Call native args) = false
is_idle (command.Transfer values to) = is_empty_list values
is_idle (command.Split coin amounts) = is_empty_list amounts
is_idle (command.Merge target sources) = is_empty_list sources
is_idle (command.MakeVec kind values) = false

-- a number past that of the last native
abbrev pub is_no_native : Command → Bool
is_no_native (command.Call native args) = nat_lt LAST_NATIVE native
is_no_native (command.Transfer values to) = false
is_no_native (command.Split coin amounts) = false
is_no_native (command.Merge target sources) = false
is_no_native (command.MakeVec kind values) = false

-- what a transaction costs
abbrev pub cost : Transaction → ℕ
cost t = 1000 + 100 * length t.commands

-- a version that no object has: 0, or above 2 ^ 62 - 2
abbrev pub is_bad_version : ℕ → Bool
is_bad_version version = (version == 0) || nat_lt (version_limit - 2) version

abbrev pub names_bad_version : Input → Bool
names_bad_version (input.Pure bytes) = false
names_bad_version (input.Owned r) = is_bad_version r.version
names_bad_version (input.Immutable r) = is_bad_version r.version
names_bad_version (input.Shared id initial mutable) = is_bad_version initial

abbrev pub shape_cases : Transaction → List (Option ℕ)
shape_cases t =
    where_true (nat_lt 131072 (length (transactions.transaction.spell t))) 1 ∷
    where_true (is_empty_list t.commands) 2 ∷
    where_true (nat_lt 1024 (length t.commands)) 3 ∷
    where_true (nat_lt 256 (length t.inputs)) 4 ∷
    where_true (repeats id_eq (named_ids t)) 5 ∷
    where_true (list_any (λ c. list_any (is_no_input t) (arguments_of c)) t.commands) 6 ∷
    where_true (list_any names_late (enumerate_from 0 t.commands)) 7 ∷
    where_true (list_any is_idle t.commands) 8 ∷
    where_true (list_any is_no_native t.commands) 9 ∷
    where_true (nat_lt t.budget (cost t)) 10 ∷
    where_true (list_any names_bad_version (objects_of t)) 11 ∷
    where_true (list_any (λ c. nat_lt 512 (length (arguments_of c))) t.commands) 12 ∷ []

-- the least fault, if there is one
unfoldable pub shape_fault : Transaction → Option ℕ
shape_fault t = first_some (shape_cases t)
