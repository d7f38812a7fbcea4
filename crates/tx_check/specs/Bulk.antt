-- A cheap test of size: a transaction without bulk encodes to at most 131,072 bytes. Bulk is more than 128 inputs or
-- 300 commands, a pure input of more than 128 bytes, or a command with more than 64 listed arguments.
use Rattle.std.specs.Prelude.{ℕ, Bool, ◌||◌, nat_lt, length}
use Rattle.std.specs.List.{list_any}
use Rattle.chain_types.specs.declared.objects.ObjectRef.{ObjectRef}
use Rattle.chain_types.specs.declared.transactions.Command.{Command}
use Rattle.chain_types.specs.declared.transactions.Input.{Input}
use Rattle.chain_types.specs.declared.transactions.Input.TheVariants as input
use Rattle.chain_types.specs.declared.transactions.Transaction.{Transaction}
use Rattle.tx_check.specs.Parts.{listed_of}

abbrev pub is_bulky_ref : ObjectRef → Bool
is_bulky_ref r = nat_lt 32 (length r.id.0.0) || nat_lt 32 (length r.digest.0)

abbrev pub is_bulky_input : Input → Bool
is_bulky_input (input.Pure bytes) = nat_lt 128 (length bytes)
is_bulky_input (input.Owned r) = is_bulky_ref r
is_bulky_input (input.Immutable r) = is_bulky_ref r
is_bulky_input (input.Shared id initial mutable) = nat_lt 32 (length id.0.0)

abbrev pub is_bulky_command : Command → Bool
is_bulky_command c = nat_lt 64 (length (listed_of c))

abbrev pub has_bulk : Transaction → Bool
has_bulk t =
    nat_lt 32 (length t.sender.0.0) || (is_bulky_ref t.gas || (nat_lt 128 (length t.inputs) || (list_any is_bulky_input t.inputs || (nat_lt 300 (length t.commands) || list_any is_bulky_command t.commands))))
