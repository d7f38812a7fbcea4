-- How the results of commands in code relate to the definition's.
use Rattle.std.specs.Prelude.{◌≡◌, ℕ, Bool, nat_lt, length, Result, Ok, Err}
use Rattle.protocol_spec.specs.Block.Block.{Block}
use Rattle.protocol_spec.specs.Block.Commands as commands
use Rattle.chain_types.specs.declared.transactions.Command.{Command}
use Rattle.protocol_spec.specs.Chain.Shape.{arguments_of}
use Rattle.protocol_spec.specs.Block.Execution.{Failure}
use Rattle.ptb_run.specs.declared.halt.Failed.{Failed}
use Rattle.ptb_run.specs.declared.halt.Failed.TheVariants as failed
use Rattle.ptb_run.specs.declared.halt.Fault.{Fault}
use Rattle.ptb_run.specs.declared.halt.Fault.TheVariants as faults
use Rattle.ptb_run.specs.declared.halt.Halt.{Halt}
use Rattle.ptb_run.specs.declared.halt.Halt.TheVariants as halt
use Rattle.ptb_run.specs.Causes.{number_of_cause}

abbrev pub fault_of : Fault → commands.Fault
fault_of (faults.Cause k) = commands.cause (number_of_cause k)
fault_of (faults.Abort n) = commands.abort n

-- one command: the block is now the definition's, or the fault is its fault; if memory was refused nothing is said
abbrev pub Steps : {X : Type 0} → Result X Halt → Result Block commands.Fault → Block → Type 0
Steps (Ok x) says b = says ≡ Ok b
Steps (Err (halt.Fault fault)) says b = says ≡ Err (fault_of fault)
Steps (Err halt.OutOfMemory) says b = Unit {0}

-- `Steps` for a fault with the number of its command
abbrev pub StepsAt : {X : Type 0} → Result X Failed → ℕ → Result Block commands.Fault → Block → Type 0
StepsAt (Ok x) number says b = says ≡ Ok b
StepsAt (Err (failed.At command fault)) number says b = (command ≡ number) × (says ≡ Err (fault_of fault))
StepsAt (Err failed.OutOfMemory) number says b = Unit {0}

-- all commands of a block: the block is now the definition's, or the failure is its failure; if memory was refused
-- nothing is said
abbrev pub Runs : {X : Type 0} → Result X Failed → Result Block Failure → Block → Type 0
Runs (Ok x) says b = says ≡ Ok b
Runs (Err (failed.At command fault)) says b = says ≡ Err (command, fault_of fault)
Runs (Err failed.OutOfMemory) says b = Unit {0}

-- the command has more than 512 arguments
abbrev pub is_wide : Command → Bool
is_wide c = nat_lt 512 (length (arguments_of c))
