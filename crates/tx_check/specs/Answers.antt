-- How the result of a check in code relates to the definition's fault.
use Rattle.std.specs.Prelude.{◌≡◌, ℕ, Option, Some, None, Result, Ok, Err}
use Rattle.tx_check.specs.declared.fault.ShapeFault.{ShapeFault}
use Rattle.tx_check.specs.declared.fault.ShapeFault.TheVariants as faults
use Rattle.tx_check.specs.declared.shape.ShapeRefusal.{ShapeRefusal}
use Rattle.tx_check.specs.declared.shape.ShapeRefusal.TheVariants as refusal

-- the number that a fault has in a refusal
abbrev pub number_of_fault : ShapeFault → ℕ
number_of_fault faults.TooLong = 1
number_of_fault faults.NoCommands = 2
number_of_fault faults.TooManyCommands = 3
number_of_fault faults.TooManyInputs = 4
number_of_fault faults.RepeatedId = 5
number_of_fault faults.NoInput = 6
number_of_fault faults.LateResult = 7
number_of_fault faults.Idle = 8
number_of_fault faults.NoNative = 9
number_of_fault faults.Poor = 10
number_of_fault faults.BadVersion = 11
number_of_fault faults.TooManyArguments = 12

-- Ok exactly if the definition has no fault, else its fault; if memory was refused nothing is said
abbrev pub Checks : {X : Type 0} → Result X ShapeRefusal → Option ℕ → Type 0
Checks (Ok x) fault = fault ≡ None
Checks (Err (refusal.Invalid number)) fault = fault ≡ Some number
Checks (Err refusal.OutOfMemory) fault = Unit {0}
