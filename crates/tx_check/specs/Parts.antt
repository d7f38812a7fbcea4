-- How the code splits the search for the least fault of a shape: arguments, repeated ids, and the faults in two
-- groups.
use Rattle.std.specs.Prelude.{ℕ, Bool, true, false, ◌||◌, List, [], ◌∷◌, ◌++◌, Option, Some, None, if◌then◌else◌}
use Rattle.std.specs.List.{list_any}
use Rattle.chain_types.specs.declared.transactions.Argument.{Argument}
use Rattle.chain_types.specs.declared.transactions.Command.{Command}
use Rattle.chain_types.specs.declared.transactions.Command.TheVariants as command
use Rattle.chain_types.specs.declared.transactions.Input.{Input}
use Rattle.chain_types.specs.declared.transactions.Input.TheVariants as input
use Rattle.chain_types.specs.declared.transactions.Transaction.{Transaction}
use Rattle.chain_types.specs.declared.objects.ObjectId.{ObjectId}
use Rattle.chain_types.specs.Equal.{id_eq}
use Rattle.protocol_spec.specs.Chain.Keys.{named_id}
use Rattle.protocol_spec.specs.Chain.Shape.{shape_cases}
use Rattle.protocol_spec.specs.Chain.Words.{first_some}

-- ---- arguments: one beside the list, and the list

abbrev pub lone_of : Command → Option Argument
lone_of (command.Call native args) = None
lone_of (command.Transfer values to) = Some to
lone_of (command.Split coin amounts) = Some coin
lone_of (command.Merge target sources) = Some target
lone_of (command.MakeVec kind values) = None

abbrev pub listed_of : Command → List Argument
listed_of (command.Call native args) = args
listed_of (command.Transfer values to) = values
listed_of (command.Split coin amounts) = amounts
listed_of (command.Merge target sources) = sources
listed_of (command.MakeVec kind values) = values

abbrev pub any_lone : (Argument → Bool) → Option Argument → Bool
any_lone test None = false
any_lone test (Some argument) = test argument

-- ---- ids, one after the other

-- whether an id was among the earlier ones, or comes twice
abbrev pub repeats_after : List ObjectId → List ObjectId → Bool
repeats_after seen [] = false
repeats_after seen (id ∷ rest) = if list_any (λ other. id_eq id other) seen then true else repeats_after (seen ++ id ∷ []) rest

-- ---- ids among inputs

abbrev pub names_id : ObjectId → Input → Bool
names_id id (input.Pure bytes) = false
names_id id (input.Owned r) = id_eq id r.id
names_id id (input.Immutable r) = id_eq id r.id
names_id id (input.Shared other initial mutable) = id_eq id other

-- whether an id, if there is one, is named by one of the inputs
abbrev pub again_if : Option ObjectId → List Input → Bool
again_if None inputs = false
again_if (Some id) inputs = list_any (names_id id) inputs

-- whether two of the inputs name one id
abbrev pub two_named : List Input → Bool
two_named [] = false
two_named (i ∷ is) = again_if (named_id i) is || two_named is

-- ---- the first five faults, and the others

abbrev pub first_five : {A : Type 0} → List A → List A
first_five (a ∷ b ∷ c ∷ d ∷ e ∷ rest) = a ∷ b ∷ c ∷ d ∷ e ∷ []
first_five xs = xs

abbrev pub behind_five : {A : Type 0} → List A → List A
behind_five (a ∷ b ∷ c ∷ d ∷ e ∷ rest) = rest
behind_five xs = []

unfoldable pub list_fault : Transaction → Option ℕ
list_fault t = first_some (first_five (shape_cases t))

unfoldable pub command_fault : Transaction → Option ℕ
command_fault t = first_some (behind_five (shape_cases t))
