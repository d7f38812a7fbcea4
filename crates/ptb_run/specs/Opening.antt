-- What the places of the inputs hold before the first command.
use Rattle.std.specs.Prelude.{List, [], ◌∷◌, ◌++◌, Option, Some}
use Rattle.chain_types.specs.declared.objects.Object.{Object}
use Rattle.chain_types.specs.declared.transactions.Input.{Input}
use Rattle.chain_types.specs.declared.transactions.Input.TheVariants as inputs
use Rattle.protocol_spec.specs.Block.Execution.{item_of}
use Rattle.ptb_run.specs.declared.value.Value.{Value}
use Rattle.ptb_run.specs.declared.value.Value.TheVariants as values

-- the places so far, and after them those of these inputs, whose objects are `os` in order
abbrev pub cells_after : List (Option Value) → List Input → List Object → List (Option Value)
cells_after cells [] os = cells
cells_after cells (inputs.Pure bytes ∷ is) os = cells_after (cells ++ Some (values.Pure bytes) ∷ []) is os
cells_after cells (inputs.Owned r ∷ is) [] = cells
cells_after cells (inputs.Immutable r ∷ is) [] = cells
cells_after cells (inputs.Shared id initial mutable ∷ is) [] = cells
cells_after cells (inputs.Owned r ∷ is) (o ∷ os) = cells_after (cells ++ Some (values.Object (item_of o)) ∷ []) is os
cells_after cells (inputs.Immutable r ∷ is) (o ∷ os) = cells_after (cells ++ Some (values.Object (item_of o)) ∷ []) is os
cells_after cells (inputs.Shared id initial mutable ∷ is) (o ∷ os) = cells_after (cells ++ Some (values.Object (item_of o)) ∷ []) is os
