-- Loops that collect the objects, or the numbers, in the places of arguments.
use Rattle.std.specs.Prelude.{ℕ, List, [], ◌∷◌, ◌++◌, Option, Some, None}
use Rattle.chain_types.specs.declared.transactions.Argument.{Argument}
use Rattle.protocol_spec.specs.declared.pieces.Item.{Item}
use Rattle.protocol_spec.specs.Block.Block.{Block}
use Rattle.protocol_spec.specs.Block.Commands.{item_in, number_in}

abbrev pub with_item : List Item → Option Item → List Item
with_item items None = items
with_item items (Some item) = items ++ item ∷ []

abbrev pub items_after : Block → List Item → List Argument → List Item
items_after b items [] = items
items_after b items (a ∷ rest) = items_after b (with_item items (item_in b a)) rest

abbrev pub numbers_after : Block → List ℕ → List Argument → List ℕ
numbers_after b numbers [] = numbers
numbers_after b numbers (a ∷ rest) = numbers_after b (numbers ++ number_in b a ∷ []) rest
