-- Loops that add a command's results, and objects that leave the block.
use Rattle.std.specs.Prelude.{ℕ, ◌+◌, List, [], ◌∷◌, ◌++◌, Option, Some, None, true}
use Rattle.digest_core.specs.declared.Digest.{Digest}
use Rattle.digest_core.specs.Tagged.{created_id_of}
use Rattle.chain_types.specs.declared.objects.Content.TheVariants as content
use Rattle.chain_types.specs.declared.objects.Owner.{Owner}
use Rattle.protocol_spec.specs.declared.pieces.Item.{Item}
use Rattle.protocol_spec.specs.declared.pieces.Placed.{Placed}
use Rattle.chain_types.specs.declared.transactions.Argument.{Argument}
use Rattle.protocol_spec.specs.Block.Block.{Slot, value_in}
use Rattle.protocol_spec.specs.Block.Commands.{piece_of, place_of}
use Rattle.ptb_run.specs.declared.value.Value.{Value}
use Rattle.ptb_run.specs.declared.value.Value.TheVariants as values

-- the new coin of this amount: its creation number is k after the next one, `made`
abbrev pub new_coin : Digest → ℕ → ℕ → ℕ → ℕ → Item
new_coin tx made currency k amount = record { id = record { 0 = created_id_of tx (made + k) }; content = content.Coin currency amount; fresh = true }

abbrev pub coins_after : Digest → ℕ → ℕ → List (Option Value) → ℕ → List ℕ → List (Option Value)
coins_after tx made currency row k [] = row
coins_after tx made currency row k (amount ∷ rest) = coins_after tx made currency (row ++ Some (values.Object (new_coin tx made currency k amount)) ∷ []) (k + 1) rest

abbrev pub items_row_after : List (Option Value) → List Item → List (Option Value)
items_row_after row [] = row
items_row_after row (item ∷ rest) = items_row_after (row ++ Some (values.Object item) ∷ []) rest

abbrev pub with_placed : List Placed → Owner → Option Item → List Placed
with_placed placed who None = placed
with_placed placed who (Some item) = placed ++ record { item = item; owner = who } ∷ []

abbrev pub placed_after : List Slot → List Placed → Owner → List Argument → List Placed
placed_after slots placed who [] = placed
placed_after slots placed who (a ∷ rest) = placed_after slots (with_placed placed who (piece_of (value_in (place_of a) slots))) who rest
