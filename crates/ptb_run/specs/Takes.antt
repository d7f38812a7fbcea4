-- When the value of an argument is what its need asks for.
use Rattle.std.specs.Prelude.{Bool, false, not, ◌&&◌, List, [], ◌∷◌, ◌++◌, Option, Some, None}
use Rattle.chain_types.specs.declared.transactions.Argument.{Argument}
use Rattle.protocol_spec.specs.declared.pieces.Given.{Given}
use Rattle.protocol_spec.specs.declared.pieces.Given.TheVariants as given
use Rattle.ptb_run.specs.declared.needs.Wanted.{Wanted}
use Rattle.ptb_run.specs.Needs.{need_meant}
use Rattle.protocol_spec.specs.Block.Block.{Block, Value, pure, object, vector, value_in}
use Rattle.protocol_spec.specs.Block.Commands.{Need, given_as, is_bad_pure, is_right_kind, place_of}

abbrev pub may_take : Need → Option Value → Bool
may_take need None = false
may_take need (Some value) = not (is_bad_pure need value) && is_right_kind need value

unfoldable pub is_taken : Block → (Argument × Need) → Bool
is_taken b x = may_take x.1 (value_in (place_of x.0) b.slots)

-- an object or a vector as a native's argument; any other value as the number 0, which no checked call hands over
abbrev pub value_given : Option Value → Given
value_given None = given.Number 0
value_given (Some (pure bytes)) = given.Number 0
value_given (Some (object item)) = given.Item item
value_given (Some (vector k items)) = given.Items items

-- the list so far, and after it what a native is given for these arguments
abbrev pub givens_after : Block → List Given → List Wanted → List Given
givens_after b givens [] = givens
givens_after b givens (w ∷ rest) = givens_after b (givens ++ given_as (need_meant w.need) (value_in (place_of w.argument) b.slots) ∷ []) rest
