-- The form of each argument of a native: a number, an object or a list of objects, as its mode says.
use Rattle.std.specs.Prelude.{ℕ, Bool, true, false, ◌&&◌, List, [], ◌∷◌, slice_get, Option, Some, None}
use Rattle.protocol_spec.specs.declared.pieces.Given.{Given}
use Rattle.protocol_spec.specs.declared.pieces.Given.TheVariants as given
use Rattle.chain_types.specs.declared.natives.Mode.{Mode}
use Rattle.chain_types.specs.declared.natives.Mode.TheVariants as mode

abbrev pub is_number : Given → Bool
is_number (given.Number n) = true
is_number (given.Item item) = false
is_number (given.Items items) = false

abbrev pub is_item : Given → Bool
is_item (given.Number n) = false
is_item (given.Item item) = true
is_item (given.Items items) = false

abbrev pub is_items : Given → Bool
is_items (given.Number n) = false
is_items (given.Item item) = false
is_items (given.Items items) = true

abbrev pub has_form : Mode → Given → Bool
has_form mode.Number g = is_number g
has_form (mode.ByValue k) g = is_item g
has_form (mode.ByMut k) g = is_item g
has_form (mode.ByRef k) g = is_item g
has_form mode.Coins g = is_items g

-- as many arguments as modes, each of the form that its mode takes
abbrev pub have_forms : List Mode → List Given → Bool
have_forms [] [] = true
have_forms (m ∷ ms) (g ∷ gs) = has_form m g && have_forms ms gs
have_forms [] (g ∷ gs) = false
have_forms (m ∷ ms) [] = false

abbrev pub is_some_item : Option Given → Bool
is_some_item None = false
is_some_item (Some g) = is_item g

-- an object stands at this place
abbrev pub has_item : ℕ → List Given → Bool
has_item place args = is_some_item (slice_get args place)
