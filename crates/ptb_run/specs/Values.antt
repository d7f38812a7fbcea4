-- The values of the code as the definitions have them.
use Rattle.std.specs.Prelude.{Bool, true, false, ◌==◌, ◌&&◌, Option, option_map}
use Rattle.ptb_run.specs.declared.value.Value.{Value}
use Rattle.ptb_run.specs.declared.value.Value.TheVariants as values
use Rattle.ptb_run.specs.declared.value.Spot.{Spot}
use Rattle.ptb_run.specs.declared.value.Spot.TheVariants as spots
use Rattle.chain_types.specs.declared.transactions.Argument.{Argument}
use Rattle.chain_types.specs.declared.transactions.Argument.TheVariants as argument
use Rattle.protocol_spec.specs.Block.Block as block

-- where a value lies
abbrev pub spot_of : Spot → block.Place
spot_of spots.Gas = block.gas
spot_of (spots.Input n) = block.input n
spot_of (spots.Result c k) = block.result c k

abbrev pub value_of : Value → block.Value
value_of (values.Pure bytes) = block.pure bytes
value_of (values.Object item) = block.object item
value_of (values.Vector kind items) = block.vector kind items

-- what a place holds, none if it is spent
abbrev pub held : Option Value → Option block.Value
held v = option_map value_of v

-- where the value of an argument lies, as the code says it
abbrev pub spot_at : Argument → Spot
spot_at argument.Gas = spots.Gas
spot_at (argument.Input n) = spots.Input n
spot_at (argument.Result c) = spots.Result c 0
spot_at (argument.Nested c k) = spots.Result c k

abbrev pub spot_eq : Spot → Spot → Bool
spot_eq spots.Gas spots.Gas = true
spot_eq (spots.Input a) (spots.Input b) = a == b
spot_eq (spots.Result a i) (spots.Result b j) = (a == b) && (i == j)
spot_eq spots.Gas (spots.Input b) = false
spot_eq spots.Gas (spots.Result b j) = false
spot_eq (spots.Input a) spots.Gas = false
spot_eq (spots.Input a) (spots.Result b j) = false
spot_eq (spots.Result a i) spots.Gas = false
spot_eq (spots.Result a i) (spots.Input b) = false
