-- The code's `Need` as the definition's, and the loops that pair arguments with needs.
use Rattle.std.specs.Prelude.{ℕ, ◌+◌, Bool, true, false, List, [], ◌∷◌, ◌++◌, Option, Some, None}
use Rattle.chain_types.specs.declared.objects.Kind.{Kind}
use Rattle.chain_types.specs.declared.transactions.Argument.{Argument}
use Rattle.chain_types.specs.declared.natives.Mode.{Mode}
use Rattle.chain_types.specs.declared.natives.Mode.TheVariants as modes
use Rattle.protocol_spec.specs.Chain.Tests.{kind_eq}
use Rattle.ptb_run.specs.declared.needs.Need.{Need}
use Rattle.ptb_run.specs.declared.needs.Need.TheVariants as needs
use Rattle.ptb_run.specs.declared.needs.Wanted.{Wanted}
use Rattle.ptb_run.specs.declared.needs.Arguments.{Arguments}
use Rattle.ptb_run.specs.declared.needs.Arguments.TheVariants as gathered
use Rattle.protocol_spec.specs.Block.Natives.{mode_of}
use Rattle.protocol_spec.specs.Block.Commands as commands

abbrev pub need_meant : Need → commands.Need
need_meant needs.Number = commands.number
need_meant needs.Address = commands.address
need_meant (needs.ByValue k) = commands.by_value k
need_meant (needs.ByMut k) = commands.by_mut k
need_meant (needs.ByRef k) = commands.by_ref k
need_meant needs.Coins = commands.coins

abbrev pub wanted_of : Wanted → Argument × commands.Need
wanted_of w = (w.argument, need_meant w.need)

-- an object of this kind is what is needed
abbrev pub is_item_right : commands.Need → Kind → Bool
is_item_right commands.number k = false
is_item_right commands.address k = false
is_item_right (commands.by_value None) k = true
is_item_right (commands.by_value (Some wanted)) k = kind_eq k wanted
is_item_right (commands.by_mut wanted) k = kind_eq k wanted
is_item_right (commands.by_ref wanted) k = kind_eq k wanted
is_item_right commands.coins k = false

-- the code's need for a native's mode
abbrev pub need_now : Mode → Need
need_now modes.Number = needs.Number
need_now (modes.ByValue k) = needs.ByValue k
need_now (modes.ByMut k) = needs.ByMut k
need_now (modes.ByRef k) = needs.ByRef k
need_now modes.Coins = needs.Coins

-- the list so far, and after it these arguments, all with one need
abbrev pub all_after : List Wanted → Need → List Argument → List Wanted
all_after wanted need [] = wanted
all_after wanted need (a ∷ rest) = all_after (wanted ++ record { argument = a; need = need } ∷ []) need rest

-- one step: the argument joins the list with the need of its mode, and `next` goes on; without a mode the list ends
abbrev pub pair_then : List Wanted → Argument → (List Wanted → List Wanted) → Option Mode → List Wanted
pair_then wanted a next None = wanted
pair_then wanted a next (Some m) = next (wanted ++ record { argument = a; need = need_now m } ∷ [])

abbrev pub pairs_after : List Wanted → ℕ → ℕ → List Argument → List Wanted
pairs_after wanted native place [] = wanted
pairs_after wanted native place (a ∷ rest) = pair_then wanted a (λ (more : List Wanted). pairs_after more native (place + 1) rest) (mode_of native place)

-- what was gathered, as a list
abbrev pub listed : Arguments → List Wanted
listed (gathered.One wanted) = wanted
listed (gathered.Two wanted) = wanted
listed (gathered.Three wanted) = wanted
listed (gathered.Many wanted) = wanted
