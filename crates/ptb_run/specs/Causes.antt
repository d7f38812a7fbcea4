-- The causes of a command's arguments as the code finds them, with the places that earlier arguments name kept on the
-- way.
use Rattle.std.specs.Prelude.{ℕ, ◌+◌, Bool, not, ◌&&◌, take, List, [], ◌∷◌, ◌++◌, Option, Some, None, if◌then◌else◌}
use Rattle.std.specs.List.{list_any}
use Rattle.chain_types.specs.declared.transactions.Command.{Command}
use Rattle.chain_types.specs.declared.transactions.Transaction.{Transaction}
use Rattle.protocol_spec.specs.Chain.Words.{first_some, where_true}
use Rattle.protocol_spec.specs.Block.Block.{Block, Place, Value, value_in}
use Rattle.protocol_spec.specs.Block.Commands.{Need, changes_value, has_no_result, is_bad_pure, is_frozen_place, is_pure, is_right_kind, place_of, stays_in_place, takes_value}
use Rattle.ptb_run.specs.declared.halt.Cause.{Cause}
use Rattle.ptb_run.specs.declared.halt.Cause.TheVariants as cause
use Rattle.ptb_run.specs.declared.value.Spot.{Spot}
use Rattle.ptb_run.specs.declared.needs.Wanted.{Wanted}
use Rattle.ptb_run.specs.Values.{spot_at, spot_eq}
use Rattle.ptb_run.specs.Needs.{need_meant}

-- the number that a cause has in the definition
abbrev pub number_of_cause : Cause → ℕ
number_of_cause cause.Spent = 1
number_of_cause cause.NoResult = 2
number_of_cause cause.BadPure = 3
number_of_cause cause.WrongKind = 4
number_of_cause cause.OnlyLent = 5
number_of_cause cause.ReadOnly = 6
number_of_cause cause.Aliased = 7
number_of_cause cause.TooLittle = 8
number_of_cause cause.Overflow = 9
number_of_cause cause.OtherCurrency = 10
number_of_cause cause.WrongCount = 11
number_of_cause cause.Unused = 12

-- the causes 3 to 7; `named` says whether an earlier argument of the command names the place
abbrev pub named_cases : Transaction → Command → Bool → Place → Need → Value → List (Option Cause)
named_cases t c named p need value =
    where_true (is_bad_pure need value) cause.BadPure ∷
    where_true (not (is_right_kind need value)) cause.WrongKind ∷
    where_true (takes_value need && stays_in_place t c p) cause.OnlyLent ∷
    where_true (changes_value need && is_frozen_place t p) cause.ReadOnly ∷
    where_true (not (is_pure value) && named) cause.Aliased ∷ []

unfoldable pub named_value_cause : Transaction → Command → Bool → Place → Need → Value → Option Cause
named_value_cause t c named p need value = first_some (named_cases t c named p need value)

abbrev pub named_place_cause : Transaction → Command → Bool → Place → Need → Option Value → Option Cause
named_place_cause t c named p need None = Some cause.Spent
named_place_cause t c named p need (Some value) = named_value_cause t c named p need value

unfoldable pub cause_of : Transaction → Block → Command → Bool → Wanted → Option Cause
cause_of t b c named w =
    first_some (where_true (has_no_result b w.argument) cause.NoResult ∷ named_place_cause t c named (place_of w.argument) (need_meant w.need) (value_in (place_of w.argument) b.slots) ∷ [])

abbrev pub is_seen : List Spot → Spot → Bool
is_seen seen spot = list_any (λ other. spot_eq spot other) seen

abbrev pub noted : List Spot → Spot → List Spot
noted seen spot = if is_seen seen spot then seen else seen ++ spot ∷ []

-- the first cause of these arguments, if the earlier ones name the places in `seen`
abbrev pub causes_after : Transaction → Block → Command → List Spot → List Wanted → Option Cause
causes_after t b c seen [] = None
causes_after t b c seen (w ∷ rest) =
    first_some (cause_of t b c (is_seen seen (spot_at w.argument)) w ∷ causes_after t b c (noted seen (spot_at w.argument)) rest ∷ [])

abbrev pub is_named : List Wanted → Spot → Bool
is_named earlier spot = list_any (λ (w : Wanted). spot_eq spot (spot_at w.argument)) earlier

-- the first cause of the arguments from this place on: each is compared with all before it in the whole list
abbrev pub causes_at : Transaction → Block → Command → List Wanted → ℕ → List Wanted → Option Cause
causes_at t b c whole place [] = None
causes_at t b c whole place (w ∷ rest) =
    first_some (cause_of t b c (is_named (take place whole) (spot_at w.argument)) w ∷ causes_at t b c whole (place + 1) rest ∷ [])
