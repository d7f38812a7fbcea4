-- One command: its arguments, its causes in their order, and what it does. Source: Sui documentation
-- (programmable transaction blocks); the order of the causes is this profile's own.
use Rattle.std.specs.Prelude.{ℕ, ◌+◌, ◌-◌, Bool, true, false, not, ◌&&◌, ◌==◌, nat_lt, nat_le, List, [], ◌∷◌, ◌++◌, map, sum, sum_by, length, slice_get, filter_map, fold, Option, Some, None, option_map, Result, Ok, Err, if◌then◌else◌}
use Rattle.std.specs.Int.{w64, from_le_bytes}
use Rattle.std.specs.List.{list_any, enumerate_from}
use Rattle.digest_core.specs.declared.Digest.{Digest}
use Rattle.chain_types.specs.declared.objects.Address.{Address}
use Rattle.chain_types.specs.declared.objects.Kind.{Kind}
use Rattle.chain_types.specs.declared.objects.Kind.TheVariants as kind
use Rattle.chain_types.specs.declared.objects.Content.TheVariants as content
use Rattle.chain_types.specs.declared.objects.Owner.{Owner}
use Rattle.chain_types.specs.declared.objects.Owner.TheVariants as owner
use Rattle.chain_types.specs.declared.transactions.Input.{Input}
use Rattle.chain_types.specs.declared.transactions.Input.TheVariants as inputs
use Rattle.chain_types.specs.declared.transactions.Argument.{Argument}
use Rattle.chain_types.specs.declared.transactions.Argument.TheVariants as argument
use Rattle.chain_types.specs.declared.transactions.Command.{Command}
use Rattle.chain_types.specs.declared.transactions.Command.TheVariants as command
use Rattle.chain_types.specs.declared.transactions.Transaction.{Transaction}
use Rattle.protocol_spec.specs.declared.pieces.Item.{Item}
use Rattle.protocol_spec.specs.declared.pieces.Given.{Given}
use Rattle.protocol_spec.specs.declared.pieces.Given.TheVariants as given
use Rattle.protocol_spec.specs.declared.pieces.Placed.{Placed}
use Rattle.protocol_spec.specs.declared.pieces.Gave.{Gave}
use Rattle.protocol_spec.specs.declared.pieces.Gave.TheVariants as gave
use Rattle.chain_types.specs.declared.natives.Mode.{Mode}
use Rattle.chain_types.specs.declared.natives.Mode.TheVariants as mode
use Rattle.protocol_spec.specs.Chain.Words.{first_some, where_true, unless_refused, refused_or}
use Rattle.protocol_spec.specs.Chain.Tests.{kind_eq}
use Rattle.protocol_spec.specs.Block.Natives.{kind_of, currency_of, amount_of, holding, parameters_of, amount_limit, Site, new_item, native_gives}
use Rattle.protocol_spec.specs.Block.Block.{Place, gas, input, result, Value, pure, object, vector, Block, place_eq, value_in, put_in, result_count, with_results}

-- why a command fails: one of the causes 1 to 12, or the code with which a native aborts
pub data Fault : Type 0 where
  cause : ℕ → Fault
  abort : ℕ → Fault

-- how a command takes an argument
pub data Need : Type 0 where
  number : Need
  address : Need
  by_value : Option Kind → Need
  by_mut : Kind → Need
  by_ref : Kind → Need
  coins : Need

abbrev pub need_of : Mode → Need
need_of mode.Number = number
need_of (mode.ByValue k) = by_value k
need_of (mode.ByMut k) = by_mut k
need_of (mode.ByRef k) = by_ref k
need_of mode.Coins = coins

-- each argument with its need: Split changes a coin and reads amounts, Merge changes a coin and takes
-- coins, Transfer takes objects and reads an address, MakeVec takes objects of its kind
abbrev pub paired : List Argument → List Mode → List (Argument × Need)
paired (a ∷ rest) (m ∷ ms) = (a, need_of m) ∷ paired rest ms
paired [] ms = []
paired (a ∷ rest) [] = []

abbrev pub all_by : Need → List Argument → List (Argument × Need)
all_by need args = map (λ (a : Argument). (a, need)) args

abbrev pub needs_of : Command → List (Argument × Need)
needs_of (command.Call native args) = paired args (parameters_of native)
needs_of (command.Transfer values to) = all_by (by_value None) values ++ (to, address) ∷ []
needs_of (command.Split coin amounts) = (coin, by_mut kind.Coin) ∷ all_by number amounts
needs_of (command.Merge target sources) = (target, by_mut kind.Coin) ∷ all_by (by_value (Some kind.Coin)) sources
needs_of (command.MakeVec k values) = all_by (by_value (Some k)) values

-- the place that an argument names; Result(c) and Nested(c, 0) are one place
abbrev pub place_of : Argument → Place
place_of argument.Gas = gas
place_of (argument.Input n) = input n
place_of (argument.Result c) = result c 0
place_of (argument.Nested c k) = result c k

-- ---- causes of one argument

-- 2: a Result of a command that did not give exactly one result, or a Nested whose result does not exist
abbrev pub has_no_result : Block → Argument → Bool
has_no_result b argument.Gas = false
has_no_result b (argument.Input n) = false
has_no_result b (argument.Result c) = not (result_count c b.slots == 1)
has_no_result b (argument.Nested c k) = nat_le (result_count c b.slots) k

-- 3: pure bytes whose length is not that of the number or the address that is needed
abbrev pub is_bad_pure : Need → Value → Bool
is_bad_pure number (pure bytes) = not (length bytes == 8)
is_bad_pure address (pure bytes) = not (length bytes == 32)
is_bad_pure (by_value k) (pure bytes) = false
is_bad_pure (by_mut k) (pure bytes) = false
is_bad_pure (by_ref k) (pure bytes) = false
is_bad_pure coins (pure bytes) = false
is_bad_pure need (object item) = false
is_bad_pure need (vector k items) = false

-- 4: pure bytes although an object or a vector is needed, the reverse, or an object or a vector of the wrong kind
abbrev pub is_right_kind : Need → Value → Bool
is_right_kind number (pure bytes) = true
is_right_kind address (pure bytes) = true
is_right_kind (by_value None) (object item) = true
is_right_kind (by_value (Some k)) (object item) = kind_eq (kind_of item.content) k
is_right_kind (by_mut k) (object item) = kind_eq (kind_of item.content) k
is_right_kind (by_ref k) (object item) = kind_eq (kind_of item.content) k
is_right_kind coins (vector k items) = kind_eq k kind.Coin
is_right_kind number (object item) = false
is_right_kind number (vector k items) = false
is_right_kind address (object item) = false
is_right_kind address (vector k items) = false
is_right_kind (by_value n) (pure bytes) = false
is_right_kind (by_value n) (vector k items) = false
is_right_kind (by_mut n) (pure bytes) = false
is_right_kind (by_mut n) (vector k items) = false
is_right_kind (by_ref n) (pure bytes) = false
is_right_kind (by_ref n) (vector k items) = false
is_right_kind coins (pure bytes) = false
is_right_kind coins (object item) = false

abbrev pub is_transfer : Command → Bool
is_transfer (command.Call native args) = false
is_transfer (command.Transfer values to) = true
is_transfer (command.Split coin amounts) = false
is_transfer (command.Merge target sources) = false
is_transfer (command.MakeVec k values) = false

abbrev pub takes_value : Need → Bool
takes_value number = false
takes_value address = false
takes_value (by_value k) = true
takes_value (by_mut k) = false
takes_value (by_ref k) = false
takes_value coins = true

abbrev pub changes_value : Need → Bool
changes_value number = false
changes_value address = false
changes_value (by_value k) = false
changes_value (by_mut k) = true
changes_value (by_ref k) = false
changes_value coins = false

-- an input that is not the sender's
abbrev pub is_common : Option Input → Bool
is_common None = false
is_common (Some (inputs.Pure bytes)) = false
is_common (Some (inputs.Owned r)) = false
is_common (Some (inputs.Immutable r)) = true
is_common (Some (inputs.Shared id initial mutable)) = true

-- an input that may only be read
abbrev pub is_read_only : Option Input → Bool
is_read_only None = false
is_read_only (Some (inputs.Pure bytes)) = false
is_read_only (Some (inputs.Owned r)) = false
is_read_only (Some (inputs.Immutable r)) = true
is_read_only (Some (inputs.Shared id initial mutable)) = not mutable

-- 5: gas by value in a command other than Transfer, an immutable or shared input by value
abbrev pub stays_in_place : Transaction → Command → Place → Bool
stays_in_place t c gas = not (is_transfer c)
stays_in_place t c (input n) = is_common (slice_get t.inputs n)
stays_in_place t c (result command k) = false

-- 6: an immutable or read-only shared input by mutable reference
abbrev pub is_frozen_place : Transaction → Place → Bool
is_frozen_place t gas = false
is_frozen_place t (input n) = is_read_only (slice_get t.inputs n)
is_frozen_place t (result command k) = false

abbrev pub is_pure : Value → Bool
is_pure (pure bytes) = true
is_pure (object item) = false
is_pure (vector k items) = false

-- 7: an object or vector in a place that an earlier argument of this command names
abbrev pub is_aliased : List Argument → Argument → Value → Bool
is_aliased earlier a value = not (is_pure value) && list_any (λ e. place_eq (place_of e) (place_of a)) earlier

-- the causes that speak of the value, in their order
abbrev pub value_cases : Transaction → Command → List Argument → Argument → Need → Value → List (Option ℕ)
value_cases t c earlier a need value =
    where_true (is_bad_pure need value) 3 ∷
    where_true (not (is_right_kind need value)) 4 ∷
    where_true (takes_value need && stays_in_place t c (place_of a)) 5 ∷
    where_true (changes_value need && is_frozen_place t (place_of a)) 6 ∷
    where_true (is_aliased earlier a value) 7 ∷ []

-- 1: the place was used by value by an earlier command
abbrev pub value_cause : Transaction → Command → List Argument → Argument → Need → Option Value → Option ℕ
value_cause t c earlier a need None = Some 1
value_cause t c earlier a need (Some value) = first_some (value_cases t c earlier a need value)

-- the first cause of an argument, none if it may be taken
abbrev pub argument_cause : Transaction → Block → Command → List Argument → Argument → Need → Option ℕ
argument_cause t b c earlier a need =
    first_some (where_true (has_no_result b a) 2 ∷ value_cause t c earlier a need (value_in (place_of a) b.slots) ∷ [])

-- the first cause of the arguments, from left to right
abbrev pub arguments_cause : Transaction → Block → Command → List Argument → List (Argument × Need) → Option ℕ
arguments_cause t b c earlier [] = None
arguments_cause t b c earlier (x ∷ rest) =
    first_some (argument_cause t b c earlier x.0 x.1 ∷ arguments_cause t b c (earlier ++ x.0 ∷ []) rest ∷ [])

-- 11: a Call with more or fewer arguments than its native has parameters
abbrev pub wrong_count : Command → Bool
wrong_count (command.Call native args) = not (length args == length (parameters_of native))
wrong_count (command.Transfer values to) = false
wrong_count (command.Split coin amounts) = false
wrong_count (command.Merge target sources) = false
wrong_count (command.MakeVec k values) = false

-- ---- what lies in a place

abbrev pub bytes_of : Option Value → List ℕ
bytes_of None = []
bytes_of (Some (pure bytes)) = bytes
bytes_of (Some (object item)) = []
bytes_of (Some (vector k items)) = []

abbrev pub piece_of : Option Value → Option Item
piece_of None = None
piece_of (Some (pure bytes)) = None
piece_of (Some (object item)) = Some item
piece_of (Some (vector k items)) = None

abbrev pub number_in : Block → Argument → ℕ
number_in b a = from_le_bytes w64 (bytes_of (value_in (place_of a) b.slots))

abbrev pub item_in : Block → Argument → Option Item
item_in b a = piece_of (value_in (place_of a) b.slots)

abbrev pub items_in : Block → List Argument → List Item
items_in b args = filter_map (item_in b) args

-- the place of the argument is spent
abbrev pub spend : Argument → Block → Block
spend a b = record b { slots = put_in (place_of a) None b.slots }

abbrev pub spend_all : List Argument → Block → Block
spend_all args b = fold (λ (b : Block) (a : Argument). spend a b) b args

-- the item in the argument's place is now this one
abbrev pub put_back : Argument → Item → Block → Block
put_back a item b = record b { slots = put_in (place_of a) (Some (object item)) b.slots }

-- ---- Split: one new coin of the same currency for each amount; 8 if the coin shows less than their sum

abbrev pub numbered_coin : Site → ℕ → (ℕ × ℕ) → Value
numbered_coin s currency n = object (new_item s n.0 (content.Coin currency n.1))

abbrev pub split_block : Site → ℕ → Block → Argument → Item → List ℕ → Block
split_block s c b coin item amounts =
    with_results c (map (numbered_coin s (currency_of item.content)) (enumerate_from 0 amounts))
    (put_back coin (holding (amount_of item.content - sum amounts) item) (record b { made = b.made + length amounts }))

abbrev pub split : Site → ℕ → Block → Argument → Option Item → List ℕ → Result Block Fault
split s c b coin None amounts = Err (cause 4)
split s c b coin (Some item) amounts =
    if nat_lt (amount_of item.content) (sum amounts) then Err (cause 8) else Ok (split_block s c b coin item amounts)

-- ---- Merge: the sources are deleted; 10 if one has another currency, and then 9 if the sum, with the
-- withheld budget if the target is the gas coin, is not an amount

abbrev pub withheld : Transaction → Argument → ℕ
withheld t argument.Gas = t.budget
withheld t (argument.Input n) = 0
withheld t (argument.Result c) = 0
withheld t (argument.Nested c k) = 0

abbrev pub sum_of : List Item → ℕ
sum_of items = sum_by (λ (i : Item). amount_of i.content) items

abbrev pub merge_cases : Transaction → Argument → Item → List Item → List (Option Fault)
merge_cases t target item sources =
    where_true (list_any (λ (i : Item). not (currency_of i.content == currency_of item.content)) sources) (cause 10) ∷
    where_true (nat_le amount_limit (amount_of item.content + withheld t target + sum_of sources)) (cause 9) ∷ []

abbrev pub merge_block : Block → Argument → Item → List Argument → Block
merge_block b target item sources = put_back target (holding (amount_of item.content + sum_of (items_in b sources)) item) (spend_all sources b)

abbrev pub merge : Transaction → Block → Argument → Option Item → List Argument → Result Block Fault
merge t b target None sources = Err (cause 4)
merge t b target (Some item) sources = unless_refused (first_some (merge_cases t target item (items_in b sources))) (merge_block b target item sources)

-- ---- Transfer: the values leave the block to the address

abbrev pub placed_at : Owner → Item → Placed
placed_at who item = record { item = item; owner = who }

abbrev pub address_in : Block → Argument → Address
address_in b a = record { 0 = record { 0 = bytes_of (value_in (place_of a) b.slots) } }

abbrev pub transfer_block : Block → List Argument → Address → Block
transfer_block b values to = record (spend_all values b) { placed = b.placed ++ map (placed_at (owner.Address to)) (items_in b values) }

-- ---- MakeVec: one vector

abbrev pub vector_block : ℕ → Block → Kind → List Argument → Block
vector_block c b k values = with_results c (vector k (items_in b values) ∷ []) (spend_all values b)

-- ---- Call

abbrev pub given_as : Need → Option Value → Given
given_as number value = given.Number (from_le_bytes w64 (bytes_of value))
given_as address value = given.Number 0
given_as (by_value k) None = given.Number 0
given_as (by_value k) (Some (pure bytes)) = given.Number 0
given_as (by_value k) (Some (object item)) = given.Item item
given_as (by_value k) (Some (vector v items)) = given.Items items
given_as (by_mut k) None = given.Number 0
given_as (by_mut k) (Some (pure bytes)) = given.Number 0
given_as (by_mut k) (Some (object item)) = given.Item item
given_as (by_mut k) (Some (vector v items)) = given.Items items
given_as (by_ref k) None = given.Number 0
given_as (by_ref k) (Some (pure bytes)) = given.Number 0
given_as (by_ref k) (Some (object item)) = given.Item item
given_as (by_ref k) (Some (vector v items)) = given.Items items
given_as coins None = given.Number 0
given_as coins (Some (pure bytes)) = given.Number 0
given_as coins (Some (object item)) = given.Item item
given_as coins (Some (vector v items)) = given.Items items

abbrev pub given_all : Block → List (Argument × Need) → List Given
given_all b needs = map (λ (x : Argument × Need). given_as x.1 (value_in (place_of x.0) b.slots)) needs

-- what goes by value is spent
abbrev pub spend_taken : List (Argument × Need) → Block → Block
spend_taken [] b = b
spend_taken (x ∷ rest) b = spend_taken rest (if takes_value x.1 then spend x.0 b else b)

-- a native changes what its first parameter refers to
abbrev pub put_changed : List (Argument × Need) → Option Item → Block → Block
put_changed [] changed b = b
put_changed (x ∷ rest) None b = b
put_changed (x ∷ rest) (Some item) b = put_back x.0 item b

abbrev pub placed_list : Option Placed → List Placed
placed_list None = []
placed_list (Some p) = p ∷ []

abbrev pub called_block : ℕ → Block → List (Argument × Need) → List Item → Option Item → Option Placed → ℕ → Block
called_block c b needs results changed left made =
    with_results c (map object results)
    (record (put_changed needs changed (spend_taken needs b)) { placed = b.placed ++ placed_list left; made = made })

abbrev pub called : ℕ → Block → List (Argument × Need) → Gave → Result Block Fault
called c b needs (gave.Abort code) = Err (abort code)
called c b needs (gave.Done results changed left made) = Ok (called_block c b needs results changed left made)

-- ---- the command

abbrev pub site : Digest → ℕ → Block → Site
site tx version b = record { tx = tx; version = version; made = b.made }

-- what the command of number c does, if its arguments may be taken
abbrev pub performed : Transaction → Digest → ℕ → ℕ → Block → Command → Result Block Fault
performed t tx version c b (command.Split coin amounts) = split (site tx version b) c b coin (item_in b coin) (map (number_in b) amounts)
performed t tx version c b (command.Merge target sources) = merge t b target (item_in b target) sources
performed t tx version c b (command.Transfer values to) = Ok (transfer_block b values (address_in b to))
performed t tx version c b (command.MakeVec k values) = Ok (vector_block c b k values)
performed t tx version c b (command.Call native args) =
    called c b (paired args (parameters_of native)) (native_gives native (site tx version b) (given_all b (paired args (parameters_of native))))

abbrev pub taken_cause : Transaction → Block → Command → Option ℕ
taken_cause t b c = first_some (where_true (wrong_count c) 11 ∷ arguments_cause t b c [] (needs_of c) ∷ [])

-- one command, of number c, of a transaction with this digest that writes at this version
unfoldable pub command_step : Transaction → Digest → ℕ → ℕ → Block → Command → Result Block Fault
command_step t tx version c b x = refused_or (option_map cause (taken_cause t b x)) (performed t tx version c b x)
