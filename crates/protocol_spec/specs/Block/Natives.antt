-- The natives, which stand in for Move code: what they give. Their names and parameters are the table `NATIVES` of
-- `chain_types`. Source: this profile.
use Rattle.std.specs.Prelude.{ℕ, ◌+◌, ◌-◌, Bool, true, false, not, ◌==◌, nat_lt, nat_le, List, [], ◌∷◌, map, sum_by, slice_get, Option, Some, None}
use Rattle.std.specs.List.{list_any}
use Rattle.digest_core.specs.declared.Digest.{Digest}
use Rattle.digest_core.specs.Tagged.{created_id_of}
use Rattle.chain_types.specs.declared.objects.ObjectId.{ObjectId}
use Rattle.chain_types.specs.declared.objects.Kind.{Kind}
use Rattle.chain_types.specs.declared.objects.Kind.TheVariants as kind
use Rattle.chain_types.specs.declared.objects.Content.{Content}
use Rattle.chain_types.specs.declared.objects.Content.TheVariants as content
use Rattle.chain_types.specs.declared.objects.Owner.{Owner}
use Rattle.chain_types.specs.declared.objects.Owner.TheVariants as owner
use Rattle.chain_types.specs.declared.natives.Mode.{Mode}
use Rattle.chain_types.specs.declared.natives.TheConstants.{NATIVES}
use Rattle.protocol_spec.specs.declared.pieces.Item.{Item}
use Rattle.protocol_spec.specs.declared.pieces.Given.{Given}
use Rattle.protocol_spec.specs.declared.pieces.Given.TheVariants as given
use Rattle.protocol_spec.specs.declared.pieces.Gave.{Gave}
use Rattle.protocol_spec.specs.declared.pieces.Gave.TheVariants as gave
use Rattle.chain_types.specs.Equal.{id_eq}

-- ---- contents

abbrev pub kind_of : Content → Kind
kind_of (content.Coin currency balance) = kind.Coin
kind_of (content.Cap currency supply) = kind.Cap
kind_of (content.Counter value) = kind.Counter
kind_of (content.Vault currency balance) = kind.Vault
kind_of (content.VaultKey vault) = kind.VaultKey
kind_of (content.Limit value) = kind.Limit

-- the currency of a coin, a cap or a vault; no rule asks it of another content, since the parameters of a native and the
-- cases of a command let only these come
abbrev pub currency_of : Content → ℕ
currency_of (content.Coin currency balance) = currency
currency_of (content.Cap currency supply) = currency
currency_of (content.Counter value) = 0
currency_of (content.Vault currency balance) = currency
currency_of (content.VaultKey vault) = 0
currency_of (content.Limit value) = 0

-- what a content holds: a balance, a supply or a value; a vault's key holds nothing, and no rule asks what it holds
abbrev pub amount_of : Content → ℕ
amount_of (content.Coin currency balance) = balance
amount_of (content.Cap currency supply) = supply
amount_of (content.Counter value) = value
amount_of (content.Vault currency balance) = balance
amount_of (content.VaultKey vault) = 0
amount_of (content.Limit value) = value

-- the same content with another amount
abbrev pub with_amount : ℕ → Content → Content
with_amount n (content.Coin currency balance) = content.Coin currency n
with_amount n (content.Cap currency supply) = content.Cap currency n
with_amount n (content.Counter value) = content.Counter n
with_amount n (content.Vault currency balance) = content.Vault currency n
with_amount n (content.VaultKey vault) = content.VaultKey vault
with_amount n (content.Limit value) = content.Limit n

abbrev pub names_vault : ObjectId → Content → Bool
names_vault id (content.Coin currency balance) = false
names_vault id (content.Cap currency supply) = false
names_vault id (content.Counter value) = false
names_vault id (content.Vault currency balance) = false
names_vault id (content.VaultKey vault) = id_eq vault id
names_vault id (content.Limit value) = false

-- only counters and vaults may be shared
abbrev pub may_be_shared : Content → Bool
may_be_shared (content.Coin currency balance) = false
may_be_shared (content.Cap currency supply) = false
may_be_shared (content.Counter value) = true
may_be_shared (content.Vault currency balance) = true
may_be_shared (content.VaultKey vault) = false
may_be_shared (content.Limit value) = false

-- ---- parameters

-- how each native takes its parameters: by value, by mutable reference, by reference, or a number
abbrev pub parameters : List (List Mode)
parameters = map (λ native. native.1.now) NATIVES

-- a valid shape names only the natives of the table, so another number never comes
abbrev pub parameters_at : Option (List Mode) → List Mode
parameters_at None = []
parameters_at (Some modes) = modes

-- the parameters of a native
abbrev pub parameters_of : ℕ → List Mode
parameters_of native = parameters_at (slice_get parameters native)

-- how a native takes the parameter at this place, none if it has no such parameter
unfoldable pub mode_of : ℕ → ℕ → Option Mode
mode_of native place = slice_get (parameters_of native) place

-- ---- arguments

-- Each argument was read by the mode of its parameter, so it has the form that its native looks for. Words
-- are total, so these also say what another form would give; no call has one.

abbrev pub no_item : Item
no_item = record { id = record { 0 = record { 0 = [] } }; content = content.Limit 0; fresh = false }

abbrev pub number_given : Option Given → ℕ
number_given None = 0
number_given (Some (given.Number n)) = n
number_given (Some (given.Item item)) = 0
number_given (Some (given.Items items)) = 0

abbrev pub item_given : Option Given → Item
item_given None = no_item
item_given (Some (given.Number n)) = no_item
item_given (Some (given.Item item)) = item
item_given (Some (given.Items items)) = no_item

abbrev pub items_given : Option Given → List Item
items_given None = []
items_given (Some (given.Number n)) = []
items_given (Some (given.Item item)) = []
items_given (Some (given.Items items)) = items

abbrev pub number_at : List Given → ℕ → ℕ
number_at args place = number_given (slice_get args place)

abbrev pub item_at : List Given → ℕ → Item
item_at args place = item_given (slice_get args place)

abbrev pub items_at : List Given → ℕ → List Item
items_at args place = items_given (slice_get args place)

-- ---- what natives give

-- 2 ^ 64: amounts are below it
abbrev pub amount_limit : ℕ
amount_limit = 18446744073709551616

-- a call's surroundings: the transaction, the version at which it writes, and the number of the next creation
pub record Site : Type 0 where
  pub tx : Digest
  pub version : ℕ
  pub made : ℕ

-- a new object under the next number, or the k-th after it
abbrev pub new_item : Site → ℕ → Content → Item
new_item s k c = record { id = record { 0 = created_id_of s.tx (s.made + k) }; content = c; fresh = true }

-- a change of what the item holds
abbrev pub holding : ℕ → Item → Item
holding n item = record item { content = with_amount n item.content }

-- new objects, and the item that changed
abbrev pub gives : Site → List Content → Option Item → Gave
gives s [] changed = gave.Done [] changed None s.made
gives s (c ∷ cs) changed = gave.Done (new_item s 0 c ∷ []) changed None (s.made + 1)

abbrev pub owned_by_all : Site → Item → Owner → Gave
owned_by_all s item who = gave.Done [] None (Some (record { item = item; owner = who })) s.made

-- an abort if the test holds, and else what comes next
abbrev pub abort_if : Bool → ℕ → Gave → Gave
abort_if true code rest = gave.Abort code
abort_if false code rest = rest

abbrev pub other_currency : Item → Item → Bool
other_currency a b = not (currency_of a.content == currency_of b.content)

-- the sum of coins that lie in one vector
abbrev pub joined : Site → List Item → Gave
joined s [] = gave.Abort 1
joined s (first ∷ others) =
    abort_if (list_any (other_currency first) others) 2
    (abort_if (nat_le amount_limit (amount_of first.content + sum_by (λ (i : Item). amount_of i.content) others)) 3
    (gave.Done (holding (amount_of first.content + sum_by (λ (i : Item). amount_of i.content) others) first ∷ []) None None s.made))

abbrev pub coin_zero : Site → List Given → Gave
coin_zero s args = gives s (content.Coin (number_at args 0) 0 ∷ []) None

abbrev pub coin_mint : Site → Item → ℕ → Gave
coin_mint s cap n =
    abort_if (nat_le amount_limit (amount_of cap.content + n)) 1
    (gives s (content.Coin (currency_of cap.content) n ∷ []) (Some (holding (amount_of cap.content + n) cap)))

abbrev pub coin_burn : Site → Item → Item → Gave
coin_burn s cap coin =
    abort_if (other_currency cap coin) 1
    (abort_if (nat_lt (amount_of cap.content) (amount_of coin.content)) 2
    (gives s [] (Some (holding (amount_of cap.content - amount_of coin.content) cap))))

abbrev pub counter_add : Site → Item → ℕ → Gave
counter_add s counter n =
    abort_if (nat_le amount_limit (amount_of counter.content + n)) 1
    (gives s [] (Some (holding (amount_of counter.content + n) counter)))

abbrev pub counter_require : Site → Item → ℕ → Gave
counter_require s counter least = abort_if (nat_lt (amount_of counter.content) least) 1 (gives s [] None)

-- a vault, and then the key that names it
abbrev pub vault_new : Site → ℕ → Gave
vault_new s currency = gave.Done (new_item s 0 (content.Vault currency 0) ∷ new_item s 1 (content.VaultKey (record { 0 = created_id_of s.tx s.made })) ∷ []) None None (s.made + 2)

abbrev pub vault_deposit : Site → Item → Item → Gave
vault_deposit s vault coin =
    abort_if (other_currency vault coin) 1
    (abort_if (nat_le amount_limit (amount_of vault.content + amount_of coin.content)) 2
    (gives s [] (Some (holding (amount_of vault.content + amount_of coin.content) vault))))

abbrev pub vault_withdraw : Site → Item → Item → ℕ → Gave
vault_withdraw s vault key n =
    abort_if (not (names_vault vault.id key.content)) 1
    (abort_if (nat_lt (amount_of vault.content) n) 2
    (gives s (content.Coin (currency_of vault.content) n ∷ []) (Some (holding (amount_of vault.content - n) vault))))

abbrev pub share : Site → Item → Gave
share s item =
    abort_if (not item.fresh) 1
    (abort_if (not (may_be_shared item.content)) 2
    (owned_by_all s item (owner.Shared s.version)))

abbrev pub counter_add_limited : Site → Item → ℕ → Item → Gave
counter_add_limited s counter n limit =
    abort_if (nat_le amount_limit (amount_of counter.content + n)) 1
    (abort_if (nat_lt (amount_of limit.content) (amount_of counter.content + n)) 2
    (gives s [] (Some (holding (amount_of counter.content + n) counter))))

-- what each native gives of these arguments, by number
abbrev pub natives : Site → List Given → List Gave
natives s args =
    coin_zero s args ∷
    coin_mint s (item_at args 0) (number_at args 1) ∷
    coin_burn s (item_at args 0) (item_at args 1) ∷
    joined s (items_at args 0) ∷
    gives s (content.Counter (number_at args 0) ∷ []) None ∷
    counter_add s (item_at args 0) (number_at args 1) ∷
    counter_require s (item_at args 0) (number_at args 1) ∷
    vault_new s (number_at args 0) ∷
    vault_deposit s (item_at args 0) (item_at args 1) ∷
    vault_withdraw s (item_at args 0) (item_at args 1) (number_at args 2) ∷
    share s (item_at args 0) ∷
    owned_by_all s (item_at args 0) owner.Immutable ∷
    gives s (content.Limit (number_at args 0) ∷ []) None ∷
    counter_add_limited s (item_at args 0) (number_at args 1) (item_at args 2) ∷ []

-- another number never comes, as above
abbrev pub gave_at : Option Gave → Gave
gave_at None = gave.Abort 0
gave_at (Some g) = g

-- what the native of this number gives
unfoldable pub native_gives : ℕ → Site → List Given → Gave
native_gives native s args = gave_at (slice_get (natives s args) native)
