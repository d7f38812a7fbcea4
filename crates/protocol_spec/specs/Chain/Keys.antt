-- What a transaction names and consumes, and when objects fit it. Source: Sui documentation (object
-- ownership, versions); that every object counts for the version, immutable ones too, is this profile's choice.
use Rattle.std.specs.Prelude.{ℕ, Bool, true, false, ◌&&◌, ◌==◌, nat_lt, nat_le, List, [], ◌∷◌, map, filter, filter_map, Option, Some, None}
use Rattle.std.specs.List.{list_any}
use Rattle.chain_types.specs.declared.objects.ObjectId.{ObjectId}
use Rattle.chain_types.specs.declared.objects.ObjectKey.{ObjectKey}
use Rattle.chain_types.specs.declared.objects.Address.{Address}
use Rattle.chain_types.specs.declared.objects.Object.{Object}
use Rattle.chain_types.specs.declared.objects.Owner.{Owner}
use Rattle.chain_types.specs.declared.objects.Owner.TheVariants as owner
use Rattle.chain_types.specs.declared.objects.Content.{Content}
use Rattle.chain_types.specs.declared.objects.Content.TheVariants as content
use Rattle.chain_types.specs.declared.transactions.Input.{Input}
use Rattle.chain_types.specs.declared.transactions.Input.TheVariants as input
use Rattle.chain_types.specs.declared.transactions.Transaction.{Transaction}
use Rattle.chain_types.specs.Equal.{digest_eq, id_eq}
use Rattle.chain_types.specs.Digests.{digest_of_object, is_object, lamport_version}
use Rattle.protocol_spec.specs.Chain.Tests.{address_eq}
pub use Rattle.effects_core.specs.Money.{money_of}
unfoldable pub use Rattle.effects_core.specs.Money.{currency_sum}

-- ---- objects

abbrev pub object_key : Object → ObjectKey
object_key o = record { id = o.id; version = o.version }

abbrev pub is_address : Owner → Bool
is_address (owner.Address a) = true
is_address (owner.Shared initial) = false
is_address owner.Immutable = false

abbrev pub is_owned_by : Address → Owner → Bool
is_owned_by who (owner.Address a) = address_eq a who
is_owned_by who (owner.Shared initial) = false
is_owned_by who owner.Immutable = false

abbrev pub is_shared : Owner → Bool
is_shared (owner.Address a) = false
is_shared (owner.Shared initial) = true
is_shared owner.Immutable = false

abbrev pub is_shared_since : ℕ → Owner → Bool
is_shared_since initial (owner.Address a) = false
is_shared_since initial (owner.Shared n) = n == initial
is_shared_since initial owner.Immutable = false

abbrev pub is_immutable : Owner → Bool
is_immutable (owner.Address a) = false
is_immutable (owner.Shared initial) = false
is_immutable owner.Immutable = true

-- a coin of the currency that pays gas
abbrev pub is_gas_coin : Content → Bool
is_gas_coin (content.Coin currency balance) = currency == 0
is_gas_coin (content.Cap currency supply) = false
is_gas_coin (content.Counter value) = false
is_gas_coin (content.Vault currency balance) = false
is_gas_coin (content.VaultKey vault) = false
is_gas_coin (content.Limit value) = false

-- what a coin holds
abbrev pub balance_of : Content → ℕ
balance_of (content.Coin currency balance) = balance
balance_of (content.Cap currency supply) = 0
balance_of (content.Counter value) = 0
balance_of (content.Vault currency balance) = 0
balance_of (content.VaultKey vault) = 0
balance_of (content.Limit value) = 0

-- ---- the objects of a transaction

-- the objects that a transaction names: its gas coin, as an owned input, and then its inputs that name one
abbrev pub objects_of : Transaction → List Input
objects_of t = input.Owned t.gas ∷ filter is_object t.inputs

abbrev pub is_shared_input : Input → Bool
is_shared_input (input.Pure bytes) = false
is_shared_input (input.Owned r) = false
is_shared_input (input.Immutable r) = false
is_shared_input (input.Shared id initial mutable) = true

abbrev pub has_shared_input : Transaction → Bool
has_shared_input t = list_any is_shared_input t.inputs

-- the id that a shared input writes
abbrev pub mutable_id : Input → Option ObjectId
mutable_id (input.Pure bytes) = None
mutable_id (input.Owned r) = None
mutable_id (input.Immutable r) = None
mutable_id (input.Shared id initial true) = Some id
mutable_id (input.Shared id initial false) = None

-- the ids that a transaction names, in the order of its objects
abbrev pub named_id : Input → Option ObjectId
named_id (input.Pure bytes) = None
named_id (input.Owned r) = Some r.id
named_id (input.Immutable r) = Some r.id
named_id (input.Shared id initial mutable) = Some id

abbrev pub named_ids : Transaction → List ObjectId
named_ids t = filter_map named_id (objects_of t)

-- ---- versions

-- the version at which a transaction on these objects writes
abbrev pub version_of : List Object → ℕ
version_of inputs = lamport_version (map (λ (o : Object). o.version) inputs)

-- every written version is below it: 2 ^ 62
abbrev pub version_limit : ℕ
version_limit = 4611686018427387904

-- ---- when objects fit a transaction

-- the object is what the input names
abbrev pub fits_input : Transaction → Input → Object → Bool
fits_input t (input.Pure bytes) o = false
fits_input t (input.Owned r) o = id_eq o.id r.id && (o.version == r.version) && digest_eq (digest_of_object o) r.digest && is_owned_by t.sender o.owner
fits_input t (input.Immutable r) o = id_eq o.id r.id && (o.version == r.version) && digest_eq (digest_of_object o) r.digest && is_immutable o.owner
fits_input t (input.Shared id initial mutable) o = id_eq o.id id && is_shared_since initial o.owner

-- one object for each, in order
abbrev pub fit_inputs : Transaction → List Input → List Object → Bool
fit_inputs t [] [] = true
fit_inputs t (i ∷ is) (o ∷ os) = fits_input t i o && fit_inputs t is os
fit_inputs t [] (o ∷ os) = false
fit_inputs t (i ∷ is) [] = false

-- the first object pays gas: a coin of currency 0 that holds the budget
abbrev pub pays_gas : Transaction → List Object → Bool
pays_gas t [] = false
pays_gas t (gas ∷ os) = is_gas_coin gas.content && nat_le t.budget (balance_of gas.content)

unfoldable pub fits : Transaction → List Object → Bool
fits t inputs = fit_inputs t (objects_of t) inputs && pays_gas t inputs && nat_lt (version_of inputs) version_limit
