-- The vote rule: the first case that applies, or the origins that a vote names. Source: Sui Lutris; that
-- votes name origins is this profile's own.
use Rattle.std.specs.Prelude.{ℕ, Bool, false, not, ◌&&◌, nat_lt, List, [], ◌∷◌, map, find, Option, Some, None, option_map, is_some}
use Rattle.digest_core.specs.declared.Digest.{Digest}
use Rattle.chain_types.specs.declared.objects.ObjectId.{ObjectId}
use Rattle.chain_types.specs.declared.objects.ObjectKey.{ObjectKey}
use Rattle.chain_types.specs.declared.objects.Object.{Object}
use Rattle.chain_types.specs.declared.objects.Producer.{Producer}
use Rattle.chain_types.specs.declared.objects.Producer.TheVariants as producers
use Rattle.chain_types.specs.declared.transactions.Input.{Input}
use Rattle.chain_types.specs.declared.transactions.Input.TheVariants as inputs
use Rattle.chain_types.specs.declared.transactions.Transaction.{Transaction}
use Rattle.chain_types.specs.declared.refusals.DecideRefusal.{DecideRefusal}
use Rattle.chain_types.specs.declared.refusals.DecideRefusal.TheVariants as refused
use Rattle.chain_types.specs.Equal.{digest_eq}
use Rattle.chain_types.specs.Digests.{digest_of_object, key_of, consumed_keys}
use Rattle.protocol_spec.specs.Chain.Words.{first_some, first_of, where_true}
use Rattle.protocol_spec.specs.Chain.Tests.{has_key}
use Rattle.protocol_spec.specs.Chain.Keys.{objects_of, is_address, is_owned_by, is_shared_since, is_immutable, is_gas_coin, balance_of}
use Rattle.protocol_spec.specs.Member.Versions.{Execution, Version, versions, version_at, object_in, newest, live, consumer_of}

-- a vote of this epoch: the transaction's digest, the versions that it consumes, and the origins named
pub record Cast : Type 0 where
  pub digest : Digest
  pub consumed : List ObjectKey
  pub origins : List (Option Digest)

-- what a vote depends on: the store of the epoch, and the votes of the epoch
pub record Ballot : Type 0 where
  pub opening : List Object
  pub executed : List Execution
  pub votes : List Cast

abbrev pub object_held : Ballot → ObjectKey → Option Object
object_held b key = option_map object_in (version_at (versions b.opening b.executed) key)

-- ---- the cases, each for one object or key

abbrev pub shared_key : ObjectId → ℕ → ObjectKey
shared_key id initial = record { id = id; version = initial }

-- a version that is not held, or a shared object of which none is
abbrev pub absent : Ballot → Input → Option DecideRefusal
absent b (inputs.Pure bytes) = None
absent b (inputs.Owned r) = where_true (not (is_some (object_held b (key_of r)))) (refused.Absent (key_of r))
absent b (inputs.Immutable r) = where_true (not (is_some (object_held b (key_of r)))) (refused.Absent (key_of r))
absent b (inputs.Shared id initial mutable) = where_true (not (is_some (newest id (versions b.opening b.executed)))) (refused.Absent (shared_key id initial))

-- a version that an executed transaction consumed
abbrev pub consumed : Ballot → ObjectKey → Option DecideRefusal
consumed b key = option_map (λ (x : Execution). refused.Consumed key x.digest) (consumer_of b.executed key)

-- the test of the held version that a reference names
abbrev pub of_held : Option Object → (Object → Bool) → Bool
of_held None test = false
of_held (Some o) test = test o

-- another digest than the held version's
abbrev pub wrong_digest : Ballot → Input → Option DecideRefusal
wrong_digest b (inputs.Pure bytes) = None
wrong_digest b (inputs.Owned r) = where_true (of_held (object_held b (key_of r)) (λ o. not (digest_eq (digest_of_object o) r.digest))) (refused.WrongDigest (key_of r))
wrong_digest b (inputs.Immutable r) = where_true (of_held (object_held b (key_of r)) (λ o. not (digest_eq (digest_of_object o) r.digest))) (refused.WrongDigest (key_of r))
wrong_digest b (inputs.Shared id initial mutable) = None

-- owned by an address other than the sender's
abbrev pub wrong_owner : Ballot → Transaction → Input → Option DecideRefusal
wrong_owner b t (inputs.Pure bytes) = None
wrong_owner b t (inputs.Owned r) = where_true (of_held (object_held b (key_of r)) (λ (o : Object). is_address o.owner && not (is_owned_by t.sender o.owner))) (refused.WrongOwner (key_of r))
wrong_owner b t (inputs.Immutable r) = None
wrong_owner b t (inputs.Shared id initial mutable) = None

-- gas that is not a coin of currency 0 of an address
abbrev pub no_gas : Ballot → Transaction → Option DecideRefusal
no_gas b t = where_true (of_held (object_held b (key_of t.gas)) (λ (o : Object). not (is_address o.owner && is_gas_coin o.content))) (refused.WrongKind (key_of t.gas))

-- an object that is not of an address, not immutable, or not live and shared since then, as the input says
abbrev pub wrong_kind : Ballot → Input → Option DecideRefusal
wrong_kind b (inputs.Pure bytes) = None
wrong_kind b (inputs.Owned r) = where_true (of_held (object_held b (key_of r)) (λ (o : Object). not (is_address o.owner))) (refused.WrongKind (key_of r))
wrong_kind b (inputs.Immutable r) = where_true (of_held (object_held b (key_of r)) (λ (o : Object). not (is_immutable o.owner))) (refused.WrongKind (key_of r))
wrong_kind b (inputs.Shared id initial mutable) = where_true (not (of_held (live b.opening b.executed id) (λ (o : Object). is_shared_since initial o.owner))) (refused.WrongKind (shared_key id initial))

-- what the gas coin holds
abbrev pub held_balance : Option Object → ℕ
held_balance None = 0
held_balance (Some o) = balance_of o.content

abbrev pub gas_balance : Ballot → Transaction → ℕ
gas_balance b t = held_balance (object_held b (key_of t.gas))

-- a version that a vote for another transaction consumes
abbrev pub is_lock : Digest → ObjectKey → Cast → Bool
is_lock tx key v = not (digest_eq v.digest tx) && has_key v.consumed key

abbrev pub locked : List Cast → Digest → ObjectKey → Option DecideRefusal
locked votes tx key = option_map (λ (v : Cast). refused.Locked key v.digest) (find (is_lock tx key) votes)

abbrev pub vote_cases : Ballot → Transaction → Digest → List (Option DecideRefusal)
vote_cases b t tx =
    first_of (absent b) (objects_of t) ∷
    first_of (consumed b) (consumed_keys t) ∷
    first_of (wrong_digest b) (objects_of t) ∷
    first_of (wrong_owner b t) (objects_of t) ∷
    no_gas b t ∷
    first_of (wrong_kind b) (objects_of t) ∷
    where_true (nat_lt (gas_balance b t) t.budget) (refused.PoorGas (gas_balance b t) t.budget) ∷
    first_of (locked b.votes tx) (consumed_keys t) ∷ []

-- why the member does not vote for a transaction of this digest, if it does not
unfoldable pub vote_refusal : Ballot → Transaction → Digest → Option DecideRefusal
vote_refusal b t tx = first_some (vote_cases b t tx)

-- ---- origins: the transaction of this epoch that made each object's version, none if the epoch opened with it

abbrev pub maker : Producer → Option Digest
maker producers.Opening = None
maker (producers.Tx tx) = Some tx

abbrev pub made_by : Option Version → Option Digest
made_by None = None
made_by (Some v) = maker v.producer

-- of a shared object: the transaction of this epoch that shared it
abbrev pub origin_of : Ballot → Input → Option Digest
origin_of b (inputs.Pure bytes) = None
origin_of b (inputs.Owned r) = made_by (version_at (versions b.opening b.executed) (key_of r))
origin_of b (inputs.Immutable r) = made_by (version_at (versions b.opening b.executed) (key_of r))
origin_of b (inputs.Shared id initial mutable) = made_by (version_at (versions b.opening b.executed) (shared_key id initial))

unfoldable pub vote_origins : Ballot → Transaction → List (Option Digest)
vote_origins b t = map (origin_of b) (objects_of t)
