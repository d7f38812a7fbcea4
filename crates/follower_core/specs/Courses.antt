-- The transactions of a checkpoint, one after another: what each leaves, and why one cannot be applied. Source: Sui
-- Lutris; the order of the causes is this profile's own.
use Rattle.std.specs.Prelude.{ℕ, ◌+◌, Bool, true, not, ◌&&◌, ◌||◌, List, [], ◌∷◌, ◌++◌, map, Option, Some, None, is_some, if◌then◌else◌}
use Rattle.std.specs.List.{list_any}
use Rattle.std.specs.FinMap.{get}
use Rattle.indexmap.specs.IndexSet.{insert_all}
use Rattle.digest_core.specs.declared.Digest.{Digest}
use Rattle.chain_types.specs.declared.objects.Object.{Object}
use Rattle.chain_types.specs.declared.objects.ObjectId.{ObjectId}
use Rattle.chain_types.specs.declared.transactions.Transaction.{Transaction}
use Rattle.chain_types.specs.Equal.{digest_eq, id_eq}
use Rattle.chain_types.specs.Digests.{transaction_digest}
use Rattle.checkpoint_core.specs.declared.checkpoints.Item.{Item}
use Rattle.effects_core.specs.Effects.{digest_of_effects}
use Rattle.protocol_spec.specs.declared.pieces.Executed.{Executed}
use Rattle.protocol_spec.specs.Chain.Words.{first_some, repeats, where_true}
use Rattle.protocol_spec.specs.Chain.Tests.{has_digest, has_id}
use Rattle.protocol_spec.specs.Chain.Keys.{fits, named_ids}
use Rattle.protocol_spec.specs.Chain.Shape.{shape_fault}
use Rattle.protocol_spec.specs.Block.Execution.{execution}
use Rattle.protocol_spec.specs.Member.Sequential.{Objects, map_after, read_by}
use Rattle.follower_core.specs.declared.refusals.FollowRefusal.{FollowRefusal}
use Rattle.follower_core.specs.declared.refusals.FollowRefusal.TheVariants as refused

-- the live objects; of this epoch the transactions that were applied, in order, and the ids that were deleted, each once
pub record Course : Type 0 where
  pub map : Objects
  pub ran : List Digest
  pub gone : List ObjectId

-- ---- what a transaction gives

abbrev pub given_on : Transaction → Option (List Object) → Option Executed
given_on t None = None
given_on t (Some objects) = if fits t objects then Some (execution t objects) else None

-- what the sequential execution gives for a transaction on these objects, none if it has no effects
unfoldable pub given : Objects → Transaction → Option Executed
given m t = given_on t (read_by m t)

-- the course after a transaction with this digest that was executed with this outcome
abbrev pub with_given : Course → Digest → Executed → Course
with_given m tx x = record {
  map = map_after m.map x;
  ran = m.ran ++ tx ∷ [];
  gone = insert_all id_eq m.gone x.effects.deleted;
}

abbrev pub behind_given : Course → Transaction → Option Executed → Course
behind_given m t None = m
behind_given m t (Some x) = with_given m (transaction_digest t) x

-- the course after one transaction, unchanged if the transaction has no effects
abbrev pub behind : Course → Transaction → Course
behind m t = behind_given m t (given m.map t)

abbrev pub behind_all : Course → List Transaction → Course
behind_all m [] = m
behind_all m (t ∷ ts) = behind_all (behind m t) ts

-- ---- when a transaction cannot stand

-- a version of the id is held in this epoch: the object is live, or it was deleted in this epoch
abbrev pub is_held : Course → ObjectId → Bool
is_held m id = is_some (get m.map id) || has_id m.gone id

-- the transaction creates this object that it writes (it does not name the id), though a version of the id is held
abbrev pub creates_held : Course → Transaction → Object → Bool
creates_held m t o = not (has_id (named_ids t) o.id) && is_held m o.id

abbrev pub written_ids : Executed → List ObjectId
written_ids x = map (λ (o : Object). o.id) x.objects

-- the outcome cannot stand: there is none, it writes one id twice, or it creates an object whose id is held
abbrev pub is_bad : Course → Transaction → Option Executed → Bool
is_bad m t None = true
is_bad m t (Some x) = repeats id_eq (written_ids x) || list_any (creates_held m t) x.objects

-- a transaction cannot be applied here: its shape is not valid, it was applied before in this epoch, or its outcome is
-- bad
unfoldable pub is_stuck : Course → Transaction → Bool
is_stuck m t = is_some (shape_fault t) || (has_digest m.ran (transaction_digest t) || is_bad m t (given m.map t))

-- the refusal if the digest of the effects is not the one that the item lists
abbrev pub differs : ℕ → Digest → Digest → Option FollowRefusal
differs place had want = where_true (not (digest_eq had want)) (refused.Differs place had want)

abbrev pub differs_in : ℕ → Option Executed → Digest → Option FollowRefusal
differs_in place None want = None
differs_in place (Some x) want = differs place (digest_of_effects x.effects) want

-- why a transaction does not stand at a place under this item; none if it does
unfoldable pub place_refusal : Course → ℕ → Item → Transaction → Option FollowRefusal
place_refusal m place item t = first_some (
    where_true (not (digest_eq (transaction_digest t) item.tx)) (refused.WrongTx place) ∷
    where_true (is_stuck m t) (refused.Stuck place) ∷
    differs_in place (given m.map t) item.effects ∷ [])

-- the refusal of the first transaction, from this place on, that does not stand after those before it; none if all
-- stand
abbrev pub first_bad : Course → ℕ → List Item → List Transaction → Option FollowRefusal
first_bad m place [] ts = None
first_bad m place (i ∷ is) [] = None
first_bad m place (i ∷ is) (t ∷ ts) = first_some (place_refusal m place i t ∷ first_bad (behind m t) (place + 1) is ts ∷ [])
