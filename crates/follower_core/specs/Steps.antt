-- The loops over the transactions of a checkpoint, as recursions.
use Rattle.std.specs.Prelude.{◌≡◌, Bool, true, false, not, ◌&&◌, List, [], ◌∷◌, ◌++◌, fold, Option, Some, None, is_some, Result, Ok, Err, if◌then◌else◌}
use Rattle.indexmap.specs.IndexSet.{insert_all, insert_key}
use Rattle.chain_types.specs.declared.objects.Object.{Object}
use Rattle.chain_types.specs.declared.objects.ObjectId.{ObjectId}
use Rattle.chain_types.specs.declared.transactions.Input.{Input}
use Rattle.chain_types.specs.declared.transactions.Transaction.{Transaction}
use Rattle.chain_types.specs.Digests.{is_object, transaction_digest}
use Rattle.chain_types.specs.Equal.{id_eq}
use Rattle.protocol_spec.specs.declared.pieces.Executed.{Executed}
use Rattle.protocol_spec.specs.Chain.Keys.{named_id}
use Rattle.protocol_spec.specs.Chain.Shape.{shape_fault}
use Rattle.protocol_spec.specs.Chain.Tests.{has_digest, has_id}
use Rattle.protocol_spec.specs.Member.Sequential.{Objects, named_in, with_object, without_id}
use Rattle.follower_core.specs.declared.refusals.FollowRefusal.{FollowRefusal}
use Rattle.follower_core.specs.Courses.{Course, given, is_bad, is_held}
use Rattle.follower_core.specs.Following.{is_memory}

-- ---- what is read

abbrev pub with_read : List Object → Option Object → Option (List Object)
with_read done None = None
with_read done (Some o) = Some (done ++ o ∷ [])

-- the objects read so far, followed by those that the inputs name, in order; none once one is missing
abbrev pub reads_from : Objects → Option (List Object) → List Input → Option (List Object)
reads_from m None is = None
reads_from m (Some done) [] = Some done
reads_from m (Some done) (i ∷ is) = reads_from m (if is_object i then with_read done (named_in m i) else Some done) is

-- ---- ids

abbrev pub with_named : List ObjectId → Option ObjectId → List ObjectId
with_named ids None = ids
with_named ids (Some id) = insert_key id_eq ids id

-- the ids so far, followed by those that the inputs name, each once
abbrev pub named_after : List ObjectId → List Input → List ObjectId
named_after ids [] = ids
named_after ids (i ∷ is) = named_after (with_named ids (named_id i)) is

-- `creates_held` over the list of named ids: the object's id is none of them, and a version of it is held
abbrev pub creates_in : Course → List ObjectId → Object → Bool
creates_in m named o = not (has_id named o.id) && is_held m o.id

-- ---- what is written

abbrev pub with_objects : Course → List Object → Course
with_objects m objects = record m { map = fold with_object m.map objects }

abbrev pub without_ids : Course → List ObjectId → Course
without_ids m ids = record m { map = fold without_id m.map ids; gone = insert_all id_eq m.gone ids }

-- ---- what stands

-- the outcome of a transaction if it can stand, none if it is bad (`is_bad`)
abbrev pub good : Course → Transaction → Option Executed → Option Executed
good m t None = None
good m t (Some x) = if is_bad m t (Some x) then None else Some x

-- the outcome of a transaction after those before it, none if it is stuck
unfoldable pub standing : Course → Transaction → Option Executed
standing m t =
    if is_some (shape_fault t) then None else
    (if has_digest m.ran (transaction_digest t) then None else good m t (given m.map t))

-- the answer of a check against the refusal that is due: `Ok` if there is none, and else that refusal, or that memory
-- was refused
abbrev pub Stands : Result (Unit {0}) FollowRefusal → Option FollowRefusal → Type 0
Stands (Ok done) refusal = refusal ≡ None
Stands (Err e) refusal = is_memory e ≡ false → refusal ≡ Some e
