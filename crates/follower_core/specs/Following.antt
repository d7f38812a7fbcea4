-- The state of a follower, and its answer to every checkpoint. Source: Sui Lutris; the order of the refusals, and that
-- a follower that was refused memory is down, are this profile's own.
use Rattle.std.specs.Prelude.{◌≡◌, ℕ, ◌+◌, ◌==◌, Bool, true, false, not, List, [], ◌∷◌, length, Option, Some, None, Result, Ok, Err, if◌then◌else◌}
use Rattle.chain_types.specs.declared.objects.Object.{Object}
use Rattle.chain_types.specs.declared.transactions.Transaction.{Transaction}
use Rattle.checkpoint_core.specs.declared.checkpoints.Checkpoint.{Checkpoint}
use Rattle.checkpoint_core.specs.declared.links.LinkRefusal.{LinkRefusal}
use Rattle.checkpoint_core.specs.Checkpoints.{digest_of_checkpoint}
use Rattle.checkpoint_core.specs.Links.{link_answer, wanted_number}
use Rattle.protocol_spec.specs.Chain.Words.{first_some, unless_refused, where_true}
use Rattle.protocol_spec.specs.Member.Sequential.{map_of}
use Rattle.follower_core.specs.declared.refusals.FollowRefusal.{FollowRefusal}
use Rattle.follower_core.specs.declared.refusals.FollowRefusal.TheVariants as refused
use Rattle.follower_core.specs.declared.tip.Tip.{Tip}
use Rattle.follower_core.specs.Followed.{Handed}
use Rattle.follower_core.specs.Courses.{Course, behind_all, first_bad}

-- the objects and the epoch's transactions; and the tip: the number and the digest of the last checkpoint, the epoch of
-- the next one, and whether no memory was refused yet
pub record State : Type 0 where
  pub course : Course
  pub tip : Tip

-- a follower to which nothing was handed yet
abbrev pub opened : List Object → State
opened opening = record { course = record { map = map_of opening; ran = []; gone = [] }; tip = record { before = None; epoch = 0; up = true } }

-- how many checkpoints were applied: their numbers run from 0
abbrev pub applied_in : Tip → ℕ
applied_in tip = wanted_number tip.before

-- ---- where an applied checkpoint leads

-- the course at the start of the next epoch: the same live objects, and nothing applied or deleted in it yet
abbrev pub turned : Course → Course
turned m = record { map = m.map; ran = []; gone = [] }

abbrev pub course_behind : Course → Checkpoint → List Transaction → Course
course_behind m c txs = if c.last then turned (behind_all m txs) else behind_all m txs

abbrev pub tip_behind : Tip → Checkpoint → Tip
tip_behind tip c = record {
  before = Some (c.number, digest_of_checkpoint c);
  epoch = if c.last then tip.epoch + 1 else tip.epoch;
  up = tip.up;
}

abbrev pub behind_checkpoint : State → Checkpoint → List Transaction → State
behind_checkpoint s c txs = record { course = course_behind s.course c txs; tip = tip_behind s.tip c }

-- ---- why a checkpoint is refused

abbrev pub link_refusal : Result (Unit {0}) LinkRefusal → Option FollowRefusal
link_refusal (Ok done) = None
link_refusal (Err refusal) = Some (refused.Link refusal)

-- the first of the causes that are tried before any transaction is looked at, none if none holds
unfoldable pub refusal_before : Tip → Checkpoint → List Transaction → Option FollowRefusal
refusal_before tip c txs = first_some (
    where_true (not tip.up) refused.Down ∷
    link_refusal (link_answer tip.before c) ∷
    where_true (not (c.epoch == tip.epoch)) (refused.Epoch c.epoch tip.epoch) ∷
    where_true (not (length txs == length c.items)) (refused.Count (length txs) (length c.items)) ∷ [])

-- why a checkpoint is refused: the first cause in order, none if it is applied
unfoldable pub refusal_of : State → Checkpoint → List Transaction → Option FollowRefusal
refusal_of s c txs = first_some (refusal_before s.tip c txs ∷ first_bad s.course 0 c.items txs ∷ [])

-- ---- what is answered, and what stands then

-- `Ok` without a refusal, else `Err` of it
abbrev pub unless : Option FollowRefusal → Result (Unit {0}) FollowRefusal
unless refusal = unless_refused refusal tt

abbrev pub is_memory : FollowRefusal → Bool
is_memory refused.Down = false
is_memory (refused.Link refusal) = false
is_memory (refused.Epoch had want) = false
is_memory (refused.Count had want) = false
is_memory (refused.WrongTx place) = false
is_memory (refused.Stuck place) = false
is_memory (refused.Differs place had want) = false
is_memory refused.OutOfMemory = true

-- what `apply` may answer: the number of applied checkpoints, or the refusal of `refusal_of`; instead, once the
-- transactions are looked at, that memory was refused
abbrev pub Answers : State → Checkpoint → List Transaction → Result ℕ FollowRefusal → Type 0
Answers s c txs (Ok count) = (refusal_of s c txs ≡ None) × (count ≡ applied_in s.tip + 1)
Answers s c txs (Err refusal) =
    (is_memory refusal ≡ false → refusal_of s c txs ≡ Some refusal)
    × (is_memory refusal ≡ true → refusal_before s.tip c txs ≡ None)

-- the state after that answer: if memory was refused the follower is down, and any other refusal changes nothing
abbrev pub state_behind : State → Checkpoint → List Transaction → Result ℕ FollowRefusal → State
state_behind s c txs (Ok count) = behind_checkpoint s c txs
state_behind s c txs (Err refusal) = if is_memory refusal then record { course = s.course; tip = record { before = s.tip.before; epoch = s.tip.epoch; up = false } } else s

-- ---- checkpoints in order

-- no checkpoint is refused in the state after those before it
abbrev pub AreApplied : State → List Handed → Type 0
AreApplied s [] = Unit {0}
AreApplied s (h ∷ hs) = (refusal_of s h.checkpoint h.txs ≡ None) × AreApplied (behind_checkpoint s h.checkpoint h.txs) hs

abbrev pub behind_handed : State → List Handed → State
behind_handed s [] = s
behind_handed s (h ∷ hs) = behind_handed (behind_checkpoint s h.checkpoint h.txs) hs
