-- What a follower makes of the checkpoints that a member has built. Source: Sui Lutris (a node that executes what is
-- checkpointed).
use Rattle.std.specs.Prelude.{◌≡◌, ℕ, ◌+◌, true, List, [], ◌∷◌, ◌++◌, find, map, slice_get, Option, Some, Ok, Err, option_map}
use Rattle.std.specs.FinMap.{values}
use Rattle.digest_core.specs.declared.Digest.{Digest}
use Rattle.chain_types.specs.declared.transactions.Transaction.{Transaction}
use Rattle.chain_types.specs.Digests.{transaction_digest}
use Rattle.chain_types.specs.Equal.{digest_eq}
use Rattle.checkpoint_core.specs.declared.checkpoints.Checkpoint.{Checkpoint}
use Rattle.checkpoint_core.specs.declared.checkpoints.Item.{Item}
use Rattle.schedule_text.specs.declared.words.Event.{Event}
use Rattle.schedule_text.specs.declared.words.Setup.{Setup}
use Rattle.protocol_spec.specs.Chain.Words.{Each, Has, IsFront, last_of}
use Rattle.protocol_spec.specs.Member.Member.{Member, built}
use Rattle.protocol_spec.specs.Member.Sequential.{map_of}
use Rattle.world_spec.specs.Setting.{Setting, Trust, setting_of}
use Rattle.world_spec.specs.World.{Made, Seat, World, member_in}
use Rattle.world_spec.specs.Openings.{opening_at}
use Rattle.world_spec.specs.Run.{world_after}
use Rattle.world_spec.specs.Assumptions.{IsHonestRun, all_transactions}
use Rattle.block_law.specs.Orderly.{AreApart}
use Rattle.follower_core.specs.Followed.{Handed}
use Rattle.follower_core.specs.declared.refusals.FollowRefusal.{FollowRefusal}
use Rattle.follower_core.specs.Catching.{before_epoch, caught_up}
use Rattle.follower_core.specs.Following.{Answers, AreApplied, State, behind_handed, is_memory, opened}

-- ---- what is handed in

abbrev pub checkpoint_in : Handed → Checkpoint
checkpoint_in h = h.checkpoint

abbrev pub tx_listed : Item → Digest
tx_listed i = i.tx

-- a checkpoint that is handed in with a transaction for each item, in order: one of these, with the item's digest
pub record IsHandedFrom (txs : List Transaction) (h : Handed) : Type 0 where
  pub listed : map transaction_digest h.txs ≡ map tx_listed h.checkpoint.items
  pub known : Each (Has txs) h.txs

-- these checkpoints, or the first of them, each handed in with transactions that were made or read in the run
pub record AreHanded (s : Setting) (events : List Event) (checkpoints : List Checkpoint) (handed : List Handed) : Type 0 where
  pub first : IsFront (map checkpoint_in handed) checkpoints
  pub each : Each (IsHandedFrom (all_transactions s events)) handed

-- the transaction of this digest that a line of the run made, none if none did
abbrev pub made_as : World → Digest → Option Transaction
made_as w tx = option_map (λ (t : Made). t.signed.tx) (find (λ (t : Made). digest_eq t.digest tx) w.txs)

-- a caller that finds each item's transaction among those that the lines made hands in transactions of the run
abbrev pub LookedUpIsHanded : Type 0
LookedUpIsHanded = (s : Setting) (events : List Event) (c : Checkpoint) (txs : List Transaction)
    → map (λ (i : Item). made_as (world_after s events) i.tx) c.items ≡ map Some txs → IsHandedFrom (all_transactions s events) (record { checkpoint = c; txs = txs })

-- ---- the laws

-- a member's state at a moment of the run, after a prefix of its lines
pub record IsInRun (s : Setting) (events : List Event) (m : Member) : Type 0 where
  pub front : List Event
  pub back : List Event
  pub whole : front ++ back ≡ events
  pub place : ℕ
  pub seat : Seat
  pub there : slice_get (world_after s front).seats place ≡ Some seat
  pub same : member_in s seat ≡ m

-- a follower that opened with the objects of the set-up applies the checkpoints that the member has built, one after
-- the other
abbrev pub IsFollowed : Setting → List Event → Member → Type 0
IsFollowed s events m = (handed : List Handed) → AreHanded s events (built m) handed → AreApplied (opened s.opening) handed

-- a follower that has applied the member's earlier checkpoints refuses the next one only if it runs out of memory
abbrev pub OnlyMemoryIsWanting : Setting → List Event → Member → Type 0
OnlyMemoryIsWanting s events m = (before : List Handed) (next : Handed) → AreHanded s events (built m) (before ++ next ∷ [])
    → (refusal : FollowRefusal) → Answers (behind_handed (opened s.opening) before) next.checkpoint next.txs (Err refusal) → is_memory refusal ≡ true

-- all checkpoints of the member can be handed in: each item's transaction was made or read in the run
abbrev pub CanBeFollowed : Setting → List Event → Member → Type 0
CanBeFollowed s events m = (handed : List Handed) × AreHanded s events (built m) handed × (map checkpoint_in handed ≡ built m)

-- after the last checkpoint of an epoch the follower's live objects, by ascending id, are those with which the next
-- epoch opens
abbrev pub StandsAtOpenings : Setting → List Event → Member → Type 0
StandsAtOpenings s events m = (handed : List Handed) → AreHanded s events (built m) handed
    → (c : Checkpoint) → last_of (map checkpoint_in handed) ≡ Some c → c.last ≡ true
    → values (behind_handed (opened s.opening) handed).course.map ≡ opening_at s (world_after s events).sequences (c.epoch + 1)

-- after the last checkpoint of an epoch that member `a` has built, the follower's objects are those with which member
-- `b` opened the next epoch
abbrev pub IsOpenedAlike : Setting → List Event → Member → Member → Type 0
IsOpenedAlike s events a b = (handed : List Handed) → AreHanded s events (built a) handed
    → (c : Checkpoint) → last_of (map checkpoint_in handed) ≡ Some c → c.last ≡ true → b.epoch ≡ c.epoch + 1
    → values (behind_handed (opened s.opening) handed).course.map ≡ b.opening

-- under the run assumptions, the properties above hold of every member at every moment of the run
abbrev pub HonestCheckpointsAreFollowed : Type 0
HonestCheckpointsAreFollowed = (s : Setting) (events : List Event) → IsHonestRun s events → AreApart s.opening → (m : Member) → IsInRun s events m → IsFollowed s events m

abbrev pub HonestCheckpointsWantOnlyMemory : Type 0
HonestCheckpointsWantOnlyMemory = (s : Setting) (events : List Event) → IsHonestRun s events → AreApart s.opening → (m : Member) → IsInRun s events m → OnlyMemoryIsWanting s events m

abbrev pub HonestCheckpointsCanBeFollowed : Type 0
HonestCheckpointsCanBeFollowed = (s : Setting) (events : List Event) → IsHonestRun s events → AreApart s.opening → (m : Member) → IsInRun s events m → CanBeFollowed s events m

abbrev pub FollowersStandAtOpenings : Type 0
FollowersStandAtOpenings = (s : Setting) (events : List Event) → IsHonestRun s events → AreApart s.opening → (m : Member) → IsInRun s events m → StandsAtOpenings s events m

-- under the run assumptions, `IsOpenedAlike` holds of any two members, at any two moments of the run
abbrev pub FollowersOpenAlike : Type 0
FollowersOpenAlike = (s : Setting) (events : List Event) → IsHonestRun s events → AreApart s.opening → (a b : Member) → IsInRun s events a → IsInRun s events b → IsOpenedAlike s events a b

-- the same theorems for every run of every schedule: its set-up always opens with objects of different ids
abbrev pub FollowedInSchedules : Type 0
FollowedInSchedules = (trust : Trust) (lines : List Setup) (events : List Event) → IsHonestRun (setting_of trust lines) events → (m : Member) → IsInRun (setting_of trust lines) events m → IsFollowed (setting_of trust lines) events m

abbrev pub OnlyMemoryInSchedules : Type 0
OnlyMemoryInSchedules = (trust : Trust) (lines : List Setup) (events : List Event) → IsHonestRun (setting_of trust lines) events → (m : Member) → IsInRun (setting_of trust lines) events m → OnlyMemoryIsWanting (setting_of trust lines) events m

abbrev pub CanBeFollowedInSchedules : Type 0
CanBeFollowedInSchedules = (trust : Trust) (lines : List Setup) (events : List Event) → IsHonestRun (setting_of trust lines) events → (m : Member) → IsInRun (setting_of trust lines) events m → CanBeFollowed (setting_of trust lines) events m

abbrev pub StandInSchedules : Type 0
StandInSchedules = (trust : Trust) (lines : List Setup) (events : List Event) → IsHonestRun (setting_of trust lines) events → (m : Member) → IsInRun (setting_of trust lines) events m → StandsAtOpenings (setting_of trust lines) events m

abbrev pub OpenedAlikeInSchedules : Type 0
OpenedAlikeInSchedules = (trust : Trust) (lines : List Setup) (events : List Event) → IsHonestRun (setting_of trust lines) events
    → (a b : Member) → IsInRun (setting_of trust lines) events a → IsInRun (setting_of trust lines) events b → IsOpenedAlike (setting_of trust lines) events a b

-- ---- a follower that looks transactions up among those that lines made

-- each transaction of the run is found under its digest among those that its lines made: none was read only from bytes
abbrev pub AllMade : Setting → List Event → Type 0
AllMade s events = (t : Transaction) → Has (all_transactions s events) t → made_as (world_after s events) (transaction_digest t) ≡ Some t

-- a follower that finds transactions among those that lines made takes all checkpoints of the epochs before the
-- member's own, and has then the objects with which the member opened its epoch
pub record ComesThrough (s : Setting) (events : List Event) (m : Member) : Type 0 where
  pub state : State
  pub is : caught_up (made_as (world_after s events)) (opened s.opening) (before_epoch m.epoch (built m)) ≡ Ok state
  pub objects : state.course.map ≡ map_of m.opening

-- under the run assumptions, and if lines made all transactions, a follower comes through with each member at the end
-- of the run
abbrev pub FollowersComeThrough : Type 0
FollowersComeThrough = (s : Setting) (events : List Event) → IsHonestRun s events → AreApart s.opening → AllMade s events
    → (m : ℕ) (seat : Seat) → slice_get (world_after s events).seats m ≡ Some seat → ComesThrough s events (member_in s seat)

-- `FollowersComeThrough` for every run of every schedule
abbrev pub ComeThroughInSchedules : Type 0
ComeThroughInSchedules = (trust : Trust) (lines : List Setup) (events : List Event) → IsHonestRun (setting_of trust lines) events → AllMade (setting_of trust lines) events
    → (m : ℕ) (seat : Seat) → slice_get (world_after (setting_of trust lines) events).seats m ≡ Some seat → ComesThrough (setting_of trust lines) events (member_in (setting_of trust lines) seat)
