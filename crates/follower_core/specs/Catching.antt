-- How far a follower gets if it takes checkpoints in order, each with its transactions, looked up by digest. Source: Sui
-- Lutris; what is reported of the first checkpoint that it does not apply is this profile's own.
use Rattle.std.specs.Prelude.{ℕ, ◌+◌, nat_lt, Bool, true, false, List, [], ◌∷◌, filter, Option, Some, None, Result, Ok, Err, if◌then◌else◌}
use Rattle.digest_core.specs.declared.Digest.{Digest}
use Rattle.chain_types.specs.declared.transactions.Transaction.{Transaction}
use Rattle.checkpoint_core.specs.declared.checkpoints.Checkpoint.{Checkpoint}
use Rattle.checkpoint_core.specs.declared.checkpoints.Item.{Item}
use Rattle.follower_core.specs.declared.catching.CatchUpRefusal.{CatchUpRefusal}
use Rattle.follower_core.specs.declared.catching.CatchUpRefusal.TheVariants as stopped
use Rattle.follower_core.specs.declared.refusals.FollowRefusal.{FollowRefusal}
use Rattle.follower_core.specs.declared.refusals.FollowRefusal.TheVariants as refused
use Rattle.follower_core.specs.Following.{State, behind_checkpoint, refusal_of}

-- the transaction of a digest, none if it is not known
abbrev pub Known : Type 0
Known = Digest → Option Transaction

-- ---- the transactions of a checkpoint

abbrev pub with_found : Option Transaction → ℕ → Result (List Transaction) ℕ → Result (List Transaction) ℕ
with_found None place rest = Err place
with_found (Some t) place (Ok ts) = Ok (t ∷ ts)
with_found (Some t) place (Err at) = Err at

-- the transactions of these items in order, or the first place, counted from this one, whose transaction is not known
abbrev pub found_from : Known → ℕ → List Item → Result (List Transaction) ℕ
found_from known place [] = Ok []
found_from known place (i ∷ is) = with_found (known i.tx) place (found_from known (place + 1) is)

-- ---- one checkpoint

-- the refusal of catching up for a checkpoint of this number that a follower refused. (A checkpoint that was built and
-- is handed in with the transactions of its items is refused only if one of them is stuck or differs.)
abbrev pub refusal_as : ℕ → FollowRefusal → CatchUpRefusal
refusal_as n refused.Down = stopped.Stuck n 0
refusal_as n (refused.Link refusal) = stopped.Stuck n 0
refusal_as n (refused.Epoch had want) = stopped.Stuck n 0
refusal_as n (refused.Count had want) = stopped.Stuck n 0
refusal_as n (refused.WrongTx place) = stopped.Stuck n place
refusal_as n (refused.Stuck place) = stopped.Stuck n place
refusal_as n (refused.Differs place had want) = stopped.Differs n place
refusal_as n refused.OutOfMemory = stopped.OutOfMemory

abbrev pub applied_unless : State → Checkpoint → List Transaction → Option FollowRefusal → Result State CatchUpRefusal
applied_unless s c txs None = Ok (behind_checkpoint s c txs)
applied_unless s c txs (Some refusal) = Err (refusal_as c.number refusal)

abbrev pub applied_with : State → Checkpoint → Result (List Transaction) ℕ → Result State CatchUpRefusal
applied_with s c (Err place) = Err (stopped.Stuck c.number place)
applied_with s c (Ok txs) = applied_unless s c txs (refusal_of s c txs)

-- the follower's state after a checkpoint, or why it is refused: stuck at the first place whose transaction is not
-- known, or for a cause of `refusal_of`
abbrev pub applied_by : Known → State → Checkpoint → Result State CatchUpRefusal
applied_by known s c = applied_with s c (found_from known 0 c.items)

-- ---- checkpoints in order

-- the checkpoints of the epochs before this one
abbrev pub before_epoch : ℕ → List Checkpoint → List Checkpoint
before_epoch epoch cs = filter (λ (c : Checkpoint). nat_lt c.epoch epoch) cs

abbrev pub caught_from : Result State CatchUpRefusal → (State → Result State CatchUpRefusal) → Result State CatchUpRefusal
caught_from (Ok s) go = go s
caught_from (Err refusal) go = Err refusal

-- the state after checkpoints that are taken in order, or why the first that is not applied is refused
abbrev pub caught_up : Known → State → List Checkpoint → Result State CatchUpRefusal
caught_up known s [] = Ok s
caught_up known s (c ∷ cs) = caught_from (applied_by known s c) (λ (t : State). caught_up known t cs)

-- ---- the step at a place

-- whether the refusal is that memory ran out
abbrev pub is_wanting : CatchUpRefusal → Bool
is_wanting (stopped.Stuck number place) = false
is_wanting (stopped.Differs number place) = false
is_wanting stopped.OutOfMemory = true

-- one turn of the loop over the archive: the checkpoint at a place is applied if there is one and its epoch is before
-- this one; else the state stays
abbrev pub passed_at : Known → ℕ → State → Option Checkpoint → Result State CatchUpRefusal
passed_at known epoch s None = Ok s
passed_at known epoch s (Some c) = if nat_lt c.epoch epoch then applied_by known s c else Ok s

-- how many checkpoints that turn applies: 1 if there is one and its epoch is before this one, else 0
abbrev pub counted_at : ℕ → Option Checkpoint → ℕ
counted_at epoch None = 0
counted_at epoch (Some c) = if nat_lt c.epoch epoch then 1 else 0
