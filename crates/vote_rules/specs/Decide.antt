-- The vote rule over a store and the locks of an epoch.
use Rattle.std.specs.Prelude.{◌≡◌, List, [], ◌∷◌, Option, Some, None, Result, Ok, Err, option_map, find}
use Rattle.digest_core.specs.declared.Digest.{Digest}
use Rattle.chain_types.specs.declared.objects.ObjectKey.{ObjectKey}
use Rattle.chain_types.specs.declared.refusals.DecideRefusal.{DecideRefusal}
use Rattle.chain_types.specs.declared.refusals.DecideRefusal.TheVariants as refused
use Rattle.chain_types.specs.declared.transactions.Transaction.{Transaction}
use Rattle.chain_types.specs.Digests.{consumed_keys}
use Rattle.protocol_spec.specs.Chain.Words.{first_some}
use Rattle.lock_table.specs.Locks.{Locks, locked_by, other_lock, unless_own}
use Rattle.protocol_spec.specs.Member.Votes.{Cast, is_lock, vote_refusal}
use Rattle.version_store.specs.Stores.{Stored}
use Rattle.vote_rules.specs.Cases.{ballot_of}

abbrev pub locked_as : (ObjectKey × Digest) → DecideRefusal
locked_as lock = refused.Locked lock.0 lock.1

-- what the store refuses, and then the first key that is locked for another transaction
abbrev pub decide_refusal : Stored → Locks → Transaction → Digest → Option DecideRefusal
decide_refusal s locks t tx = first_some (vote_refusal (ballot_of s) t tx ∷ option_map locked_as (other_lock locks tx (consumed_keys t)) ∷ [])

-- the call answers these origins if nothing refuses the vote, else the refusal; if memory was refused nothing is said
abbrev pub Decides : Option DecideRefusal → List (Option Digest) → Result (List (Option Digest)) DecideRefusal → Type 0
Decides refusal origins (Ok answer) = (refusal ≡ None) × (answer ≡ origins)
Decides refusal origins (Err refused.OutOfMemory) = Unit {0}
Decides refusal origins (Err said) = refusal ≡ Some said

-- the locks stand for these votes: of each key they say the first vote for another transaction
abbrev pub StandFor : Locks → List Cast → Type 0
StandFor locks votes = (tx : Digest) (key : ObjectKey) → unless_own key tx (locked_by locks key) ≡ option_map (λ (v : Cast). (key, v.digest)) (find (is_lock tx key) votes)
