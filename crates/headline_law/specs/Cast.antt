-- When the votes of a run were cast.
use Rattle.std.specs.Prelude.{◌≡◌, ℕ, List, ◌++◌, slice_get, Option, Some, None}
use Rattle.digest_core.specs.declared.Digest.{Digest}
use Rattle.chain_types.specs.declared.transactions.Transaction.{Transaction}
use Rattle.chain_types.specs.Digests.{transaction_digest}
use Rattle.journal_core.specs.declared.records.Record.TheVariants as record_as
use Rattle.schedule_text.specs.declared.words.Event.{Event}
use Rattle.protocol_spec.specs.Chain.Words.{Has}
use Rattle.protocol_spec.specs.Member.Votes.{vote_refusal, vote_origins}
use Rattle.protocol_spec.specs.Member.Member.{ballot}
use Rattle.world_spec.specs.Setting.{Setting}
use Rattle.world_spec.specs.World.{Seat, member_in}
use Rattle.world_spec.specs.Run.{world_after}

-- After some prefix of the run a member of the transaction's epoch was in a state in which no case refused its vote, and
-- the vote names the origins that the rule gives there.
pub record WasCast (s : Setting) (events : List Event) (tx : Transaction) (origins : List (Option Digest)) : Type 0 where
  pub front : List Event
  pub back : List Event
  pub whole : front ++ back ≡ events
  pub member : ℕ
  pub seat : Seat
  pub at : slice_get (world_after s front).seats member ≡ Some seat
  pub epoch : tx.epoch ≡ (member_in s seat).epoch
  pub free : vote_refusal (ballot (member_in s seat)) tx (transaction_digest tx) ≡ None
  pub named : vote_origins (ballot (member_in s seat)) tx ≡ origins

-- in every run, each vote that stands in a member's journal was cast in this way
abbrev pub EveryVoteWasCast : Type 0
EveryVoteWasCast = (s : Setting) (events : List Event) (m : ℕ) (seat : Seat) → slice_get (world_after s events).seats m ≡ Some seat
    → (tx : Transaction) (origins : List (Option Digest)) → Has seat.records (record_as.Vote tx origins) → WasCast s events tx origins
