-- What holds of every member in every run.
use Rattle.std.specs.Prelude.{◌≡◌, ℕ, false, List, [], slice_get, Some, true, Option}
use Rattle.chain_types.specs.declared.objects.ObjectKey.{ObjectKey}
use Rattle.journal_core.specs.declared.records.Record.TheVariants as record_as
use Rattle.digest_core.specs.declared.Digest.{Digest}
use Rattle.chain_types.specs.declared.transactions.Transaction.{Transaction}
use Rattle.chain_types.specs.Digests.{transaction_digest, consumed_keys}
use Rattle.chain_messages.specs.declared.messages.Statement.TheVariants as statement
use Rattle.schedule_text.specs.declared.words.Event.{Event}
use Rattle.chain_types.specs.Equal.{digest_eq}
use Rattle.protocol_spec.specs.Chain.Words.{Has, Each, Along}
use Rattle.protocol_spec.specs.Chain.Tests.{has_key}
use Rattle.protocol_spec.specs.Member.Votes.{Cast}
use Rattle.world_spec.specs.Setting.{Setting}
use Rattle.world_spec.specs.World.{Seat, member_in}
use Rattle.world_spec.specs.Run.{world_after}
use Rattle.protocol_spec.specs.Member.Due.{IsDueBehind}
use Rattle.world_spec.specs.Assumptions.{HasSaid}

abbrev pub EveryRecordIsDue : Type 0
EveryRecordIsDue = (s : Setting) (events : List Event) (m : ℕ) (seat : Seat) → slice_get (world_after s events).seats m ≡ Some seat
    → Along (IsDueBehind s.rules s.opening) [] seat.records

-- a later vote for another transaction consumes no version that this one consumes
abbrev pub IsApartFrom : Cast → Cast → Type 0
IsApartFrom later v = digest_eq v.digest later.digest ≡ false → (key : ObjectKey) → Has later.consumed key → has_key v.consumed key ≡ false

abbrev pub AreApart : List Cast → Type 0
AreApart votes = Along (λ before later. Each (IsApartFrom later) before) [] votes

abbrev pub VotesShareNoVersion : Type 0
VotesShareNoVersion = (s : Setting) (events : List Event) (m : ℕ) (seat : Seat) → slice_get (world_after s events).seats m ≡ Some seat
    → AreApart (member_in s seat).votes

-- over the whole journal: of two votes of one epoch for transactions of different digests, none consumes a version that
-- the other consumes
abbrev pub NoVersionIsVotedTwice : Type 0
NoVersionIsVotedTwice = (s : Setting) (events : List Event) (m : ℕ) (seat : Seat) → slice_get (world_after s events).seats m ≡ Some seat
    → (t u : Transaction) (origins others : List (Option Digest)) → Has seat.records (record_as.Vote t origins) → Has seat.records (record_as.Vote u others)
    → t.epoch ≡ u.epoch → (transaction_digest t ≡ transaction_digest u → ⊥)
    → (key : ObjectKey) → Has (consumed_keys t) key → Has (consumed_keys u) key → ⊥

-- over the whole journal: two votes of one epoch for one transaction name the same origins
abbrev pub VotesNameOneOrigins : Type 0
VotesNameOneOrigins = (s : Setting) (events : List Event) (m : ℕ) (seat : Seat) → slice_get (world_after s events).seats m ≡ Some seat
    → (t u : Transaction) (origins others : List (Option Digest)) → Has seat.records (record_as.Vote t origins) → Has seat.records (record_as.Vote u others)
    → t.epoch ≡ u.epoch → transaction_digest t ≡ transaction_digest u → origins ≡ others

-- a vote that an honest member stated stands in its journal, with that transaction, epoch and origins
abbrev pub EveryVoteIsKept : Type 0
EveryVoteIsKept = (s : Setting) (events : List Event) (m : ℕ) (seat : Seat) → slice_get (world_after s events).seats m ≡ Some seat → seat.honest ≡ true
    → (epoch : ℕ) (tx : Digest) (origins : List (Option Digest)) → HasSaid (world_after s events) m (statement.Vote epoch tx origins)
    → (t : Transaction) × Has seat.records (record_as.Vote t origins) × (t.epoch ≡ epoch) × (transaction_digest t ≡ tx)
