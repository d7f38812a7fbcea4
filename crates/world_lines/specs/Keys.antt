-- Where the last statements of members stand: the last vote for a transaction of an epoch, the last End, and the last
-- acknowledgement of a transaction in an epoch.
use Rattle.std.specs.Prelude.{◌≡◌, ◌==◌, ◌&&◌, ℕ, Bool, false, nat_eq, List, Option, Some, None}
use Rattle.indexmap.specs.IndexMap.{insert_entry}
use Rattle.digest_core.specs.declared.Digest.{Digest}
use Rattle.chain_types.specs.Equal.{digest_eq}
use Rattle.chain_messages.specs.declared.messages.Statement.{Statement}
use Rattle.chain_messages.specs.declared.messages.Statement.TheVariants as statement
use Rattle.world_lines.specs.declared.said.SaidRow.{SaidRow}
use Rattle.world_lines.specs.declared.stated.AckKey.{AckKey}
use Rattle.world_lines.specs.declared.stated.LastPlaces.{LastPlaces}
use Rattle.world_lines.specs.declared.stated.VoteKey.{VoteKey}
use Rattle.world_lines.specs.Places.{LastPlaced}

-- ---- keys

abbrev pub vote_key : ℕ → ℕ → Digest → VoteKey
vote_key m epoch tx = record { member = m; epoch = epoch; tx = tx }

abbrev pub ack_key : ℕ → ℕ → Digest → AckKey
ack_key m epoch tx = record { member = m; epoch = epoch; tx = tx }

abbrev pub vote_key_eq : VoteKey → VoteKey → Bool
vote_key_eq a b = (a.member == b.member) && (a.epoch == b.epoch) && digest_eq a.tx b.tx

abbrev pub ack_key_eq : AckKey → AckKey → Bool
ack_key_eq a b = (a.member == b.member) && (a.epoch == b.epoch) && digest_eq a.tx b.tx

-- the key under which a member's statement stands in the table of votes, of Ends (only the member), and of
-- acknowledgements; none if it is not such a statement
abbrev pub key_of_vote : ℕ → Statement → Option VoteKey
key_of_vote m (statement.Vote epoch tx origins) = Some (vote_key m epoch tx)
key_of_vote m (statement.End epoch) = None
key_of_vote m (statement.Checkpoint epoch number digest) = None
key_of_vote m (statement.Ack epoch tx effects) = None

abbrev pub key_of_end : ℕ → Statement → Option ℕ
key_of_end m (statement.Vote epoch tx origins) = None
key_of_end m (statement.End epoch) = Some m
key_of_end m (statement.Checkpoint epoch number digest) = None
key_of_end m (statement.Ack epoch tx effects) = None

abbrev pub key_of_ack : ℕ → Statement → Option AckKey
key_of_ack m (statement.Vote epoch tx origins) = None
key_of_ack m (statement.End epoch) = None
key_of_ack m (statement.Checkpoint epoch number digest) = None
key_of_ack m (statement.Ack epoch tx effects) = Some (ack_key m epoch tx)

-- ---- rows of a key

abbrev pub is_key : {K : Type 0} → (K → K → Bool) → K → Option K → Bool
is_key equal k None = false
is_key equal k (Some x) = equal x k

abbrev pub is_keyed : {K : Type 0} → (K → K → Bool) → (ℕ → Statement → Option K) → K → SaidRow → Bool
is_keyed equal key_of k r = is_key equal k (key_of r.member r.statement)

-- the place goes under the key; a statement without one has no place
abbrev pub with_place : {K : Type 0} → (K → K → Bool) → List (K × ℕ) → Option K → ℕ → List (K × ℕ)
with_place equal places None place = places
with_place equal places (Some k) place = insert_entry equal places k place

-- ---- the three tables of places

-- under each key stands the place of the last row that is of it
pub record AreLast (rows : List SaidRow) (p : LastPlaces) : Type 0 where
  pub votes : LastPlaced vote_key_eq (is_keyed vote_key_eq key_of_vote) rows p.votes.entries
  pub ends : LastPlaced nat_eq (is_keyed nat_eq key_of_end) rows p.ends.entries
  pub acks : LastPlaced ack_key_eq (is_keyed ack_key_eq key_of_ack) rows p.acks.entries

-- a member's statement was noted at this place
pub record Notes (before : LastPlaces) (m : ℕ) (st : Statement) (place : ℕ) (now : LastPlaces) : Type 0 where
  pub votes : now.votes.entries ≡ with_place vote_key_eq before.votes.entries (key_of_vote m st) place
  pub ends : now.ends.entries ≡ with_place nat_eq before.ends.entries (key_of_end m st) place
  pub acks : now.acks.entries ≡ with_place ack_key_eq before.acks.entries (key_of_ack m st) place

-- the three tables are as before
pub record KeepsPlaces (before now : LastPlaces) : Type 0 where
  pub votes : now.votes.entries ≡ before.votes.entries
  pub ends : now.ends.entries ≡ before.ends.entries
  pub acks : now.acks.entries ≡ before.acks.entries
