-- What contracts see of a `State`, and what keeps it consistent.
use Rattle.std.specs.Prelude.{ℕ, ◌≤◌, Bool, List, length}
use Rattle.protocol_spec.specs.Chain.Words.{Each}
use Rattle.protocol_spec.specs.Member.Member.{Member}
use Rattle.protocol_spec.specs.Member.Votes.{Cast}
use Rattle.epoch_turn.specs.Dues.{front_length, is_ordered}
use Rattle.validator_core.specs.Courses.{Coursed, IsSound, coursed}
use Rattle.validator_core.specs.declared.epoch_state.EpochState.{EpochState}

-- the definition's member from the parts of a state: number of records, whether it closed, votes, and the course
abbrev pub member_with : ℕ → Bool → List Cast → Coursed → Member
member_with records closed votes c = record {
  records = records;
  epoch = c.epoch;
  opening = c.opening;
  executed = c.executed;
  votes = votes;
  held = c.held;
  sequence = c.sequence;
  closed = closed;
  past = c.past;
}

-- a vote has at most 257 origins: a transaction of valid shape has no more objects
abbrev pub HasFew : Cast → Type 0
HasFew v = length v.origins ≤ 257

abbrev pub AllFew : List Cast → Type 0
AllFew votes = Each HasFew votes

-- how many of the certificates that are held are of transactions in the sequence, up to the first that is not
abbrev pub ordered_front : Coursed → ℕ
ordered_front c = front_length (is_ordered c.sequence.admission) c.held

-- the invariant of a state: votes have few origins, the course is sound, entries seen have their records, and the
-- first `ordered` held certificates are in the sequence
pub record Stands (records : ℕ) (votes : List Cast) (ordered : ℕ) (c : EpochState) : Type 0 where
  pub few : AllFew votes
  pub sound : IsSound c
  pub seen : c.seen ≤ records
  pub front : ordered ≤ ordered_front (coursed c)
