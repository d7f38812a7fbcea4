-- Requests that callers make in turns: caller `c` of `callers` makes the requests whose place leaves the remainder `c`
-- when divided by `callers`. This profile.
use Rattle.std.specs.Prelude.{◌≡◌, ℕ, ◌<◌, ◌≤◌, ◌%◌, List, length, slice_get}
use Rattle.vote_desk.specs.Counts.{times}

-- the calls that were made are the requests in some order, in which the requests of each caller keep theirs
pub record AreMadeBy {A : Type 0} (callers : ℕ) (requests calls : List A) : Type 0 where
  -- the place at which each request stands among the calls
  pub at : ℕ → ℕ
  -- there stands that request, and no two stand at one place
  pub stands : (i : ℕ) → i < length requests → slice_get calls (at i) ≡ slice_get requests i
  pub apart : (i j : ℕ) → i < length requests → j < length requests → at i ≡ at j → i ≡ j
  -- each call is that of a request
  pub each : (place : ℕ) → place < length calls → (i : ℕ) × (i < length requests) × (at i ≡ place)
  -- the requests of one caller stand in their order
  pub order : (i j : ℕ) → i < j → j < length requests → i % callers ≡ j % callers → at i < at j

-- the requests that are due, and no others, were made at the places `mine` of the calls that were seen: each at one
-- place, and those of one caller in their order
pub record HaveMade {A : Type 0} (Due : ℕ → Type 0) (callers : ℕ) (requests seen : List A) (mine : List ℕ) : Type 0 where
  pub at : ℕ → ℕ
  pub stands : (i : ℕ) → Due i → slice_get seen (at i) ≡ slice_get requests i
  pub own : (i : ℕ) → Due i → 0 < times (at i) mine
  pub apart : (i j : ℕ) → Due i → Due j → at i ≡ at j → i ≡ j
  pub each : (place : ℕ) → 0 < times place mine → (i : ℕ) × Due i × (at i ≡ place)
  pub order : (i j : ℕ) → i < j → Due i → Due j → i % callers ≡ j % callers → at i < at j

-- whether request `i` is due: it stands before `upto`, and is one of the callers with numbers from `low` to below
-- `high`
pub record IsDue (callers low high upto i : ℕ) : Type 0 where
  pub before : i < upto
  pub from : low ≤ i % callers
  pub to : i % callers < high
