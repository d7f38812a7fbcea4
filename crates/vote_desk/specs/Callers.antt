-- Callers that ask at a vote desk, each for its requests in order: what one brings, and what it takes back.
use Rattle.std.specs.Prelude.{◌≡◌, ℕ, ◌≤◌, Bool, true, false, List, [], Result, Ok, Err, length, map}
use Rattle.outside.specs.declared.keeper.Keeper.{Ghosts as Keeping}
use Rattle.quorum_core.specs.declared.sealer.Checker.{Ghosts as Sealing}
use Rattle.protocol_spec.specs.declared.answers.Voted.{Voted}
use Rattle.protocol_spec.specs.declared.refusals.VoteRefusal.{VoteRefusal}
use Rattle.protocol_spec.specs.declared.refusals.VoteRefusal.TheVariants as no_vote
use Rattle.protocol_spec.specs.Chain.Words.{Each}
use Rattle.validator_core.specs.Calls.{vote_ended}
use Rattle.validator_core.specs.Seats.{answered}
use Rattle.vote_desk.specs.declared.crew.Crew.{Crew}
use Rattle.vote_desk.specs.declared.crew.Turn.{Turn}
use Rattle.vote_desk.specs.declared.desk.DeskRefusal.{DeskRefusal}
use Rattle.vote_desk.specs.declared.desk.DeskRefusal.TheVariants as no_answer
use Rattle.vote_desk.specs.declared.entry.DeskEntry.{DeskEntry}
use Rattle.vote_desk.specs.Dealt.{HaveMade, IsDue}
use Rattle.vote_desk.specs.Desks.{IsOf, mine, seen, share}

-- the bytes of each call of a history, in order
abbrev pub asked_in : List DeskEntry → List (List ℕ)
asked_in entries = map (λ (e : DeskEntry). e.bytes) entries

-- whether the member was asked, if a call of the desk answers so
abbrev pub was_asked : Result Voted DeskRefusal → Bool
was_asked (Ok v) = true
was_asked (Err (no_answer.Vote refusal)) = true
was_asked (Err no_answer.OutOfMemory) = false

-- whether a member's reply is that memory ran out
abbrev pub is_starved : Result Voted VoteRefusal → Bool
is_starved (Ok v) = false
is_starved (Err no_vote.OutOfMemory) = true
is_starved (Err refusal) = false

abbrev pub is_starved_call : DeskEntry → Bool
is_starved_call e = is_starved e.reply

-- each call was answered by the member: its reply is neither a fault of the keeper nor out of memory
abbrev pub AreAnswered : List DeskEntry → Type 0
AreAnswered entries = Each (λ (e : DeskEntry). vote_ended e.reply ≡ answered) entries

module _ {R D S : Type 0} {k : Keeping D} {z : Sealing S} where
  -- what this many callers start with: a pass of the desk that has share enough for them, and made no call yet
  pub record IsFresh (crew : Crew R D S k z) (callers : ℕ) (turn : Turn D S k z) : Type 0 where
    pub of : IsOf crew.desk.now turn.pass
    pub wide : callers ≤ share turn.pass
    pub none : mine turn.pass ≡ []

  -- the calls of the pass are those of the requests that are due
  abbrev pub Asked : Crew R D S k z → (ℕ → Type 0) → Turn D S k z → Type 0
  Asked crew Due turn = HaveMade Due crew.callers crew.requests.now (asked_in (seen turn.pass)) (mine turn.pass)

  -- what the callers with numbers from `low` to below `high` bring back together: if none ran out of memory, each
  -- asked for its requests
  pub record HaveAsked (crew : Crew R D S k z) (low high : ℕ) (turn : Turn D S k z) : Type 0 where
    pub of : IsOf crew.desk.now turn.pass
    pub asked : turn.whole ≡ true → Asked crew (IsDue crew.callers low high (length crew.requests.now)) turn
