-- A vote desk and a pass of it, as contracts see them.
use Rattle.std.specs.Prelude.{◌≡◌, ℕ, List, [], ◌∷◌, ◌++◌, length, Result, Ok, Err}
use Rattle.outside.specs.declared.keeper.Keeper.{Ghosts as Keeping}
use Rattle.quorum_core.specs.declared.sealer.Checker.{Ghosts as Sealing}
use Rattle.protocol_spec.specs.declared.answers.Voted.{Voted}
use Rattle.protocol_spec.specs.declared.refusals.VoteRefusal.{VoteRefusal}
use Rattle.vote_desk.specs.declared.bench.MemberClerk.{MemberClerk}
use Rattle.vote_desk.specs.declared.desk.Desk.{Desk}
use Rattle.vote_desk.specs.declared.desk.DeskPass.{DeskPass}
use Rattle.vote_desk.specs.declared.desk.DeskRefusal.{DeskRefusal}
use Rattle.vote_desk.specs.declared.desk.DeskRefusal.TheVariants as no_answer
use Rattle.vote_desk.specs.declared.entry.DeskEntry.{DeskEntry}
use Rattle.vote_desk.specs.declared.standing.DeskView.{DeskView}
use Rattle.vote_desk.specs.Histories.{IsFront, IsHistory}
use Rattle.vote_desk.specs.Passes as passes
use Rattle.vote_desk.specs.Votes.{Follows, standing}

module _ {D S : Type 0} {k : Keeping D} {z : Sealing S} where
  -- what contracts see of what stands behind a desk
  abbrev pub state_of : MemberClerk D S k z → DeskView S
  state_of bench = standing bench.validator bench.sealer (k.failed bench.keeper) (k.lists bench.keeper)

  -- what stood behind the desk as it was opened, the same for all passes
  abbrev pub opening : Desk D S k z → DeskView S
  opening desk = passes.opening state_of desk.serial

  -- the pass's share of the desk, what it has seen of the history, and the places of its own calls in it
  abbrev pub share : DeskPass D S k z → ℕ
  share pass = (passes.view pass.pass).share

  abbrev pub seen : DeskPass D S k z → List DeskEntry
  seen pass = (passes.view pass.pass).seen

  abbrev pub mine : DeskPass D S k z → List ℕ
  mine pass = (passes.view pass.pass).mine

  -- the pass is of the desk. What it has seen is a history of the desk from its opening on, and its own places ascend in it
  abbrev pub IsOf : Desk D S k z → DeskPass D S k z → Type 0
  IsOf desk pass = passes.IsOf (Follows z.accepts) state_of desk.serial pass.pass

  -- one call was made: its entry stands after all that the pass had seen, at a place that is now the pass's own. It has these bytes and this reply, and is one that may be made in the state that the calls before it left
  pub record Asks (desk : Desk D S k z) (old new : DeskPass D S k z) (bytes : List ℕ) (reply : Result Voted VoteRefusal) : Type 0 where
    pub before : List DeskEntry
    pub front : IsFront (seen old) before
    pub left : DeskView S
    pub history : IsHistory (Follows z.accepts) (opening desk) before left
    pub faults : ℕ
    pub after : DeskView S
    pub made : Follows z.accepts left (record { bytes = bytes; reply = reply; faults = faults }) after
    pub saw : seen new ≡ before ++ record { bytes = bytes; reply = reply; faults = faults } ∷ []
    pub places : mine new ≡ mine old ++ length before ∷ []

  -- what a call answers: the reply of its entry, or that memory for an entry was refused, and then no entry was added
  abbrev pub Answers : Desk D S k z → DeskPass D S k z → DeskPass D S k z → List ℕ → Result Voted DeskRefusal → Type 0
  Answers desk old new bytes (Ok voted) = Asks desk old new bytes (Ok voted)
  Answers desk old new bytes (Err (no_answer.Vote refusal)) = Asks desk old new bytes (Err refusal)
  Answers desk old new bytes (Err no_answer.OutOfMemory) = IsFront (seen old) (seen new) × (mine new ≡ mine old)
