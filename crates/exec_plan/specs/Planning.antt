-- What is kept of a plan's outputs is what the rounds execute. Source: this profile.
use Rattle.std.specs.Prelude.{◌≡◌, List, ◌++◌}
use Rattle.protocol_spec.specs.Member.Versions.{Execution}
use Rattle.protocol_spec.specs.Member.Rounds.{Books, left, rounds}
use Rattle.exec_plan.specs.Books.{AreApart}
use Rattle.exec_plan.specs.Layers.{in_turn, planned_of}
use Rattle.exec_plan.specs.Tasks.{kept_of, left_of_outputs, outputs_of, tasks_of}

-- what is kept of a plan's outputs is what the rounds execute, in the same order, whatever is held and was executed,
-- if no transaction is held twice
abbrev pub KeepsTheRounds : Type 0
KeepsTheRounds = (b : Books) (executed : List Execution) → AreApart b.held
    → kept_of b.opening executed (tasks_of b executed) (outputs_of b executed) ≡ rounds b executed

-- going once over the planned certificates, in order, executes the rounds
abbrev pub TurnsAreRounds : Type 0
TurnsAreRounds = (b : Books) (executed : List Execution) → AreApart b.held → in_turn b executed (planned_of b executed) ≡ rounds b executed

-- what the outputs leave, once those kept are executed, is what the definition's run leaves
abbrev pub LeavesTheLeft : Type 0
LeavesTheLeft = (b : Books) (executed : List Execution) → AreApart b.held
    → left_of_outputs b (executed ++ kept_of b.opening executed (tasks_of b executed) (outputs_of b executed)) (outputs_of b executed) ≡ left b (executed ++ rounds b executed)
