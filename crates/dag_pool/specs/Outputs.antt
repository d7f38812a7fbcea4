-- Outputs that workers bring, each with the number of its task.
use Rattle.std.specs.Prelude.{◌≡◌, ℕ, ◌+◌, ◌==◌, if◌then◌else◌, List, [], ◌∷◌, All, Some, slice_get}

module _ {O : Type 0} where
  -- how often a task stands among the pairs
  abbrev pub times_in : ℕ → List (ℕ × O) → ℕ
  times_in task [] = 0
  times_in task (pair ∷ pairs) = (if pair.0 == task then 1 else 0) + times_in task pairs

  -- each pair has the output that the list has of its task
  abbrev pub AreOutputs : List O → List (ℕ × O) → Type 0
  AreOutputs outputs pairs = All (λ (pair : ℕ × O). slice_get outputs pair.0 ≡ Some pair.1) pairs
