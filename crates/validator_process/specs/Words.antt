-- The words of the program. Source: this profile.
use Rattle.std.specs.Prelude.{◌&&◌, ◌≤◌, ℕ, List, [], ◌∷◌, Option, None, bytes_eq, codes, option_map, if◌then◌else◌}
use Rattle.schedule_text.specs.Bytes.{number_in}
use Rattle.validator_process.specs.declared.words.Task.{Task}
use Rattle.validator_process.specs.declared.words.Task.TheVariants as task

-- the number of a member, from 0 to 63
abbrev pub member_in : List ℕ → Option ℕ
member_in word = number_in 0 63 word

-- `M GENESIS in FILE`
abbrev pub serve_in : List ℕ → List ℕ → Option Task
serve_in member between = if bytes_eq between (codes "in") then option_map task.Serve (member_in member) else None

-- `init M GENESIS in FILE`
abbrev pub make_in : List ℕ → List ℕ → List ℕ → Option Task
make_in name member between = if bytes_eq name (codes "init") && bytes_eq between (codes "in") then option_map task.Make (member_in member) else None

-- the task that the words ask for, none if they ask for none
unfoldable pub task_in : List (List ℕ) → Option Task
task_in (first ∷ second ∷ third ∷ fourth ∷ []) = serve_in first third
task_in (first ∷ second ∷ third ∷ fourth ∷ fifth ∷ []) = make_in first second fourth
task_in words = None

-- the place of the word that names the set-up, from 0
abbrev pub genesis_place : Task → ℕ
genesis_place (task.Make member) = 2
genesis_place (task.Serve member) = 1

-- the member of a task has a number below 64
abbrev pub IsInRange : Task → Type 0
IsInRange (task.Make member) = member ≤ 63
IsInRange (task.Serve member) = member ≤ 63
