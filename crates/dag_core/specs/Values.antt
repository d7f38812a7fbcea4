-- The values of a plan: tasks are run in the order of their numbers, and an edge carries a value from one task to a later one (this profile).
use Rattle.std.specs.Prelude.{◌≡◌, ℕ, ◌+◌, ◌==◌, ◌<◌, ◌≤◌, Bool, nat_lt, ◌&&◌, not, position, List, [], ◌∷◌, ◌++◌, length, replicate, Option, Some, None, slice_index_or, slice_set}
use Rattle.std.specs.Option.{option_to_list}
use Rattle.dag_core.specs.declared.plan.Edge.{Edge}
use Rattle.dag_core.specs.Places.{places_by}

-- the edge at a place
abbrev pub edge_at : List Edge → ℕ → Edge
edge_at edges place = slice_index_or edges place record { from = 0; to = 0 }

-- the task that an edge comes from
abbrev pub source : List Edge → ℕ → ℕ
source edges place = (edge_at edges place).from

-- the task that an edge goes to
abbrev pub target : List Edge → ℕ → ℕ
target edges place = (edge_at edges place).to

-- an edge goes from a smaller to a larger task number below the number of tasks
abbrev pub is_forward : ℕ → Edge → Bool
is_forward tasks edge = nat_lt edge.from edge.to && nat_lt edge.to tasks

-- the place of the first edge that does not
abbrev pub first_bad : ℕ → List Edge → Option ℕ
first_bad tasks edges = position (λ edge. not (is_forward tasks edge)) edges

-- the places of a task's incoming edges, in edge order
abbrev pub places_to : List Edge → ℕ → List ℕ
places_to edges task = places_by (λ edge. edge.to == task) 0 edges

-- the places of a task's outgoing edges, in edge order
abbrev pub places_from : List Edge → ℕ → List ℕ
places_from edges task = places_by (λ edge. edge.from == task) 0 edges

-- how many edges go to a task
abbrev pub count_in : List Edge → ℕ → ℕ
count_in edges task = length (places_to edges task)

-- how many edges go from a task
abbrev pub count_out : List Edge → ℕ → ℕ
count_out edges task = length (places_from edges task)

module _ {V : Type 0} where
  -- the value of an edge, once it is known
  abbrev pub value_of : List (Option V) → ℕ → Option V
  value_of known place = slice_index_or known place None

  -- the values of the edges at these places
  abbrev pub values_at : List (Option V) → List ℕ → List V
  values_at known [] = []
  values_at known (place ∷ places) = option_to_list (value_of known place) ++ values_at known places

  -- each of the edges at these places is given its value
  abbrev pub put_at : List (Option V) → List ℕ → List V → List (Option V)
  put_at known [] values = known
  put_at known (place ∷ places) [] = known
  put_at known (place ∷ places) (value ∷ values) = put_at (slice_set known place (Some value)) places values

-- over what a job computes from its inputs, its output and the values of its outgoing edges, and over the edges
module _ {J V O : Type 0} (output : J → List V → O) (values : J → List V → List V) (edges : List Edge) where
  -- the values known after this task: those of its outgoing edges are what its job gives for those of its incoming
  -- edges
  abbrev pub known_next : List (Option V) → ℕ → J → List (Option V)
  known_next known task job = put_at known (places_from edges task) (values job (values_at known (places_to edges task)))

  -- the values known once the tasks from this one on, with these jobs, have run
  abbrev pub known_after : List (Option V) → ℕ → List J → List (Option V)
  known_after known task [] = known
  known_after known task (job ∷ jobs) = known_after (known_next known task job) (task + 1) jobs

  -- the outputs of the tasks from this one on
  abbrev pub outputs_after : List (Option V) → ℕ → List J → List O
  outputs_after known task [] = []
  outputs_after known task (job ∷ jobs) = output job (values_at known (places_to edges task)) ∷ outputs_after (known_next known task job) (task + 1) jobs

  -- the value of each edge
  abbrev pub edge_values : List J → List (Option V)
  edge_values jobs = known_after (replicate (length edges) None) 0 jobs

  -- the output of each task
  abbrev pub outputs : List J → List O
  outputs jobs = outputs_after (replicate (length edges) None) 0 jobs

-- the slots before a task runs: each edge from an earlier task to this one or a later one holds its final value
-- (`wanted`)
pub record Waits {V : Type 0} (edges : List Edge) (wanted slots : List (Option V)) (task : ℕ) : Type 0 where
  pub counted : length slots ≡ length edges
  pub here : (place : ℕ) → place < length edges → source edges place < task → task ≤ target edges place → value_of slots place ≡ value_of wanted place
