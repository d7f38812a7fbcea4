-- What holds of a worker of a crew at each point of its work, and of what it brings back.
use Rattle.std.specs.Prelude.{◌≡◌, ℕ, ◌+◌, ◌<◌, ◌≤◌, Bool, false, if◌then◌else◌, List, [], ◌∷◌, length}
use Rattle.dag_core.specs.declared.job.Job.{Ghosts}
use Rattle.dag_core.specs.declared.plan.Plan.{Plan}
use Rattle.dag_core.specs.Places.{times}
use Rattle.dag_core.specs.Plans.{plan_outputs}
use Rattle.steal_board.specs.Boards.{over, view, IsOf}
use Rattle.dag_pool.specs.declared.crew.Crew.{Crew}
use Rattle.dag_pool.specs.declared.post.WorkerState.{WorkerState}
use Rattle.dag_pool.specs.declared.post.Shift.{Shift}
use Rattle.dag_pool.specs.Work.{IsClean, Brings, IsSound, IsBegun, IsOwed, IsLeft, HasAll}
use Rattle.steal_board.specs.Views.{whole, seat_view}

module _ {J V O G : Type 0} {g : Ghosts J V O} where
  -- the plan that the board was laid over
  abbrev pub plan_of : Crew J G V O g → Plan J V O g
  plan_of crew = over crew.board.now

  -- a worker between two tasks: its seat is of the crew's board, and its outputs are those of what it claimed
  pub record IsGood (crew : Crew J G V O g) (post : WorkerState J V O) : Type 0 where
    pub of : IsOf crew.board.now post.seat
    pub sound : IsSound (plan_of crew).edges (length (plan_of crew).jobs) (plan_outputs (plan_of crew)) (view post.seat) post.outputs.items

  -- a worker that has just claimed this task, and not run it yet
  pub record HasBegun (crew : Crew J G V O g) (task : ℕ) (post : WorkerState J V O) : Type 0 where
    pub of : IsOf crew.board.now post.seat
    pub inside : task < length (plan_of crew).jobs
    pub begun : IsBegun (plan_of crew).edges (length (plan_of crew).jobs) (plan_outputs (plan_of crew)) task (view post.seat) post.outputs.items

  -- what the worker of this number owes, if these tasks are due
  abbrev pub Owes : Crew J G V O g → ℕ → List ℕ → WorkerState J V O → Type 0
  Owes crew number due post = IsOwed (plan_of crew).edges (length (plan_of crew).jobs) crew.workers number (view post.seat) due post.starved

  -- a worker of this number between two tasks
  pub record IsReady (crew : Crew J G V O g) (number : ℕ) (post : WorkerState J V O) : Type 0 where
    pub good : IsGood crew post
    pub owed : Owes crew number post.due.items post

  -- even if memory was refused, the seat is still of the board and has its share
  pub record KeepsSeat (crew : Crew J G V O g) (old new : WorkerState J V O) : Type 0 where
    pub of : IsOf crew.board.now new.seat
    pub share : (view new.seat).share ≡ (view old.seat).share

  -- after one turn of a worker: it did one task more (`done`), or none, and is between two tasks again
  pub record Turned (crew : Crew J G V O g) (number : ℕ) (old new : WorkerState J V O) (done : Bool) : Type 0 where
    pub ready : IsReady crew number new
    pub mine : length (view new.seat).mine ≡ length (view old.seat).mine + (if done then 1 else 0)

  -- the closing pass has come to this task: each earlier task is claimed, and each claimed task is done
  pub record IsSwept (crew : Crew J G V O g) (task : ℕ) (post : WorkerState J V O) : Type 0 where
    pub of : IsOf crew.board.now post.seat
    pub share : (view post.seat).share ≡ whole
    pub clean : IsClean (plan_of crew).edges (view post.seat)
    pub brings : Brings (plan_outputs (plan_of crew)) (view post.seat) post.outputs.items
    pub all : HasAll task (view post.seat)
    pub once : 0 < task → (t : ℕ) → times t (view post.seat).mine ≤ 1

  -- a shift for so many workers, before any work: nothing claimed, no outputs, and a kit for each of the others
  pub record IsFresh (crew : Crew J G V O g) (workers : ℕ) (shift : Shift J V O) : Type 0 where
    pub of : IsOf crew.board.now shift.post.seat
    pub share : workers ≤ (view shift.post.seat).share
    pub seat : view shift.post.seat ≡ seat_view (view shift.post.seat).paper (view shift.post.seat).share
    pub outputs : shift.post.outputs.items ≡ []
    pub due : shift.post.due.items ≡ []
    pub kits : length shift.others.items + 1 ≡ workers

  -- the shift that the workers with numbers from `low` to below `high` bring back together
  pub record HasWorked (crew : Crew J G V O g) (low high : ℕ) (shift : Shift J V O) : Type 0 where
    pub of : IsOf crew.board.now shift.post.seat
    pub left : shift.lost ≡ false → IsLeft (plan_of crew).edges (length (plan_of crew).jobs) crew.workers low high (plan_outputs (plan_of crew)) (view shift.post.seat) shift.post.outputs.items shift.post.starved

module _ {J V O : Type 0} where
  -- one more task is due, unless memory was refused
  pub record Notes (old : WorkerState J V O) (task : ℕ) (new : WorkerState J V O) : Type 0 where
    pub seat : new.seat ≡ old.seat
    pub outputs : new.outputs ≡ old.outputs
    pub due : new.starved ≡ false → (old.starved ≡ false) × ((t : ℕ) → times t new.due.items ≡ times t old.due.items + times t (task ∷ []))
    pub most : (t : ℕ) → times t new.due.items ≤ times t old.due.items + times t (task ∷ [])
