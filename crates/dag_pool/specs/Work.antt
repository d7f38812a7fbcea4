-- What workers keep, over the view of a seat: counts of tasks and edges, so that two seats' facts add up when the seats are joined.
use Rattle.std.specs.Prelude.{◌≡◌, ℕ, ◌+◌, ◌%◌, ◌<◌, ◌≤◌, ◌==◌, if◌then◌else◌, Bool, false, List, length, zero, suc}
use Rattle.dag_core.specs.declared.plan.Edge.{Edge}
use Rattle.dag_core.specs.Places.{times}
use Rattle.dag_core.specs.Values.{source, target, count_in}
use Rattle.steal_board.specs.declared.view.View.{View}
use Rattle.steal_board.specs.Views.{with_mine}
use Rattle.dag_pool.specs.Outputs.{AreOutputs, times_in}

-- how many of the tasks below this one have no incoming edge
abbrev pub sources_below : List Edge → ℕ → ℕ
sources_below edges zero = 0
sources_below edges (suc task) = sources_below edges task + (if count_in edges task == 0 then 1 else 0)

-- tasks without incoming edges are dealt to the workers in turn: the number of the worker that this task is dealt to
abbrev pub dealt_to : List Edge → ℕ → ℕ → ℕ
dealt_to edges workers task = sources_below edges task % workers

module _ {V : Type 0} where
  -- the view took the values of these edges, and nothing else
  pub record Took (v : View V) (edges : List ℕ) (w : View V) : Type 0 where
    pub same : w ≡ record v { taken = w.taken }
    pub counts : (e : ℕ) → times e w.taken ≡ times e v.taken + times e edges

  -- the view paid these edges, and nothing else, but that tasks may have been reported ready
  pub record Paid (v : View V) (edges : List ℕ) (w : View V) : Type 0 where
    pub same : w ≡ record v { paid = w.paid; ready = w.ready }
    pub counts : (e : ℕ) → times e w.paid ≡ times e v.paid + times e edges
    pub ready : (t : ℕ) → times t v.ready ≤ times t w.ready

  -- each claimed task has paid its outgoing edges once, and taken the values of its incoming edges once
  pub record IsClean (edges : List Edge) (v : View V) : Type 0 where
    pub paid : (e : ℕ) → e < length edges → times e v.paid ≡ times (source edges e) v.mine
    pub taken : (e : ℕ) → e < length edges → times e v.taken ≡ times (target edges e) v.mine

  -- The worker of this number was refused no memory, and of the tasks that were dealt to it, or that its own payments made ready,
  -- it has claimed each, found it claimed, or is due to claim it
  pub record IsOwed (edges : List Edge) (tasks workers number : ℕ) (v : View V) (due : List ℕ) (starved : Bool) : Type 0 where
    pub heard : starved ≡ false → (t : ℕ) → 0 < times t v.ready → 0 < times t due + times t v.mine + times t v.gone
    pub dealt : starved ≡ false → (t : ℕ) → t < tasks → count_in edges t ≡ 0 → dealt_to edges workers t ≡ number → 0 < times t due + times t v.mine + times t v.gone
    -- a task that is due had its edges paid, so its claim does not find it waiting
    pub valid : (t : ℕ) → 0 < times t due → (t < tasks) × (0 < count_in edges t → 0 < times t v.ready)

  -- each task that has no unpaid edge was claimed, or found claimed
  abbrev pub NoneLeft : List Edge → ℕ → View V → Type 0
  NoneLeft edges tasks v = (t : ℕ) → t < tasks → (0 < count_in edges t → 0 < times t v.ready) → 0 < times t v.mine + times t v.gone

  -- each task below this one was claimed
  abbrev pub HasAll : ℕ → View V → Type 0
  HasAll tasks v = (t : ℕ) → t < tasks → 0 < times t v.mine

module _ {V O : Type 0} where
  -- the pairs have the plan's outputs, and an output of each claimed task
  pub record Brings (outputs : List O) (v : View V) (pairs : List (ℕ × O)) : Type 0 where
    pub right : AreOutputs outputs pairs
    pub all : (t : ℕ) → times t v.mine ≤ times_in t pairs

  -- between two tasks: each claimed task is done, none was claimed twice, and all are tasks of the plan
  pub record IsSound (edges : List Edge) (tasks : ℕ) (outputs : List O) (v : View V) (pairs : List (ℕ × O)) : Type 0 where
    pub clean : IsClean edges v
    pub brings : Brings outputs v pairs
    pub once : (t : ℕ) → times t v.mine ≤ 1
    pub inside : (t : ℕ) → tasks ≤ t → times t v.mine ≡ 0

  -- just after the claim of this task, which is not done yet
  pub record IsBegun (edges : List Edge) (tasks : ℕ) (outputs : List O) (task : ℕ) (v : View V) (pairs : List (ℕ × O)) : Type 0 where
    pub before : View V
    pub sound : IsSound edges tasks outputs before pairs
    pub fresh : times task before.mine ≡ 0
    pub claimed : v ≡ with_mine before task

  -- after the workers with numbers from `low` to below `high`: each claimed task is done; unless one was refused
  -- memory, each task that was dealt to them or that their payments made ready was claimed, by them or elsewhere
  pub record IsLeft (edges : List Edge) (tasks workers low high : ℕ) (outputs : List O) (v : View V) (pairs : List (ℕ × O)) (starved : Bool) : Type 0 where
    pub clean : IsClean edges v
    pub brings : Brings outputs v pairs
    pub heard : starved ≡ false → (t : ℕ) → 0 < times t v.ready → 0 < times t v.mine + times t v.gone
    pub dealt : starved ≡ false → (t : ℕ) → t < tasks → count_in edges t ≡ 0 → low ≤ dealt_to edges workers t → dealt_to edges workers t < high → 0 < times t v.mine + times t v.gone
