-- The board rule (this profile), over how often a task or an edge stands in the lists of all views.
use Rattle.std.specs.Prelude.{◌≡◌, ℕ, ◌+◌, ◌-◌, ◌^◌, ◌<◌, ◌≤◌, List, [], ◌∷◌, Some, None, Option, length, slice_index}
use mathlib.Core.Option.{some, none}
use mathlib.Core.Option as Maybe
use lib.ListN.{get_elem?}
use Rattle.atomic_table.specs.Table.{State}
use Rattle.dag_core.specs.declared.plan.Edge.{Edge}
use Rattle.dag_core.specs.Places.{times}
use Rattle.dag_core.specs.Values.{source, target, places_to, count_in, value_of}
use Rattle.steal_board.specs.declared.view.Paper.{Paper}
use Rattle.steal_board.specs.declared.view.View.{View}
use Rattle.steal_board.specs.Views.{whole, mark}

-- f of each item, added up
abbrev pub total : {X : Type 0} → (X → ℕ) → List X → ℕ
total f [] = 0
total f (x ∷ xs) = f x + total f xs

-- how often a number stands in one of the lists of each view, over all views
abbrev pub sums : {T : Type 0} → (View T → List ℕ) → List (View T) → ℕ → ℕ
sums part views x = total (λ v. times x (part v)) views

-- how many of a task's incoming edges are not paid, if `paid` says how often an edge was paid
abbrev pub owing : (ℕ → ℕ) → List Edge → ℕ → ℕ
owing paid edges task = total (λ edge. 1 - paid edge) (places_to edges task)

-- what each view keeps. It is of the plan, or was joined away and is empty. An edge that is about to be paid, or is paid, has its source in the same view's `mine`, and a taken edge its target
pub record IsFit {T : Type 0} (paper : Paper T) (v : View T) : Type 0 where
  pub same : 0 < v.share → v.paper ≡ paper
  pub idle : v.share ≡ 0 → (x : ℕ) → times x v.mine + times x v.turn + times x v.paid + times x v.taken + times x v.ready + times x v.gone ≡ 0
  pub sent : (edge : ℕ) → times edge v.turn + times edge v.paid ≤ times (source paper.edges edge) v.mine
  pub got : (edge : ℕ) → times edge v.taken ≤ times (target paper.edges edge) v.mine
  pub bound : (edge : ℕ) → length paper.edges ≤ edge → times edge v.turn + times edge v.paid + times edge v.taken ≡ 0

-- an edge and its slot, if all views together have it so often about to be paid, paid and taken: it is in at most one `turn` or `paid`, and is taken once, after it was paid.
-- The slot is home and empty before, out with the seat that is about to pay, and then home with the plan's value until it is taken
pub record Stands {T : Type 0} (paper : Paper T) (homes : List (Maybe.Option (Option T))) (edge turn paid taken : ℕ) : Type 0 where
  pub alone : turn + paid ≤ 1
  pub after : taken ≤ paid
  pub empty : turn + paid ≡ 0 → get_elem? homes edge ≡ some (some None)
  pub out : 0 < turn → get_elem? homes edge ≡ some none
  pub full : 0 < paid → taken ≡ 0 → (value : T) × (value_of paper.values edge ≡ Some value) × (get_elem? homes edge ≡ some (some (Some value)))

-- words and slots, if all views together have each task so often in `mine`, `ready` and `gone`, and each edge so often in `turn`, `paid` and `taken`
pub record Agrees {T : Type 0} (paper : Paper T) (words : List ℕ) (homes : List (Maybe.Option (Option T))) (mine turn paid taken ready gone : ℕ → ℕ) : Type 0 where
  -- the word of an unclaimed task is the number of its unpaid incoming edges
  pub free : (task : ℕ) → task < paper.tasks → mine task ≡ 0 → slice_index words task ≡ owing paid paper.edges task
  -- the word of a claimed task is the mark, and all its incoming edges are paid
  pub claimed : (task : ℕ) → task < paper.tasks → 0 < mine task → (slice_index words task ≡ mark) × (owing paid paper.edges task ≡ 0)
  -- a task is claimed at most once
  pub once : (task : ℕ) → mine task ≤ 1
  pub inside : (task : ℕ) → paper.tasks ≤ task → mine task ≡ 0
  -- a spare word is at the mark
  pub spare : (task : ℕ) → paper.tasks ≤ task → task < length words → slice_index words task ≡ mark
  -- all incoming edges of a ready task are paid
  pub ready_paid : (task : ℕ) → 0 < ready task → owing paid paper.edges task ≡ 0
  -- a task that has incoming edges, all of them paid, was reported ready
  pub told : (task : ℕ) → 0 < count_in paper.edges task → owing paid paper.edges task ≡ 0 → 0 < ready task
  -- a task that was found claimed is claimed
  pub gone_claimed : (task : ℕ) → 0 < gone task → mine task ≡ 1
  pub slots : (edge : ℕ) → edge < length paper.edges → Stands paper homes edge (turn edge) (paid edge) (taken edge)

-- the rule: words, slots and all views
pub record Held {T : Type 0} (paper : Paper T) (s : State (Option T) (View T)) : Type 0 where
  pub wide : paper.tasks ≤ length s.words
  pub few : length paper.edges < 2 ^ 31
  pub shares : total (λ v. v.share) s.views ≡ whole
  pub each : (seat : ℕ) (v : View T) → get_elem? s.views seat ≡ some v → IsFit paper v
  pub agrees : Agrees paper s.words s.homes (sums (λ v. v.mine) s.views) (sums (λ v. v.turn) s.views) (sums (λ v. v.paid) s.views) (sums (λ v. v.taken) s.views) (sums (λ v. v.ready) s.views) (sums (λ v. v.gone) s.views)
