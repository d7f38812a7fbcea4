-- The desk rule (this profile), over how often a place of the history stands in the lists of all views.
use Rattle.std.specs.Prelude.{◌≡◌, ℕ, ◌<◌, List, [], Some, length, slice_index}
use mathlib.Core.Option.{some, none}
use lib.ListN.{get_elem?}
use Rattle.atomic_table.specs.Table.{State}
use Rattle.vote_desk.specs.declared.view.View.{View}
use Rattle.vote_desk.specs.Counts.{times, total, IsAscending}
use Rattle.vote_desk.specs.Histories.{IsFront}
use Rattle.vote_desk.specs.Views.{whole}

-- how often a place stands in `mine` of each view, over all views
abbrev pub made : {O E : Type 0} → List (View O E) → ℕ → ℕ
made views place = total (λ v. times place v.mine) views

-- the part of the rule for each view, if `log` is the history: the view is of a desk with this opening, or was joined
-- away and is empty
pub record IsFit {O E : Type 0} (opening : O) (log : List E) (v : View O E) : Type 0 where
  pub same : 0 < v.share → v.opening ≡ Some opening
  pub idle : v.share ≡ 0 → (v.mine ≡ []) × (v.out ≡ 0)
  -- it has seen a prefix of the history, and what it heard is a prefix of that
  pub seen : IsFront v.seen log
  pub heard : IsFront v.heard v.seen
  -- its own places ascend, and are places of what it has seen
  pub rises : IsAscending v.mine
  pub below : (place : ℕ) → 0 < times place v.mine → place < length v.seen
  -- with the slot it has seen the whole history
  pub knows : 0 < v.out → v.seen ≡ log

-- the rule: the word, the slot and all views. `Stands` says which histories may lead from an opening state to what a slot holds
pub record Held {O E X : Type 0} (Stands : O → List E → X → Type 0) (opening : O) (s : State X (View O E)) : Type 0 where
  pub wide : 0 < length s.words
  pub shares : total (λ v. v.share) s.views ≡ whole
  -- there is one history, and it leads from the opening state to something, whether the slot is home or out
  pub log : List E
  pub led : (held : X) × Stands opening log held
  pub each : (pass : ℕ) (v : View O E) → get_elem? s.views pass ≡ some v → IsFit opening log v
  -- each place of it stands in exactly one pass, once
  pub once : (place : ℕ) → place < length log → made s.views place ≡ 1
  -- at 0 the slot is home, and holds what the history led to
  pub home : slice_index s.words 0 ≡ 0 → (total (λ v. v.out) s.views ≡ 0) × ((held : X) × (get_elem? s.homes 0 ≡ some (some held)) × Stands opening log held)
  -- else the word is 1, and the slot is out with one pass
  pub away : 0 < slice_index s.words 0 → (slice_index s.words 0 ≡ 1) × (total (λ v. v.out) s.views ≡ 1) × (get_elem? s.homes 0 ≡ some none)
