-- What each step of the table reports to its caller: a relation between the step (which word, and its number), the seat
-- before, the number that was found in the word, and the seat after.
use Rattle.std.specs.Prelude.{◌≡◌, ◌≢◌, ℕ, ◌<◌, ◌≤◌, ◌∷◌, Option, Some, None, if◌then◌else◌, ◌==◌}
use Rattle.atomic_table.specs.Table.{Me, Step, rest}
use Rattle.dag_core.specs.Places.{times}
use Rattle.dag_core.specs.Values.{count_in, value_of}
use Rattle.steal_board.specs.declared.view.View.{View}
use Rattle.steal_board.specs.Views.{whole, mark, with_mine, with_gone, with_ready, with_taken, turning, settling}
use Rattle.steal_board.specs.Rule.{owing}

module _ {T : Type 0} where
  -- what the view with the whole share learns from a claim's word
  pub record ClaimsWhole (v : View T) (task found : ℕ) : Type 0 where
    pub won : found ≡ 0 → (times task v.mine ≡ 0) × (times task v.gone ≡ 0) × (0 < count_in v.paper.edges task → 0 < times task v.ready)
    pub lost : found ≡ mark → 0 < times task v.mine
    pub early : found ≢ 0 → found ≢ mark → found ≡ owing (λ edge. times edge v.paid) v.paper.edges task
    pub once : (x : ℕ) → (times x v.mine ≤ 1) × (v.paper.tasks ≤ x → times x v.mine ≡ 0)

  -- a claim: the word was 0 and became the mark, or it was the mark, or a number of unpaid edges
  pub record Claims (s : Step (Option T)) (me : Me (Option T) (View T)) (found : ℕ) (me' : Me (Option T) (View T)) : Type 0 where
    pub won : found ≡ 0 → (me'.0 ≡ with_mine me.0 s.word) × (times s.word me.0.mine ≡ 0)
    pub lost : found ≡ mark → me'.0 ≡ with_gone me.0 s.word
    pub early : found ≢ 0 → found ≢ mark → (me'.0 ≡ me.0) × (0 < count_in me.0.paper.edges s.word) × (times s.word me.0.ready ≡ 0)
    pub held : me'.1 ≡ me.1
    pub all : me.0.share ≡ whole → ClaimsWhole me.0 s.word found

  -- an edge's slot goes out, empty, to the seat that is about to pay it
  abbrev pub Turns : ℕ → Step (Option T) → Me (Option T) (View T) → ℕ → Me (Option T) (View T) → Type 0
  Turns edge s me found me' = (me'.0 ≡ turning me.0 edge) × (me'.1 ≡ (edge, None) ∷ me.1)

  -- the slot comes home with its value, and the target's word falls by 1
  abbrev pub Pays : ℕ → Step (Option T) → Me (Option T) (View T) → ℕ → Me (Option T) (View T) → Type 0
  Pays edge s me found me' = (me'.0 ≡ (if found == 1 then with_ready (settling me.0 edge) s.word else settling me.0 edge)) × (me'.1 ≡ rest me.1)

  -- an edge's slot goes out, with the plan's value, to the seat that takes it
  abbrev pub Takes : ℕ → Step (Option T) → Me (Option T) (View T) → ℕ → Me (Option T) (View T) → Type 0
  Takes edge s me found me' = (me'.0 ≡ with_taken me.0 edge) × ((value : T) × (value_of me.0.paper.values edge ≡ Some value) × (me'.1 ≡ (edge, Some value) ∷ me.1))

  -- the slot of a taken edge comes home, empty
  abbrev pub Returns : Step (Option T) → Me (Option T) (View T) → ℕ → Me (Option T) (View T) → Type 0
  Returns s me found me' = (me'.0 ≡ me.0) × (me'.1 ≡ rest me.1)
