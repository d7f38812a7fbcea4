-- The five kinds of step at a desk, and what each reports to its caller: a relation of the step, the pass before, the
-- number found in the word, and the pass after.
--
-- | Step       | The word                                            | The view that changes                                              | The slot                                |
-- | taken      | a compare-exchange of 0 to 1 that finds 0           | the caller's: it has seen the whole history, and has the slot      | leaves home                             |
-- | looked     | a compare-exchange that finds 1, or a load          | none                                                               | none                                    |
-- | given back | a swap to 0                                         | the caller's: one more entry seen and one more place, or no slot   | comes home one entry longer, or as it was |
-- | split      | a load                                              | the caller's share falls by 1, and a new pass has share 1, has seen as much and made no call | none          |
-- | join       | a load                                              | one takes the longer list, both passes' places and the sum of the shares, the other is spent | none          |
use Rattle.std.specs.Prelude.{◌≡◌, ◌≢◌, ℕ, ◌<◌, List, [], ◌∷◌, ◌++◌, Some, length}
use Rattle.atomic_table.specs.Table.{Me, Step, rest}
use Rattle.vote_desk.specs.declared.view.View.{View}
use Rattle.vote_desk.specs.Counts.{times, IsAscending}
use Rattle.vote_desk.specs.Histories.{IsFront}
use Rattle.vote_desk.specs.Views.{holding, returning, adding}

module _ {O E X : Type 0} where
  -- the slot is out with the pass, which has seen the history that led to what it holds
  pub record Took (Stands : O → List E → X → Type 0) (me me' : Me X (View O E)) : Type 0 where
    pub opening : O
    pub same : me.0.opening ≡ Some opening
    pub log : List E
    pub front : IsFront me.0.seen log
    pub held : X
    pub stands : Stands opening log held
    pub view : me'.0 ≡ holding me.0 log
    pub slot : me'.1 ≡ (0, held) ∷ me.1

  -- the report of a compare-exchange of 0 to 1: at 0 the slot is the pass's (`Took`), else it is out with another pass
  pub record Takes (Stands : O → List E → X → Type 0) (s : Step X) (me : Me X (View O E)) (found : ℕ) (me' : Me X (View O E)) : Type 0 where
    pub won : found ≡ 0 → Took Stands me me'
    pub busy : found ≢ 0 → (me'.0 ≡ me.0) × (me'.1 ≡ me.1)

  -- the report of a step that changes nothing: what the rule says of the pass's view
  pub record Looks (s : Step X) (me : Me X (View O E)) (found : ℕ) (me' : Me X (View O E)) : Type 0 where
    pub view : me'.0 ≡ me.0
    pub slot : me'.1 ≡ me.1
    pub heard : IsFront me.0.heard me.0.seen
    pub rises : IsAscending me.0.mine
    pub below : (place : ℕ) → 0 < times place me.0.mine → place < length me.0.seen

  -- the report of a swap to 0 that gives the slot back one entry longer
  pub record Adds (Stands : O → List E → X → Type 0) (s : Step X) (me : Me X (View O E)) (found : ℕ) (me' : Me X (View O E)) : Type 0 where
    pub opening : O
    pub same : me.0.opening ≡ Some opening
    pub entry : E
    pub held : X
    pub stands : Stands opening (me.0.seen ++ entry ∷ []) held
    pub slot : me.1 ≡ (0, held) ∷ rest me.1
    pub view : me'.0 ≡ adding me.0 entry
    pub left : me'.1 ≡ rest me.1

  -- the report of a swap to 0 that gives the slot back as it was
  abbrev pub Returns : Step X → Me X (View O E) → ℕ → Me X (View O E) → Type 0
  Returns s me found me' = (me'.0 ≡ returning me.0) × (me'.1 ≡ rest me.1)
