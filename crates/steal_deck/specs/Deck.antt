-- What each party to a deck knows of it, and the rule that binds all of them.
-- A push has a place: the number of pushes made on the deck before it.
use Rattle.std.specs.Prelude.{◌≡◌, ℕ, ◌+◌, ◌<◌, ◌≤◌, ◌==◌, if◌then◌else◌, true, false, List, [], ◌∷◌, ◌++◌, length}
use Rattle.std.specs.List.{sum_by}
use mathlib.Core.Option.{some}
use lib.ListN.{get_elem?}
use Rattle.steal_deck.specs.declared.rule.Track.{Track}

-- how often a number stands in a list
abbrev pub times : ℕ → List ℕ → ℕ
times x [] = 0
times x (y ∷ ys) = (if y == x then 1 else 0) + times x ys

-- how often the push of a place was taken, by all parties together
abbrev pub times_taken : ℕ → List Track → ℕ
times_taken place tracks = sum_by (λ v. times place v.taken) tracks

-- the second list begins with the first
abbrev pub StartsWith : List ℕ → List ℕ → Type 0
StartsWith front all = (rest : List ℕ) × (all ≡ front ++ rest)

-- the hand of a new deck, and a new thief, know nothing
abbrev pub new_hand : Track
new_hand = record { owner = true; alone = true; pushed = []; seen = []; taken = [] }

abbrev pub new_thief : Track
new_thief = record { owner = false; alone = false; pushed = []; seen = []; taken = [] }

-- one more item was pushed
abbrev pub after_push : Track → ℕ → Track
after_push v item = record v { pushed = v.pushed ++ item ∷ [] }

-- this party took the pushes of these places too
abbrev pub with_taken : Track → List ℕ → Track
with_taken v places = record v { taken = v.taken ++ places }

-- no number stands twice in the list
abbrev pub NoneTwice : List ℕ → Type 0
NoneTwice xs = (x : ℕ) → times x xs ≤ 1

-- The items leave the deck at its front: they are the pushes from `place` on, `before` is what was pushed before them,
-- and each push that this party took before has a smaller place
pub record Takes (v : Track) (items : List ℕ) (w : Track) : Type 0 where
  pub place : ℕ
  pub before : List ℕ
  pub here : length before ≡ place
  pub later : (p : ℕ) → 0 < times p v.taken → p < place
  pub pushed : v.owner ≡ true → StartsWith (before ++ items) v.pushed
  pub after : w ≡ record v { seen = before ++ items; taken = v.taken ++ place ∷ [] }

-- if the deck has no thief, its hand took each push once
abbrev pub IsAllTaken : Track → Type 0
IsAllTaken v = v.alone ≡ true → v.owner ≡ true → (p : ℕ) → p < length v.pushed → times p v.taken ≡ 1

-- What the party of number `port` knows is so: `hand` is the hand's number, `pushed` all pushes of the deck, of which the first `gone` have left it,
-- and `parties` the number of parties
pub record Knows (hand : ℕ) (pushed : List ℕ) (gone parties port : ℕ) (v : Track) : Type 0 where
  pub owner : v.owner ≡ true → (port ≡ hand) × (v.pushed ≡ pushed)
  pub alone : v.alone ≡ true → parties ≡ 1
  pub seen : StartsWith v.seen pushed
  pub taken : (p : ℕ) → 0 < times p v.taken → p < gone

-- The rule of a deck: the items in it are the last pushes. Each push that left was taken once over all parties, and no other was taken
pub record InOrder (items : List ℕ) (tracks : List Track) : Type 0 where
  pub hand : ℕ
  pub gone : List ℕ
  pub each : (port : ℕ) (v : Track) → get_elem? tracks port ≡ some v → Knows hand (gone ++ items) (length gone) (length tracks) port v
  pub once : (p : ℕ) → p < length gone → times_taken p tracks ≡ 1
  pub not_yet : (p : ℕ) → length gone ≤ p → times_taken p tracks ≡ 0
