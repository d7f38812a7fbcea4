-- What clauses see of a hand and of a thief.
use Rattle.std.specs.Prelude.{◌≡◌, ℕ}
use Rattle.crossbeam_deque.specs.Handles.{worker_deque, worker_view, stealer_deque, view}
use Rattle.steal_deck.specs.Deck.{new_hand}
use Rattle.steal_deck.specs.declared.rule.Track.{Track}
use Rattle.steal_deck.specs.declared.hand.Hand.{Hand}
use Rattle.steal_deck.specs.declared.thief.Thief.{Thief}

-- what the hand, and the thief, know of the deck
abbrev pub hand_track : Hand → Track
hand_track h = worker_view h.owner

abbrev pub thief_track : Thief → Track
thief_track t = view t.pass

-- how many pushes the deck takes in all
abbrev pub capacity_of : Hand → ℕ
capacity_of h = h.capacity

-- the hand is still of the same deck
abbrev pub SameDeck : Hand → Hand → Type 0
SameDeck old new = (worker_deque new.owner ≡ worker_deque old.owner) × (new.capacity ≡ old.capacity)

-- the thief takes from the deck of this hand
abbrev pub IsThiefOf : Hand → Thief → Type 0
IsThiefOf h t = stealer_deque t.stealer ≡ worker_deque h.owner

abbrev pub SameThief : Thief → Thief → Type 0
SameThief old new = stealer_deque new.stealer ≡ stealer_deque old.stealer

-- the hand of a deck on which no call was made, and which takes so many pushes
pub record IsNew (capacity : ℕ) (h : Hand) : Type 0 where
  pub room : h.capacity ≡ capacity
  pub fresh : hand_track h ≡ new_hand
