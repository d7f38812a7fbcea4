-- What a thief knows of its deck after a steal, by the answer.
use Rattle.std.specs.Prelude.{◌≡◌, [], ◌∷◌}
use Rattle.steal_deck.specs.Deck.{Takes}
use Rattle.steal_deck.specs.declared.rule.Track.{Track}
use Rattle.steal_deck.specs.declared.thief.Stolen.{Stolen}
use Rattle.steal_deck.specs.declared.thief.Stolen.TheVariants.{Item, Empty, Again}

-- an item is taken at the front, and the other answers take nothing
abbrev pub Steals : Track → Stolen → Track → Type 0
Steals v (Item item) w = Takes v (item ∷ []) w
Steals v Empty w = w ≡ v
Steals v Again w = w ≡ v
