use Rattle.std.proofs.Common.{◌≡◌, length, All}
use Rattle.steal_deck.specs.Hands.{IsNew}
use Rattle.steal_deck.proofs.crew.deal.Given as goal

abbrev pub invariant-loop : goal.invariant-loop
invariant-loop l = (length l.hands ≡ l.counter) × All (IsNew l.capacity) l.hands
