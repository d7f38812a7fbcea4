use Rattle.std.proofs.Common.{◌≡◌, length}
use Rattle.std.specs.List.{list_any}
use Rattle.follower_core.specs.Steps.{creates_in}
use Rattle.follower_core.proofs.standing.creates_any.Given as goal

-- one of what is left is one of all
abbrev pub invariant-loop-rest : goal.invariant-loop-rest
invariant-loop-rest l = list_any (creates_in l.ledger.present l.named.keys) l.rest ≡ list_any (creates_in l.ledger.present l.named.keys) l.objects

abbrev pub decreases-loop-rest : goal.decreases-loop-rest
decreases-loop-rest l = length l.rest
