use Rattle.std.proofs.Common.{◌≡◌, []}
use Rattle.follower_core.specs.Ledgers.{placed}
use Rattle.follower_core.proofs.ledger.in_order.Given as goal

-- from here the loop gives what the whole loop gives
abbrev pub invariant-loop-id : goal.invariant-loop-id
invariant-loop-id l = placed l.live.entries l.id-iterator ≡ placed [] l.objects.entries
