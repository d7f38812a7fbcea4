use Rattle.std.proofs.Common.{◌≡◌, drop}
use Rattle.std.specs.List.{list_any}
use Rattle.protocol_spec.specs.Block.Natives.{other_currency}
use Rattle.native_calls.proofs.coins.any_other_currency.Given as goal

-- no coin so far has another currency
abbrev pub invariant-loop-coin : goal.invariant-loop-coin
invariant-loop-coin l = list_any (other_currency l.first) (drop l.coin-index l.coins) ≡ list_any (other_currency l.first) l.coins
