use Rattle.std.proofs.Common.{◌≡◌, ◌≤◌, ◌*◌, take}
use Rattle.effects_core.specs.Money.{currency_sum}
use Rattle.effects_core.proofs.money.currency_sum.Given as goal

abbrev pub invariant-loop-object : goal.invariant-loop-object
invariant-loop-object l = record { value : l.sum ≡ currency_sum (take l.object-index l.objects) l.currency; below : l.sum ≤ l.object-index * 18446744073709551615 }
