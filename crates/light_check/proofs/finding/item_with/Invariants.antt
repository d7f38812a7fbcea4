use Rattle.std.proofs.Common.{◌≡◌, length}
use Rattle.light_check.specs.Found.{item_with}
use Rattle.light_check.proofs.finding.item_with.Given as goal

abbrev pub invariant-loop-rest : goal.invariant-loop-rest
invariant-loop-rest l = item_with l.tx l.rest ≡ item_with l.tx l.items

abbrev pub decreases-loop-rest : goal.decreases-loop-rest
decreases-loop-rest l = length l.rest
