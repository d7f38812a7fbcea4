use Rattle.std.proofs.Common.{◌≡◌, ◌+◌, ◌≤◌, [], length}
use Rattle.ptb_run.specs.Rows.{coins_after}
use Rattle.ptb_run.proofs.commands.new_coins.Given as goal

abbrev pub invariant-loop-rest : goal.invariant-loop-rest
invariant-loop-rest l = record {
  same : coins_after l.tx l.made l.currency l.row l.ahead l.rest ≡ coins_after l.tx l.made l.currency [] 0 l.amounts;
  few : l.ahead + length l.rest ≤ 512;
}

abbrev pub decreases-loop-rest : goal.decreases-loop-rest
decreases-loop-rest l = length l.rest
