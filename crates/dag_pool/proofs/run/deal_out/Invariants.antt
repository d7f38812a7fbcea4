use Rattle.std.proofs.Common.{◌≡◌, ◌≤◌, length}
use Rattle.dag_pool.proofs.run.deal_out.Given as goal

abbrev pub invariant-loop-task : goal.invariant-loop-task
invariant-loop-task g l = record {
  kits : length l.kits.items ≡ length l.fn.kits.items;
  few : l.sources ≤ l.task;
}
