use Rattle.std.proofs.Common.{◌≡◌, ℕ, ◌<◌, length, get_or}
use Rattle.dag_core.specs.Values.{count_in}
use Rattle.steal_board.proofs.words.first_words.Given as goal

abbrev pub invariant-loop-task : goal.invariant-loop-task
invariant-loop-task g l = record {
  counted : length l.words.items ≡ l.task;
  each : (t : ℕ) → t < l.task → get_or l.words.items t 0 ≡ count_in l.plan.edges t;
}
