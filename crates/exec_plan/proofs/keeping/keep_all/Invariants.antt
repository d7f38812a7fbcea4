use Rattle.std.proofs.Common.{◌≡◌, ◌++◌, length, map, reverse}
use Rattle.exec_plan.specs.Books.{effects_of}
use Rattle.exec_plan.specs.Keeping.{CanBeKept}
use Rattle.exec_plan.specs.Runs.{with_executions}
use Rattle.exec_plan.specs.Tasks.{kept_of}
use Rattle.exec_plan.proofs.keeping.keep_all.Given as goal

-- what is kept of what is left, after what is kept so far, makes up all
abbrev pub invariant-loop-rest : goal.invariant-loop-rest
invariant-loop-rest l = record {
  written : with_executions l.store (kept_of l.store.opening l.store.executed l.rest (reverse l.left)) ≡ with_executions l.fn.store (kept_of l.fn.store.opening l.fn.store.executed l.tasks l.fn.outputs);
  copied : l.effects ++ map effects_of (kept_of l.store.opening l.store.executed l.rest (reverse l.left)) ≡ l.fn.effects ++ map effects_of (kept_of l.fn.store.opening l.fn.store.executed l.tasks l.fn.outputs);
  can : CanBeKept l.store.opening l.store.executed l.rest (reverse l.left);
  opening : l.store.opening ≡ l.fn.store.opening;
}

abbrev pub decreases-loop-rest : goal.decreases-loop-rest
decreases-loop-rest l = length l.rest
