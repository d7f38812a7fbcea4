use Rattle.std.proofs.Common.{◌≡◌, ◌+◌, ◌≤◌, length}
use Rattle.validator_process.specs.Says.{executed_among}
use Rattle.validator_process.proofs.looking.executed_count.Given as goal

abbrev pub invariant-loop-rest : goal.invariant-loop-rest
invariant-loop-rest l = record {
  same : executed_among l.validator.state l.count l.rest ≡ executed_among l.validator.state 0 l.validator.state.held;
  few : l.count + length l.rest ≤ length l.initial.rest;
}

abbrev pub decreases-loop-rest : goal.decreases-loop-rest
decreases-loop-rest l = length l.rest
