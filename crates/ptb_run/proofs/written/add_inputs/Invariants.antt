use Rattle.std.proofs.Common.{◌≡◌, ◌+◌, ◌≤◌, length}
use Rattle.ptb_run.specs.Written.{moved_after}
use Rattle.ptb_run.proofs.written.add_inputs.Given as goal

-- what was found, and then what is left, is the whole
abbrev pub invariant-loop-left : goal.invariant-loop-left
invariant-loop-left l = record {
  same : moved_after l.moved l.number l.left l.rest ≡ moved_after l.initial.moved 0 l.inputs l.objects;
  few : l.number + length l.left ≤ 256;
}

abbrev pub decreases-loop-left : goal.decreases-loop-left
decreases-loop-left l = length l.left
