use Rattle.std.proofs.Common.{◌≡◌, ◌≤◌, ◌-◌, length, take}
use Rattle.epoch_turn.specs.Chains.{IsTold, StaysBehind}
use Rattle.epoch_turn.proofs.telling.tell.Given as goal

-- the chain knows of all up to a place
abbrev pub invariant-loop-place : goal.invariant-loop-place
invariant-loop-place l = record {
  within : l.place ≤ length l.admission.admission.admitted;
  told : IsTold l.held (take l.place l.admission.admission.admitted) l.chain;
  marks : l.chain.marks ≡ l.fn.chain.marks;
  past : l.chain.past ≡ l.fn.chain.past;
  built : l.chain.built ≡ l.fn.chain.built;
  more : length l.fn.chain.due ≤ length l.chain.due;
  behind : StaysBehind l.fn.chain l.chain;
}

abbrev pub decreases-loop-place : goal.decreases-loop-place
decreases-loop-place l = length l.admission.admission.admitted - l.place
