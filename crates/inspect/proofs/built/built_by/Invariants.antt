use Rattle.std.proofs.Common.{◌≡◌, take}
use Rattle.checkpoint_core.specs.Checkpoints.{checkpoint}
use Rattle.protocol_spec.specs.Chain.Words.{Each}
use Rattle.protocol_spec.specs.Member.Member.{built}
use Rattle.inspect.proofs.built.built_by.Given as goal

-- the copies so far are the first that it built, and can be encoded
abbrev pub invariant-loop-number : goal.invariant-loop-number
invariant-loop-number l = record {
  front : l.checkpoints ≡ take l.number (built l.validator.state);
  short : Each checkpoint.short l.checkpoints;
}
