use Rattle.std.proofs.Common.{◌≡◌, ◌++◌, take}
use Rattle.std.specs.List.{flat_map}
use Rattle.protocol_spec.specs.Member.Member.{built}
use Rattle.inspect.specs.Digests.{checkpoint_line}
use Rattle.inspect.proofs.digests.add_checkpoints.Given as goal

abbrev pub invariant-loop-number : goal.invariant-loop-number
invariant-loop-number l = l.text ≡ l.fn.text ++ flat_map checkpoint_line (take l.number (built l.validator.state))
