use Rattle.std.proofs.Common.{◌≡◌, drop}
use Rattle.inspect.specs.Uses.{with_uses}
use Rattle.inspect.proofs.suspects.UseTable.add_keys.Given as goal

abbrev pub invariant-loop-key : goal.invariant-loop-key
invariant-loop-key l = with_uses l.self (drop l.key-index l.keys) ≡ with_uses l.fn.self l.keys
