use Rattle.std.proofs.Common.{◌≡◌, drop}
use Rattle.std.specs.List.{list_any}
use Rattle.inspect.specs.Uses.{is_shared}
use Rattle.inspect.proofs.suspects.UseTable.any_shared.Given as goal

abbrev pub invariant-loop-key : goal.invariant-loop-key
invariant-loop-key l = list_any (is_shared l.self) (drop l.key-index l.keys) ≡ list_any (is_shared l.self) l.keys
