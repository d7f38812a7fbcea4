use Rattle.std.proofs.Common.{◌≡◌, ◌++◌, take}
use Rattle.std.specs.List.{flat_map}
use Rattle.inspect.specs.Digests.{tx_line}
use Rattle.inspect.proofs.digests.add_txs.Given as goal

abbrev pub invariant-loop-place : goal.invariant-loop-place
invariant-loop-place l = l.text ≡ l.fn.text ++ flat_map tx_line (take l.place l.names.txs)
