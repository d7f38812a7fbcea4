use Rattle.std.proofs.Common.{sym}
use Rattle.world_lines.specs.KnownRows.{made_as}
use Rattle.inspect.specs.Digests.{tx_line}
use Rattle.inspect.proofs.Digested.{one_more}
use Rattle.inspect.proofs.digests.add_txs.Goals as goal

pub loop-place-preserved : goal.loop-place-preserved
loop-place-preserved c = one_more tx_line c.args.names.now.txs c.loop-place.place (made_as c.in-Some.made.now) c.args.text.now c.loop-place.text c.add_tx.new.text (sym c.in-Some.ensures) c.loop-place.invariant c.in_ok-add_tx.ensures
