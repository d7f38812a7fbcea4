use Rattle.std.proofs.Common.{arith}
use Rattle.std.proofs.lemmas.Grind.{common_steps}
use Rattle.std.proofs.lemmas.List.Elements.{filter_map-append}
use Rattle.tx_check.proofs.Objects.{ids_all}
use Rattle.tx_check.proofs.ids.named_ids.Goals as goal

pub loop-input-preserved : goal.loop-input-preserved
loop-input-preserved c = grind (arith, common_steps, filter_map-append)

pub returns : goal.returns
returns c = ids_all c.args.tx.now c.loop-input.ids c.loop-input.input-index (omega (arith, c.loop-input-test.false, c.as_slice-input-items.ensures.len)) c.loop-input.invariant
