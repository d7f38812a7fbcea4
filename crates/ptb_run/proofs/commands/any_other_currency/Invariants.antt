use Rattle.std.proofs.Common.{◌≡◌, length, not}
use Rattle.std.specs.Prelude.{◌==◌}
use Rattle.std.specs.List.{list_any}
use Rattle.protocol_spec.specs.declared.pieces.Item.{Item}
use Rattle.protocol_spec.specs.Block.Commands.{items_in}
use Rattle.protocol_spec.specs.Block.Natives.{currency_of}
use Rattle.ptb_run.specs.Blocks.{block_of}
use Rattle.ptb_run.proofs.commands.any_other_currency.Given as goal

abbrev pub invariant-loop-rest : goal.invariant-loop-rest
invariant-loop-rest l = list_any (λ (i : Item). not (currency_of i.content == currency_of l.target.content)) (items_in (block_of l.block) l.rest) ≡ list_any (λ (i : Item). not (currency_of i.content == currency_of l.target.content)) (items_in (block_of l.block) l.sources)

abbrev pub decreases-loop-rest : goal.decreases-loop-rest
decreases-loop-rest l = length l.rest
