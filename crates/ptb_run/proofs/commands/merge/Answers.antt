use Rattle.std.proofs.Common.{◌+◌, refl}
use Rattle.protocol_spec.specs.Block.Natives.{amount_of}
use Rattle.protocol_spec.specs.Block.Commands as commands
use Rattle.ptb_run.specs.Blocks.{block_of}
use Rattle.ptb_run.proofs.Merging.{merge_other, merge_over, merge_done}
use Rattle.ptb_run.proofs.commands.merge.Goals as goal

pub returns-then-any_other_currency-clause-steps : goal.returns-then-any_other_currency-clause-steps
returns-then-any_other_currency-clause-steps c =
    merge_other c.args.tx.now (block_of c.args.block.now) c.args.target.now (commands.item_in (block_of c.args.block.now) c.args.target.now) c.in-Some.item (commands.items_in (block_of c.args.block.now) c.args.sources.now) c.args.sources.now
    c.in-Some.ensures
    refl
    c.if-any_other_currency.ensures

pub returns-in_default-merged-clause-steps : goal.returns-in_default-merged-clause-steps
returns-in_default-merged-clause-steps c =
    merge_over c.args.tx.now (block_of c.args.block.now) c.args.target.now (commands.item_in (block_of c.args.block.now) c.args.target.now) c.in-Some.item (commands.items_in (block_of c.args.block.now) c.args.sources.now) c.args.sources.now
    (amount_of c.in-Some.item.content + commands.sum_of (commands.items_in (block_of c.args.block.now) c.args.sources.now))
    c.in-Some.ensures
    refl
    c.if-any_other_currency.ensures
    (cc (c.in_default-merged.ensures))

pub returns-clause-steps : goal.returns-clause-steps
returns-clause-steps c =
    merge_done c.args.tx.now (block_of c.args.block.now) c.args.target.now (commands.item_in (block_of c.args.block.now) c.args.target.now) c.in-Some.item (commands.items_in (block_of c.args.block.now) c.args.sources.now) c.args.sources.now
    (amount_of c.in-Some.item.content + commands.sum_of (commands.items_in (block_of c.args.block.now) c.args.sources.now)) c.in-Some-merged.total (block_of c.merge_coins.new.block)
    c.in-Some.ensures
    refl
    c.if-any_other_currency.ensures
    c.in-Some-merged.ensures
    c.in_ok-merge_coins.ensures.after
