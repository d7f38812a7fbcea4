use Rattle.ptb_run.specs.Blocks.{block_of, rows_of}
use Rattle.ptb_run.proofs.Leaving.{split_is}
use Rattle.ptb_run.proofs.commands.split_coin.Goals as goal

pub returns-clause-after : goal.returns-clause-after
returns-clause-after c =
    split_is c.args.site.now.tx c.args.site.now.version (rows_of c.args.block.now) (block_of c.args.block.now) (block_of c.put_back.new.self) (block_of c.set_made.new.self) (block_of c.add_results.new.self)
    c.args.coin.now c.args.item.now c.args.left c.args.amounts.now c.in_ok-row.row
    c.requires.left
    (cc (c.in_ok-row.ensures.row, c.made-made.ensures, c.currency_of.ensures))
    (cc (c.put_back.ensures.after, c.holding.ensures, c.in_ok-row.ensures.same))
    (cc (c.set_made.ensures.after, c.made-made.ensures))
    (cc (c.in_ok-add_results.ensures.after, c.set_made.ensures.rows, c.put_back.ensures.rows, c.in_ok-row.ensures.rows))
