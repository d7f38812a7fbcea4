use Rattle.std.proofs.Common.{map}
use Rattle.ptb_run.specs.Blocks.{block_of, rows_of}
use Rattle.ptb_run.specs.Needs.{wanted_of}
use Rattle.ptb_run.proofs.Leaving.{called_is}
use Rattle.ptb_run.proofs.calls.take_in.Goals as goal

pub returns-clause-after : goal.returns-clause-after
returns-clause-after c =
    called_is (rows_of c.args.block.now) (block_of c.args.block.now) (block_of c.spend_taken.new.block) (block_of c.put_changed.new.block) (block_of c.leave.new.self) (block_of c.draw_results.new.self) (block_of c.add_results.new.self)
    (map wanted_of c.args.wanted.now) c.args.results.now c.args.changed c.args.placed c.args.made c.in_ok-row.row
    c.spend_taken.ensures.after
    c.put_changed.ensures.after
    c.in_ok-leave.ensures.after
    c.in_ok-draw_results.ensures.after
    c.in_ok-row.ensures
    (cc (c.in_ok-add_results.ensures.after, c.in_ok-draw_results.ensures.rows, c.in_ok-leave.ensures.rows, c.put_changed.ensures.rows, c.spend_taken.ensures.rows))
