use Rattle.std.proofs.Common.{List, [], ◌∷◌, ◌++◌, ap, ◌∙◌}
use Rattle.protocol_spec.specs.declared.pieces.Placed.{Placed}
use Rattle.protocol_spec.specs.Block.Execution.{with_rest_first}
use Rattle.ptb_run.specs.declared.written.Moved.{Moved}
use Rattle.ptb_run.specs.Blocks.{block_of}
use Rattle.ptb_run.specs.Left.{firsts_after}
use Rattle.ptb_run.specs.Remains.{created_below, gone_after, kept_after}
use Rattle.ptb_run.proofs.Executing.{executed_as_done}
use Rattle.ptb_run.proofs.execution.executed_done.Goals as goal

pub returns : goal.returns
unfolding block_of
returns c =
    executed_as_done c.args.tx.now c.args.site.now.tx (c.args.gas.now ∷ c.args.others.now) (block_of c.args.block.now) c.executed_as.result c.args.site.now.version _ _ _ c.in_ok-left.left.entries
    c.in_ok-moved.moved
    c.executed_as.ensures
    c.made.ensures
    (c.in_ok-objects.ensures
    ∙ ap (λ (l : List Moved). with_rest_first c.args.tx.now (kept_after c.args.site.now.version c.in_ok-left.left.entries (block_of c.args.block.now) [] l)
    ++ created_below c.args.site.now.tx c.args.site.now.version c.in_ok-left.left.entries (block_of c.args.block.now).made)
    c.as_slice-2.ensures.value)
    (c.in_ok-deleted.ensures ∙ ap (λ (l : List Moved). gone_after c.args.site.now.version c.in_ok-left.left.entries (block_of c.args.block.now) [] l) c.as_slice-3.ensures.value)
    (c.in_ok-left.ensures ∙ ap (λ (l : List Placed). firsts_after [] l) c.as_slice.ensures.value)
    c.in_ok-moved.ensures
    c.requires.version
