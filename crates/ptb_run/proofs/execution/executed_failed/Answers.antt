use Rattle.std.proofs.Common.{List, [], ◌∷◌, ap, ◌∙◌}
use Rattle.protocol_spec.specs.Block.Execution.{less_cost_first}
use Rattle.ptb_run.specs.declared.written.Moved.{Moved}
use Rattle.ptb_run.specs.Outcomes.{fault_of}
use Rattle.ptb_run.specs.Remains.{same_after}
use Rattle.ptb_run.proofs.Executing.{executed_as_failed}
use Rattle.ptb_run.proofs.execution.executed_failed.Goals as goal

pub returns : goal.returns
returns c =
    executed_as_failed c.args.tx.now c.args.site.now.tx (c.args.gas.now ∷ c.args.others.now) (c.args.command, fault_of c.args.fault) c.executed_as.result c.args.site.now.version _ _ _ c.in_ok-moved.moved
    c.executed_as.ensures
    c.failed_status-status.ensures
    c.new.ensures
    (c.in_ok-objects.ensures ∙ ap (λ (l : List Moved). less_cost_first c.args.tx.now (same_after c.args.site.now.version [] l)) c.as_slice.ensures.value)
    c.in_ok-moved.ensures
    c.requires.version
