use Rattle.std.proofs.Common.{◌∙◌, ap, List, Option}
use Rattle.ptb_run.specs.declared.value.Value.{Value}
use Rattle.ptb_run.specs.Slots.{cell_of}
use Rattle.ptb_run.proofs.Reading.{result_in, no_result_in}
use Rattle.ptb_run.proofs.slots.Slots.at.Goals as goal

pub returns-in-Some : goal.returns-in-Some
returns-in-Some c =
    c.cell-in-Some.ensures
    ∙ ap (λ (row : List (Option Value)). cell_of row c.in-Result.number) c.as_slice-in-Some.ensures.value
    ∙ result_in c.args.self.now c.args.spot c.in-Result.command c.in-Result.number c.deref.result.now c.in-Some.row.now c.in-Result.is c.deref.ensures.value c.in-Some.ensures.lookup.3.0 c.in-Some.ensures.lookup.1

pub returns-in-None : goal.returns-in-None
returns-in-None c = no_result_in c.args.self.now c.args.spot c.in-Result.command c.in-Result.number c.deref.result.now c.in-Result.is c.deref.ensures.value c.in-None.ensures.lookup.3
