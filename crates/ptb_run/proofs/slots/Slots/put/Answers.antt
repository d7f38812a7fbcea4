use Rattle.std.proofs.Common.{◌<◌, length, refl, arith}
use Rattle.ptb_run.proofs.Writing.{row_put}
use Rattle.ptb_run.proofs.slots.Slots.put.Goals as goal

pub returns-then-command-len-clause-after : goal.returns-then-command-len-clause-after
returns-then-command-len-clause-after c =
    let low : c.in-Result.command < length c.args.self.now.results.items = omega arith in
    row_put c.args.self.now _ c.args.spot c.in-Result.command c.in-Result.number c.args.value c.index_mut.result.now c.put_cell-then-command-len.new.row c.in-Result.is low c.index_mut.ensures.value c.put_cell-then-command-len.ensures refl refl refl
