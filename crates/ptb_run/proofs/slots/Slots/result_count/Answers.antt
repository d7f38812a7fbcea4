use Rattle.std.proofs.Common.{◌∙◌}
use Rattle.ptb_run.proofs.Counting.{count_there, count_not_there}
use Rattle.ptb_run.proofs.slots.Slots.result_count.Goals as goal

pub returns-in-Some : goal.returns-in-Some
returns-in-Some c = c.len.ensures ∙ count_there c.args.self.now c.args.command c.deref.result.now c.in-Some.row.now c.deref.ensures.value c.in-Some.ensures.lookup.3.0 c.in-Some.ensures.lookup.1

pub returns-in-None : goal.returns-in-None
returns-in-None c = count_not_there c.args.self.now c.args.command c.deref.result.now c.deref.ensures.value c.in-None.ensures.lookup.3
