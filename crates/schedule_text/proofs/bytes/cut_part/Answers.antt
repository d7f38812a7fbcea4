use Rattle.std.proofs.Common.{sym, ap, ◌∙◌}
use Rattle.schedule_text.proofs.Splits.{parts_after, split_cut}
use Rattle.schedule_text.proofs.bytes.cut_part.Goals as goal

pub returns-in-Some-clause-parts : goal.returns-in-Some-clause-parts
returns-in-Some-clause-parts c =
    let text = c.args.text.now in split_cut c.args.byte text ∙ ap (parts_after c.args.byte text) (sym c.in-Some.ensures.value)

pub returns-in-None-clause-parts : goal.returns-in-None-clause-parts
returns-in-None-clause-parts c =
    let text = c.args.text.now in split_cut c.args.byte text ∙ ap (parts_after c.args.byte text) (sym c.in-None.ensures.value)
