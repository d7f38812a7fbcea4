use Rattle.std.proofs.Common.{ap, ◌∙◌}
use Rattle.version_assign.specs.Lines.{are_lined}
use Rattle.version_assign.proofs.Moving.{lined_filled}
use Rattle.version_assign.proofs.book.AdmissionTables.give.Goals as goal

pub admit-requires-clause-lined : goal.admit-requires-clause-lined
admit-requires-clause-lined c =
    ap (are_lined c.args.self.now.lines.entries) c.judge.ensures.filled
    ∙ lined_filled c.args.self.now.lines.entries c.args.self.now.lines.entries c.args.row.assigned.items c.requires.lined
