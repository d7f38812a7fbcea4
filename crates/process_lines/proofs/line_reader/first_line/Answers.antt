use Rattle.std.proofs.Common.{◌+◌, sym, subst}
use Rattle.process_lines.specs.Lines.{IsCutAt}
use Rattle.process_lines.proofs.Cuts.{ends_at}
use Rattle.process_lines.proofs.line_reader.first_line.Goals as goal

pub returns-in-Some-clause-some : goal.returns-in-Some-clause-some
returns-in-Some-clause-some c = subst (λ line. IsCutAt c.args.bytes.now line (c.in-Some.place + 1)) (sym c.split_at.ensures.front) (ends_at c.args.bytes.now c.in-Some.place c.in-Some.ensures.value)
