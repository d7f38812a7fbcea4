use Rattle.std.proofs.Common.{ap, sym, ◌∙◌}
use Rattle.version_assign.specs.Lines.{LineMap, has_line, line_at, no_line}
use Rattle.version_assign.proofs.Lining.{has_put, line_made}
use Rattle.version_assign.proofs.lines.make_line.Goals as goal

pub returns-clause-same : goal.returns-clause-same
returns-clause-same c = λ q.
    ap (λ (es : LineMap). line_at es q) c.in_ok-insert.ensures.entries ∙ line_made c.args.lines.now.entries c.args.id (sym c.contains_key.ensures ∙ c.if-contains_key.false) q

pub returns-clause-kept : goal.returns-clause-kept
returns-clause-kept c = λ q has.
    ap (λ (es : LineMap). has_line es q) c.in_ok-insert.ensures.entries ∙ has_put c.args.lines.now.entries c.args.id no_line q has
