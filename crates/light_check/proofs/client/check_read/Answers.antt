use Rattle.std.proofs.Common.{◌∙◌, arith, sym, ap, subst}
use Rattle.std.specs.Io.KnownBytes.{Appends}
use Rattle.light_check.specs.declared.said.Finding.{Finding}
use Rattle.light_check.specs.Said.{finding_status, finding_text}
use Rattle.light_check.proofs.Saying.{certified_said}
use Rattle.light_check.proofs.client.check_read.Goals as goal

pub returns-in-Ok-write_finding-clause-certified : goal.returns-in-Ok-write_finding-clause-certified
returns-in-Ok-write_finding-clause-certified g c = λ is.
    certified_said c.args.committee.now (g.C.Checker.accepts c.args.checker.now) c.args.tx.now c.args.bytes.now (λ i. omega (arith, c.type_inv.bytes i)) (g.K.Sink.held c.args.sink.now) (g.K.Sink.held c.write_finding.new.sink)
    (sym is ∙ (c.finding_status.ensures ∙ ap finding_status c.in-Ok.ensures))
    (subst (λ (f : Finding). Appends (g.K.Sink.held c.args.sink.now) (g.K.Sink.held c.write_finding.new.sink) (finding_text f)) c.in-Ok.ensures c.in-Ok-write_finding.ensures.ok)
