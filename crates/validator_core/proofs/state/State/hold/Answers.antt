use Rattle.std.proofs.lemmas.Result.{err_from_is_err_and}
use Rattle.world_spec.specs.Terms.{rules_for}
use Rattle.validator_core.specs.Limits.{terms_at}
use Rattle.validator_core.proofs.Cases.{refused_due}
use Rattle.validator_core.proofs.state.State.hold.Goals as goal

pub returns-in_err-holding-clause-due : goal.returns-in_err-holding-clause-due
returns-in_err-holding-clause-due g c =
    let p = err_from_is_err_and c.from_residual-in_err-holding.result c.from_residual-in_err-holding.ensures.1 in
    rw (p.1, p.2)
    (refused_due (rules_for (terms_at c.args.self.now c.args.committee.now) (g.S.Checker.accepts c.args.sealer.now)) c.args.self.now.member c.args.bytes.now c.in-Ok.cert.0 c.in_err-holding.field-0.0 c.in_ok-check_hold.ensures.value c.in-Ok.ensures.exact
    c.in_err-holding.ensures.answer)
