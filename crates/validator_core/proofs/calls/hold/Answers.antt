use Rattle.protocol_spec.specs.Member.Calls.{due, holds}
use Rattle.world_spec.specs.Terms.{rules_for}
use Rattle.validator_core.specs.Limits.{terms_at}
use Rattle.validator_core.proofs.Casting.{fork_due, hold_called, new_due}
use Rattle.validator_core.proofs.calls.hold.Goals as goal

pub returns-in_ok-keep-in-New-clause-state : goal.returns-in_ok-keep-in-New-clause-state
returns-in_ok-keep-in-New-clause-state g c =
    let r = rules_for (terms_at c.args.state.now c.args.committee.now) (g.S.Checker.accepts c.args.sealer.now) in
    hold_called r c.args.state.now.member c.keep.new.state.member (holds c.args.bytes.now) c.in_ok-cert.cert
    (new_due (due r c.args.state.now.member (holds c.args.bytes.now)) c.in_ok-cert.cert c.in_ok-cert.holding c.in-New.digest c.in_ok-cert.ensures.due c.in-New.is) c.in_ok-keep-in-New.ensures.state

pub returns-in_ok-keep-in-Fork-clause-state : goal.returns-in_ok-keep-in-Fork-clause-state
returns-in_ok-keep-in-Fork-clause-state g c =
    let r = rules_for (terms_at c.args.state.now c.args.committee.now) (g.S.Checker.accepts c.args.sealer.now) in
    hold_called r c.args.state.now.member c.keep-in-Fork.new.state.member (holds c.args.bytes.now) c.in_ok-cert.cert
    (fork_due (due r c.args.state.now.member (holds c.args.bytes.now)) c.in_ok-cert.cert c.in_ok-cert.holding c.in-Fork.key c.in-Fork.first c.in-Fork.digest c.in_ok-cert.ensures.due c.in-Fork.is)
    c.in_ok-keep-in-Fork.ensures.state
