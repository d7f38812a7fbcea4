use Rattle.std.proofs.Common.{Some}
use Rattle.journal_core.specs.declared.records.Record.TheVariants as record_as
use Rattle.protocol_spec.specs.Member.Calls.{due, votes}
use Rattle.validator_core.specs.Answers.{sealed_as}
use Rattle.validator_core.proofs.Casting.{fresh_due, vote_called}
use Rattle.validator_core.proofs.calls.vote.Goals as goal

pub returns-clause-state : goal.returns-clause-state
returns-clause-state g c =
    let r = sealed_as (g.S.Checker.accepts c.args.sealer.now) in
    vote_called r c.args.state.now.member c.keep_vote.new.state.member (votes c.args.bytes.now) c.in_ok-tx.tx c.in_ok-tx.decision.origins
    (fresh_due (due r c.args.state.now.member (votes c.args.bytes.now)) (Some (record_as.Vote c.in_ok-tx.tx c.in_ok-tx.decision.origins)) c.in_ok-tx.decision.fresh c.in_ok-tx.ensures.due c.if-not-decision.false)
    c.in_ok-keep_vote.ensures.state
