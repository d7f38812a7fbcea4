use Rattle.std.proofs.Common.{true, false}
use Rattle.world_core.specs.Trusts.{trust_by}
use Rattle.committee_core.proofs.Voting.{ends_voted, honest_behind, of_each, said_dishonest}
use Rattle.committee_core.proofs.desk.said_in.Goals as goal

pub returns-then-not-is_honest : goal.returns-then-not-is_honest
returns-then-not-is_honest g c =
    let trust = trust_by (g.S.MakesSeals.made c.args.sealer) (g.S.Checker.accepts c.args.sealer) in
    of_each _ _ _ c.said_line.result (λ s txs shows. said_dishonest c.said_line.result trust c.args.callers s c.as_slice.result.now c.as_slice.ensures
    (honest_behind trust s c.args.world.now false txs shows c.if-not-is_honest.ensures) c.said_line.ensures)

pub returns : goal.returns
returns g c = λ s txs shows.
    let trust = trust_by (g.S.MakesSeals.made c.args.sealer) (g.S.Checker.accepts c.args.sealer) in
    ends_voted trust c.args.callers s c.args.world.now c.in_ok-calls.calls c.in_ok-text.text shows c.in_ok-calls.ensures.legal c.in_ok-calls.ensures.made c.in_ok-calls.ensures.answered c.in_ok-text.ensures
    (honest_behind trust s c.args.world.now true txs shows c.if-not-is_honest.ensures)
