use Rattle.std.proofs.Common.{IfOk, subst}
use Rattle.vote_desk.specs.declared.standing.DeskView.{DeskView}
use Rattle.vote_desk.specs.Histories.{IsHistory}
use Rattle.vote_desk.specs.Votes.{Follows, standing}
use Rattle.vote_desk.proofs.callers.ask_by_callers.Goals as goal

pub returns-in-Ok-clause-history : goal.returns-in-Ok-clause-history
returns-in-Ok-clause-history g c =
    subst (λ (o : DeskView g.row.S.Denot). IfOk c.ask_and_close.result (λ left. IsHistory (Follows g.S.Checker.accepts) o left.2 (standing left.0 o.sealer (g.D.Keeper.failed left.1) (g.D.Keeper.lists left.1))))
    c.in-Ok.ensures.opening c.ask_and_close.ensures.history
