use Rattle.std.proofs.Common.{◌∙◌, ap, length}
use Rattle.std.proofs.lemmas.Result.{IfOk-weaker}
use Rattle.world_lines.specs.Ends.{are_an_end}
use Rattle.world_lines.proofs.KeptEnds.{ended_rows}
use Rattle.world_lines.proofs.order.ConsensusLog.has_ended.Goals as goal

pub returns : goal.returns
returns g c =
    IfOk-weaker c.are_an_end.result _ _
    (λ ended is writers.
    is
    ∙ ap (λ epoch. are_an_end c.args.committee.now (g.S.Checker.accepts c.args.sealer.now) epoch c.as_slice.result.now) c.len.ensures
    ∙ ap (λ ends. are_an_end c.args.committee.now (g.S.Checker.accepts c.args.sealer.now) (length c.self.inside.past) ends) c.as_slice.ensures.value
    ∙ ended_rows c.self.inside.past c.self.inside.«open» c.self.inside.ends.items c.args.self.now c.args.committee.now (g.S.Checker.accepts c.args.sealer.now) writers c.self.view_is c.self.invariant.1 c.self.invariant.2)
    c.are_an_end.ensures
