use Rattle.std.proofs.Common.{◌∙◌, Err, ap}
use Rattle.exec_plan.specs.Drafts.{Drafted}
use Rattle.exec_plan.proofs.LaidOut.{draft_gives, draft_takes, never_bad}
use Rattle.exec_plan.proofs.drafting.Draft.into_plan.Goals as goal

pub new-requires-clause-takes : goal.new-requires-clause-takes
new-requires-clause-takes c =
    draft_takes c.args.self c.requires c.from_vec.result c.self.inside.edges (c.from_vec.ensures ∙ ap (λ (d : Drafted). d.tasks) c.self.view_is) (ap (λ (d : Drafted). d.edges) c.self.view_is)

pub new-requires-clause-gives : goal.new-requires-clause-gives
new-requires-clause-gives c =
    draft_gives c.args.self c.requires c.from_vec.result c.self.inside.edges (c.from_vec.ensures ∙ ap (λ (d : Drafted). d.tasks) c.self.view_is) (ap (λ (d : Drafted). d.edges) c.self.view_is)

pub unreachable-requires : goal.unreachable-requires
unreachable-requires c =
    never_bad c.args.self c.requires c.from_vec.result c.self.inside.edges (c.from_vec.ensures ∙ ap (λ (d : Drafted). d.tasks) c.self.view_is) (ap (λ (d : Drafted). d.edges) c.self.view_is)
    c.in-Err-BadEdge.field-0-0 ((c.new.ensures.bad c.in-Err-BadEdge.field-0-0).0 (c.in-Err-BadEdge.is ∙ ap Err c.in-Err-BadEdge.field-0-is))
