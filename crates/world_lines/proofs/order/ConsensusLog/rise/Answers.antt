use Rattle.std.proofs.Common.{◌∙◌, sym, subst, List}
use Rattle.protocol_spec.specs.Chain.Words.{Each}
use Rattle.world_lines.specs.Orders.{AreSpelled}
use Rattle.world_lines.specs.declared.order.OrderedRow.{OrderedRow}
use Rattle.world_lines.proofs.KeptEnds.{raised, raised_orders, raised_past, raised_rows}
use Rattle.world_lines.proofs.Ordering.{keepable_all}
use Rattle.world_lines.proofs.order.ConsensusLog.rise.Goals as goal

pub returns-in_err-push-clause-keepable : goal.returns-in_err-push-clause-keepable
returns-in_err-push-clause-keepable c =
    keepable_all c.push.new.self c.self.inside.«open» (subst (λ (past : List (List OrderedRow)). Each AreSpelled past) (sym c.in_err-push.ensures.err) c.self.invariant.0) c.self.invariant.1

pub returns-clause-ok : goal.returns-clause-ok
returns-clause-ok c =
    raised_orders c.self.inside.past c.set-none.new.self c.self.inside.«open» c.replace-rows.new.dest c.args.self.now
    (raised c.self.inside.past c.push.new.self c.set-none.new.self c.self.inside.«open» c.new.result c.replace-rows.result c.replace-rows.new.dest c.len-place.result c.len-place.ensures c.new.ensures c.in_ok-push.ensures.ok c.replace-rows.ensures.value c.set-none.ensures.after (c.replace-rows.ensures.after ∙ c.new-2.ensures))
    c.self.view_is

pub returns-clause-keepable : goal.returns-clause-keepable
returns-clause-keepable c =
    let up = raised c.self.inside.past c.push.new.self c.set-none.new.self c.self.inside.«open» c.new.result c.replace-rows.result c.replace-rows.new.dest c.len-place.result c.len-place.ensures c.new.ensures c.in_ok-push.ensures.ok c.replace-rows.ensures.value c.set-none.ensures.after (c.replace-rows.ensures.after ∙ c.new-2.ensures) in
    keepable_all c.set-none.new.self c.replace-rows.new.dest
    (raised_past c.self.inside.past c.set-none.new.self c.self.inside.«open» c.replace-rows.new.dest up c.self.invariant.0 c.self.invariant.1)
    (raised_rows c.self.inside.past c.set-none.new.self c.self.inside.«open» c.replace-rows.new.dest up)
