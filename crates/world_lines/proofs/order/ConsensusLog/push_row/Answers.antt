use Rattle.std.proofs.Common.{ap, sym, subst, refl, length}
use Rattle.world_lines.specs.Orders.{AreSpelled, Orders, row_entry}
use Rattle.world_lines.proofs.KeptEnds.{ends_after}
use Rattle.world_lines.proofs.Ordering.{keepable_all, pushed_is, spelled_push}
use Rattle.world_lines.proofs.order.ConsensusLog.push_row.Goals as goal

pub returns-in_err-push-clause-keepable : goal.returns-in_err-push-clause-keepable
returns-in_err-push-clause-keepable c =
    keepable_all c.self.inside.past c.push.new.self c.self.invariant.0 (subst AreSpelled (sym c.in_err-push.ensures.err) c.self.invariant.1)

pub invariant_of-self-2 : goal.invariant_of-self-2
invariant_of-self-2 c = (
  c.self.invariant.0,
  subst AreSpelled (sym c.in_ok-push.ensures.ok) (spelled_push c.self.inside.«open» c.args.row c.self.invariant.1 c.requires.spelled),
  ends_after (length c.self.inside.past) c.args.self.now.epoch c.self.inside.«open» c.push.new.self c.args.row c.self.inside.ends.items c.reserve.new.self.items c.keep_end.new.ends.items c.args.end
      c.self.invariant.2 (ap (λ (o : Orders). o.epoch) (sym c.self.view_is)) c.requires.end c.in_ok-push.ensures.ok c.in_ok-reserve.ensures.items c.keep_end.ensures,
)

pub returns-clause-ok : goal.returns-clause-ok
returns-clause-ok c = pushed_is c.self.inside.past c.self.inside.«open» c.push.new.self c.args.row (row_entry c.args.row) c.args.self.now c.self.view_is refl c.in_ok-push.ensures.ok

pub returns-clause-keepable : goal.returns-clause-keepable
returns-clause-keepable c =
    keepable_all c.self.inside.past c.push.new.self c.self.invariant.0 (subst AreSpelled (sym c.in_ok-push.ensures.ok) (spelled_push c.self.inside.«open» c.args.row c.self.invariant.1 c.requires.spelled))
