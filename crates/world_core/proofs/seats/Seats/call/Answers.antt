use Rattle.std.proofs.Common.{subst, ◌∙◌, set}
use Rattle.world_spec.specs.Terms.{rules_for}
use Rattle.world_core.specs.Crews.{Crew}
use Rattle.world_core.specs.Served.{Served}
use Rattle.world_core.proofs.Calling.{served_in, whole_after}
use Rattle.world_core.proofs.Placing.{placed_in}
use Rattle.world_core.proofs.seats.Seats.call.Goals as goal

pub invariant_of-self : goal.invariant_of-self
invariant_of-self g c =
    let s = c.self.inside in
    let r = rules_for s.terms (g.S.Checker.accepts c.args.sealer.now) in
    whole_after s.terms s.flags s.seats.items c.len.result c.args.member r (g.Q.Asks.call c.args.request.now) c.index_mut-seat.result.now c.call.new.self c.call.result (c.len.ensures ∙ s.seats.ok.0) c.if-member-len.false c.index_mut-seat.ensures.value c.self.invariant
    (placed_in s.terms s.seats.items c.len.result c.args.member c.index_mut-seat.result.now (c.len.ensures ∙ s.seats.ok.0) c.if-member-len.false c.index_mut-seat.ensures.value c.self.invariant.0)
    c.call.ensures.post

pub returns-clause-served : goal.returns-clause-served
returns-clause-served g c =
    let s = c.self.inside in
    let accepts = g.S.Checker.accepts c.args.sealer.now in
    let call = g.Q.Asks.call c.args.request.now in
    subst (λ (w : Crew). Served (g.Q.Asks.says c.args.request.now (rules_for w.terms accepts) accepts c.args.member) (rules_for w.terms accepts) call c.args.member w (let new : Crew = record { terms = s.terms; posts = set s.seats.items c.args.member c.call.new.self } in new) (g.D.Keeper.lists c.args.keeper.now) (g.D.Keeper.lists c.call.new.keeper) c.call.result) c.self.view_is
    (served_in (g.Q.Asks.says c.args.request.now (rules_for s.terms accepts) accepts c.args.member) s.terms s.seats.items c.len.result c.args.member (rules_for s.terms accepts) call c.index_mut-seat.result.now c.call.new.self (g.D.Keeper.lists c.args.keeper.now) (g.D.Keeper.lists c.call.new.keeper) c.call.result
    (c.len.ensures ∙ s.seats.ok.0) c.if-member-len.false c.index_mut-seat.ensures.value c.call.ensures.answer c.call.ensures.post c.call.ensures.kept c.call.ensures.owed c.call.ensures.able)
