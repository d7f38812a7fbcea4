use Rattle.std.proofs.Common.{subst, ◌∙◌, set}
use Rattle.std.specs.Prelude.{slice_get}
use Rattle.world_spec.specs.Terms.{rules_for}
use Rattle.world_core.specs.Crews.{Crew}
use Rattle.world_core.specs.SeatRestarts.{Restarted}
use Rattle.world_core.proofs.Restarting.{restarted, whole_restarted}
use Rattle.world_core.proofs.seats.Seats.restart.Goals as goal

pub invariant_of-self : goal.invariant_of-self
invariant_of-self g c =
    let s = c.self.inside in
    let accepts = g.S.Checker.accepts c.args.sealer.now in
    whole_restarted (rules_for s.terms accepts) c.args.opening.now c.in-Ok.kept s.terms s.flags s.seats.items c.len.result c.args.member c.index_mut-seat.result.now c.start-in-Ok-start.new.self c.in-Ok-start.validator
    (c.len.ensures ∙ s.seats.ok.0) c.if-member-len.false c.index_mut-seat.ensures.value c.self.invariant c.in-Ok-start.ensures c.start-in-Ok-start.ensures

pub returns-in-Ok-start-clause-ok : goal.returns-in-Ok-start-clause-ok
returns-in-Ok-start-clause-ok g c =
    let s = c.self.inside in
    let accepts = g.S.Checker.accepts c.args.sealer.now in
    let told = g.D.Keeper.lists c.args.keeper.now in
    subst (λ (w : Crew). Restarted (rules_for w.terms accepts) c.args.opening.now told w.terms c.args.member w.posts (set s.seats.items c.args.member c.start-in-Ok-start.new.self) (slice_get w.posts c.args.member) c.len-in-Ok-start.result) c.self.view_is
    (restarted (rules_for s.terms accepts) c.args.opening.now told c.in-Ok.kept s.terms s.seats.items c.len.result c.args.member c.index_mut-seat.result.now c.start-in-Ok-start.new.self c.in-Ok-start.validator c.len-in-Ok-start.result
    (c.len.ensures ∙ s.seats.ok.0) c.if-member-len.false c.index_mut-seat.ensures.value c.in-Ok.ensures.told c.len-in-Ok-start.ensures c.in-Ok-start.ensures c.start-in-Ok-start.ensures)
