use Rattle.std.proofs.Common.{ap, sym, subst, ◌∙◌}
use Rattle.world_spec.specs.Posts.{Post, armed_at, arming}
use Rattle.world_core.specs.Crews.{Crew, IsPlaced}
use Rattle.world_core.proofs.Placing.{changed_is, placed_in, whole_with}
use Rattle.world_core.proofs.seats.Seats.arm.Goals as goal

pub invariant_of-self : goal.invariant_of-self
invariant_of-self c =
    let old = c.index_mut-seat.result.now in
    whole_with c.self.inside.terms c.self.inside.flags c.self.inside.seats.items c.len.result c.args.member old c.arm.new.self (c.len.ensures ∙ c.self.inside.seats.ok.0) c.if-member-len.false c.index_mut-seat.ensures.value c.self.invariant
    (subst (λ (p : Post). IsPlaced c.self.inside.terms c.args.member p.standing) (sym c.arm.ensures) (placed_in c.self.inside.terms c.self.inside.seats.items c.len.result c.args.member old (c.len.ensures ∙ c.self.inside.seats.ok.0) c.if-member-len.false c.index_mut-seat.ensures.value c.self.invariant.0))
    (ap (λ (p : Post). p.honest) c.arm.ensures)

pub returns-clause-posts : goal.returns-clause-posts
returns-clause-posts c =
    changed_is (arming c.args.kept) c.self.inside.seats.items c.len.result c.args.member c.index_mut-seat.result.now c.arm.new.self (c.len.ensures ∙ c.self.inside.seats.ok.0) c.if-member-len.false c.index_mut-seat.ensures.value c.arm.ensures
    ∙ ap (λ (s : Crew). armed_at s.posts c.args.member c.args.kept) c.self.view_is
