use Rattle.std.proofs.Common.{◌∙◌, ap, ℕ, refl}
use Rattle.std.specs.Prelude.{min, slice_get}
use Rattle.world_spec.specs.Scene.{Scene, rules_in}
use Rattle.world_spec.specs.SceneSteps.{standing_at, work_of, sees_to}
use Rattle.world_core.specs.Steps.{scene_after}
use Rattle.world_core.specs.Trusts.{trust_by}
use Rattle.world_core.proofs.SeeLines.{down_kept, halted_kept, halted_world, taken_broken, taken_kept, taken_untold, taken_world}
use Rattle.world_core.proofs.Sound.{on_ok}
use Rattle.schedule_text.specs.declared.words.Event.TheVariants as events
use Rattle.world_core.proofs.Cuts.{unmade_line_on}
use Rattle.world_core.proofs.Stated.{all_said_on, grew_as, unsaid_on}
use Rattle.world_core.proofs.world.World.see.Goals as goal

pub returns-in_default-clause-kept : goal.returns-in_default-clause-kept
unfolding work_of
returns-in_default-clause-kept g c =
    down_kept (trust_by (g.S.MakesSeals.made c.args.sealer.now) (g.S.Checker.accepts c.args.sealer.now)) c.args.self.now c.args.member c.args.entries
    (c.in_default.ensures.value ∙ ap (λ (x : Scene). standing_at (slice_get x.posts c.args.member)) c.self.view_is)
    (g.D.Keeper.lists c.args.keeper.now) c.see_line.result

pub returns-in-Some-fork-clause-world : goal.returns-in-Some-fork-clause-world
unfolding scene_after work_of
returns-in-Some-fork-clause-world g c =
    on_ok _ c.match-see_halted.result
    (halted_world (trust_by (g.S.MakesSeals.made c.args.sealer.now) (g.S.Checker.accepts c.args.sealer.now)) c.args.self.now c.args.member c.args.entries c.in-Some.validator.now
    (c.in-Some.ensures.value ∙ ap (λ (x : Scene). standing_at (slice_get x.posts c.args.member)) c.self.view_is) c.in-Some-fork.first c.in-Some-fork.second c.in-Some-fork.ensures)

pub returns-in-Some-fork-clause-kept : goal.returns-in-Some-fork-clause-kept
unfolding work_of
returns-in-Some-fork-clause-kept g c =
    halted_kept (trust_by (g.S.MakesSeals.made c.args.sealer.now) (g.S.Checker.accepts c.args.sealer.now)) c.args.self.now c.args.member c.args.entries c.in-Some.validator.now
    (c.in-Some.ensures.value ∙ ap (λ (x : Scene). standing_at (slice_get x.posts c.args.member)) c.self.view_is) c.in-Some-fork.first c.in-Some-fork.second c.in-Some-fork.ensures
    (g.D.Keeper.lists c.args.keeper.now) c.match-see_halted.result

pub returns-then-is_empty-clause-kept : goal.returns-then-is_empty-clause-kept
unfolding work_of
returns-then-is_empty-clause-kept g c =
    taken_kept (trust_by (g.S.MakesSeals.made c.args.sealer.now) (g.S.Checker.accepts c.args.sealer.now)) c.args.self.now c.args.member c.args.entries c.in-Some.validator.now
    (c.in-Some.ensures.value ∙ ap (λ (x : Scene). standing_at (slice_get x.posts c.args.member)) c.self.view_is) c.min-count.result
    (c.min-count.ensures ∙ ap (λ (n : ℕ). min c.args.entries n) c.entries_left.ensures)
    (g.D.Keeper.lists c.args.keeper.now) (g.D.Keeper.lists c.see_all.new.keeper) c.see_line-then-is_empty.result c.in-Ok-see_all.ensures.kept

pub returns-then-is_empty-clause-cut : goal.returns-then-is_empty-clause-cut
unfolding work_of
returns-then-is_empty-clause-cut g c =
    taken_untold (trust_by (g.S.MakesSeals.made c.args.sealer.now) (g.S.Checker.accepts c.args.sealer.now)) c.args.self.now c.args.member c.args.entries c.in-Some.validator.now
    (c.in-Some.ensures.value ∙ ap (λ (x : Scene). standing_at (slice_get x.posts c.args.member)) c.self.view_is) c.min-count.result
    (c.min-count.ensures ∙ ap (λ (n : ℕ). min c.args.entries n) c.entries_left.ensures)
    c.see_all.new.self (g.D.Keeper.lists c.args.keeper.now) (g.D.Keeper.lists c.see_all.new.keeper) c.see_line-then-is_empty.result c.in-Ok-see_all.ensures.world c.in-Ok-see_all.ensures.kept

pub returns-in_default-clause-cut : goal.returns-in_default-clause-cut
returns-in_default-clause-cut g c =
    unmade_line_on (rules_in (g.S.Checker.accepts c.args.sealer.now) c.args.self.now) c.args.self.now (work_of c.args.self.now (events.See c.args.member c.args.entries)) (g.D.Keeper.lists c.args.keeper.now) c.see_line.result

pub returns-in-Some-fork-clause-cut : goal.returns-in-Some-fork-clause-cut
returns-in-Some-fork-clause-cut g c =
    unmade_line_on (rules_in (g.S.Checker.accepts c.args.sealer.now) c.args.self.now) c.args.self.now (work_of c.args.self.now (events.See c.args.member c.args.entries)) (g.D.Keeper.lists c.args.keeper.now) c.match-see_halted.result

pub returns-in-Err-see_all-clause-cut : goal.returns-in-Err-see_all-clause-cut
unfolding work_of
returns-in-Err-see_all-clause-cut g c =
    taken_broken (trust_by (g.S.MakesSeals.made c.args.sealer.now) (g.S.Checker.accepts c.args.sealer.now)) c.args.self.now c.args.member c.args.entries c.in-Some.validator.now
    (c.in-Some.ensures.value ∙ ap (λ (x : Scene). standing_at (slice_get x.posts c.args.member)) c.self.view_is) c.min-count.result
    (c.min-count.ensures ∙ ap (λ (n : ℕ). min c.args.entries n) c.entries_left.ensures)
    c.see_all.new.self.posts (g.D.Keeper.lists c.args.keeper.now) (g.D.Keeper.lists c.see_all.new.keeper) c.in-Err-see_all.ensures.cut

pub returns-in_default-clause-said : goal.returns-in_default-clause-said
returns-in_default-clause-said g c =
    unsaid_on (trust_by (g.S.MakesSeals.made c.args.sealer.now) (g.S.Checker.accepts c.args.sealer.now)) c.args.self.now (events.See c.args.member c.args.entries) c.args.self.now.said c.see_line.result refl

pub returns-in-Some-fork-clause-said : goal.returns-in-Some-fork-clause-said
returns-in-Some-fork-clause-said g c =
    unsaid_on (trust_by (g.S.MakesSeals.made c.args.sealer.now) (g.S.Checker.accepts c.args.sealer.now)) c.args.self.now (events.See c.args.member c.args.entries) c.args.self.now.said c.match-see_halted.result refl

pub returns-in-Err-see_all-clause-said : goal.returns-in-Err-see_all-clause-said
unfolding scene_after work_of
returns-in-Err-see_all-clause-said g c =
    grew_as c.args.self.now.said c.see_all.new.self.said (sees_to (rules_in (g.S.Checker.accepts c.args.sealer.now) c.args.self.now) c.min-count.result c.args.self.now c.args.member).said (scene_after (trust_by (g.S.MakesSeals.made c.args.sealer.now) (g.S.Checker.accepts c.args.sealer.now)) c.args.self.now (events.See c.args.member c.args.entries)).said
    (ap (λ (x : Scene). x.said) (taken_world (trust_by (g.S.MakesSeals.made c.args.sealer.now) (g.S.Checker.accepts c.args.sealer.now)) c.args.self.now c.args.member c.args.entries c.in-Some.validator.now
    (c.in-Some.ensures.value ∙ ap (λ (x : Scene). standing_at (slice_get x.posts c.args.member)) c.self.view_is) c.min-count.result
    (c.min-count.ensures ∙ ap (λ (n : ℕ). min c.args.entries n) c.entries_left.ensures) (sees_to (rules_in (g.S.Checker.accepts c.args.sealer.now) c.args.self.now) c.min-count.result c.args.self.now c.args.member) refl))
    c.in-Err-see_all.ensures.said

pub returns-then-is_empty-clause-said : goal.returns-then-is_empty-clause-said
unfolding scene_after work_of
returns-then-is_empty-clause-said g c =
    all_said_on (trust_by (g.S.MakesSeals.made c.args.sealer.now) (g.S.Checker.accepts c.args.sealer.now)) c.args.self.now (events.See c.args.member c.args.entries) c.see_all.new.self.said c.see_line-then-is_empty.result
    (ap (λ (x : Scene). x.said) (taken_world (trust_by (g.S.MakesSeals.made c.args.sealer.now) (g.S.Checker.accepts c.args.sealer.now)) c.args.self.now c.args.member c.args.entries c.in-Some.validator.now
    (c.in-Some.ensures.value ∙ ap (λ (x : Scene). standing_at (slice_get x.posts c.args.member)) c.self.view_is) c.min-count.result
    (c.min-count.ensures ∙ ap (λ (n : ℕ). min c.args.entries n) c.entries_left.ensures) c.see_all.new.self c.in-Ok-see_all.ensures.world))
