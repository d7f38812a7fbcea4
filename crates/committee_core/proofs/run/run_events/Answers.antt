use Rattle.std.proofs.Common.{◌≤◌, ℕ, length, take, refl, sym, ◌∙◌, ap, subst, arith}
use Rattle.std.proofs.lemmas.Iterator.Adapters.{YieldsList-from_vec}
use Rattle.std.proofs.lemmas.Iterator.Consumers.{YieldsList-turn, YieldsList-end}
use Rattle.std.proofs.lemmas.List.{length_push}
use Rattle.std.proofs.lemmas.Result.{err_from_is_err_and}
use Rattle.world_spec.specs.World.{new_world}
use Rattle.world_spec.specs.Scene.{Scene}
use Rattle.world_spec.specs.SceneWorlds.{Shows}
use Rattle.world_core.specs.Trusts.{trust_by}
use Rattle.committee_core.specs.Journals.{AreAtLeast, ReadsBack}
use Rattle.committee_core.specs.Report.{setting_in}
use Rattle.committee_core.proofs.Behind.{Behind, bad-here, behind-next, behind-none, cut-here, whole-run, whole-shown}
use Rattle.committee_core.proofs.Whole.{whole_cut}
use Rattle.committee_core.proofs.run.run_events.Goals as goal

pub loop-event-init : goal.loop-event-init
loop-event-init g c =
    let trust = trust_by (g.S.MakesSeals.made c.args.sealer.now) (g.S.Checker.accepts c.args.sealer.now) in
    let shows = subst (λ (sc : Scene). Shows trust (setting_in trust c.args.schedule) (new_world (setting_in trust c.args.schedule)) sc) (sym c.requires.opened)
    (c.requires.laws.first c.args.schedule.setup) in
    record {
      behind = λ reads. behind-none trust (setting_in trust c.args.schedule) (g.D.Keeper.lists c.args.keeper.now) (g.K.Sink.held c.args.sink.now) c.args.world.now shows c.requires.empty;
      stay = refl;
      width = refl;
      later = grind arith;
      kept_later = grind arith;
    }

pub returns-in_err-ran-clause-cut : goal.returns-in_err-ran-clause-cut
returns-in_err-ran-clause-cut g c =
    let p = err_from_is_err_and c.from_residual.result c.from_residual.ensures.1 in
    let trust = trust_by (g.S.MakesSeals.made c.args.sealer.now) (g.S.Checker.accepts c.args.sealer.now) in
    let gives = c.into_iter-event-iterator.ensures.into_iter_gives in
    let chain = YieldsList-from_vec {s = c.into_iter-event-iterator.result} c.args.schedule.events (gives.0 ∙ c.into_vec-event-items.ensures) (gives.1 ∙ c.into_vec-event-items.result.ok.0 ∙ ap length c.into_vec-event-items.ensures) in
    let turn = YieldsList-turn chain c.loop-event.yielded c.loop-event.event-iterator c.loop-event.yielded_by c.next.result c.next.new.self c.in-Some.event c.in-Some.is c.next.ensures.steps in
    let wide = subst (λ (n : ℕ). AreAtLeast (g.D.Keeper.lists c.args.keeper.now) n) (sym c.loop-event.invariant.stay) c.requires.wide in
    rw p.1
    (cut-here trust c.requires.laws c.args.schedule (g.D.Keeper.lists c.args.keeper.now) (g.K.Sink.held c.args.sink.now) (length c.loop-event.yielded) c.in-Some.event c.loop-event.world
    (g.D.Keeper.lists c.loop-event.keeper) (g.D.Keeper.lists c.run_event-ran.new.keeper) (g.K.Sink.held c.loop-event.sink) (g.K.Sink.held c.run_event-ran.new.sink)
    turn.1 turn.0 wide c.loop-event.invariant.behind c.requires.along c.in_err-ran.ensures.cut)

pub returns-in_err-ran-clause-bad : goal.returns-in_err-ran-clause-bad
returns-in_err-ran-clause-bad g c =
    let p = err_from_is_err_and c.from_residual.result c.from_residual.ensures.1 in
    let trust = trust_by (g.S.MakesSeals.made c.args.sealer.now) (g.S.Checker.accepts c.args.sealer.now) in
    let gives = c.into_iter-event-iterator.ensures.into_iter_gives in
    let chain = YieldsList-from_vec {s = c.into_iter-event-iterator.result} c.args.schedule.events (gives.0 ∙ c.into_vec-event-items.ensures) (gives.1 ∙ c.into_vec-event-items.result.ok.0 ∙ ap length c.into_vec-event-items.ensures) in
    let turn = YieldsList-turn chain c.loop-event.yielded c.loop-event.event-iterator c.loop-event.yielded_by c.next.result c.next.new.self c.in-Some.event c.in-Some.is c.next.ensures.steps in
    let wide = subst (λ (n : ℕ). AreAtLeast (g.D.Keeper.lists c.args.keeper.now) n) (sym c.loop-event.invariant.stay) c.requires.wide in
    rw (p.1, p.2)
    (λ said. bad-here trust c.args.schedule (g.D.Keeper.lists c.args.keeper.now) (g.K.Sink.held c.args.sink.now) (length c.loop-event.yielded) c.in-Some.event c.loop-event.world
    (g.D.Keeper.lists c.loop-event.keeper) (g.K.Sink.held c.loop-event.sink) (g.K.Sink.held c.run_event-ran.new.sink)
    turn.1 turn.0 c.loop-event.invariant.behind c.requires.along (c.in_err-ran.ensures.bad said))

pub loop-event-preserved : goal.loop-event-preserved
loop-event-preserved g c =
    let trust = trust_by (g.S.MakesSeals.made c.args.sealer.now) (g.S.Checker.accepts c.args.sealer.now) in
    let gives = c.into_iter-event-iterator.ensures.into_iter_gives in
    let chain = YieldsList-from_vec {s = c.into_iter-event-iterator.result} c.args.schedule.events (gives.0 ∙ c.into_vec-event-items.ensures) (gives.1 ∙ c.into_vec-event-items.result.ok.0 ∙ ap length c.into_vec-event-items.ensures) in
    let turn = YieldsList-turn chain c.loop-event.yielded c.loop-event.event-iterator c.loop-event.yielded_by c.next.result c.next.new.self c.in-Some.event c.in-Some.is c.next.ensures.steps in
    let wide = subst (λ (n : ℕ). AreAtLeast (g.D.Keeper.lists c.args.keeper.now) n) (sym c.loop-event.invariant.stay) c.requires.wide in
    let more = length_push c.loop-event.yielded c.in-Some.event in
    record {
      behind = subst (λ (n : ℕ). ReadsBack (g.D.Keeper.lists c.args.keeper.now) (take n c.args.schedule.events)
          → Behind trust (setting_in trust c.args.schedule) (g.D.Keeper.lists c.args.keeper.now) (g.K.Sink.held c.args.sink.now) (take n c.args.schedule.events) c.run_event-ran.new.world (g.D.Keeper.lists c.run_event-ran.new.keeper) (g.K.Sink.held c.run_event-ran.new.sink)) (sym more)
          (λ reads. behind-next trust c.requires.laws (setting_in trust c.args.schedule) (g.D.Keeper.lists c.args.keeper.now) (g.K.Sink.held c.args.sink.now) c.args.schedule.events
          (length c.loop-event.yielded) c.in-Some.event c.loop-event.world c.run_event-ran.new.world (g.D.Keeper.lists c.loop-event.keeper) (g.D.Keeper.lists c.run_event-ran.new.keeper)
          (g.K.Sink.held c.loop-event.sink) (g.K.Sink.held c.run_event-ran.new.sink) c.requires.along turn.1 turn.0 wide c.loop-event.invariant.behind c.in_ok-ran.ensures.ok reads);
      stay = c.in_ok-ran.ensures.stay ∙ c.loop-event.invariant.stay;
      width = c.in_ok-ran.ensures.width ∙ c.loop-event.invariant.width;
      later = grind arith;
      kept_later = grind arith;
    }

pub returns-then-has_risen-clause-cut : goal.returns-then-has_risen-clause-cut
returns-then-has_risen-clause-cut g c =
    let trust = trust_by (g.S.MakesSeals.made c.args.sealer.now) (g.S.Checker.accepts c.args.sealer.now) in
    let gives = c.into_iter-event-iterator.ensures.into_iter_gives in
    let chain = YieldsList-from_vec {s = c.into_iter-event-iterator.result} c.args.schedule.events (gives.0 ∙ c.into_vec-event-items.ensures) (gives.1 ∙ c.into_vec-event-items.result.ok.0 ∙ ap length c.into_vec-event-items.ensures) in
    let end = YieldsList-end chain c.loop-event.yielded c.loop-event.event-iterator c.loop-event.yielded_by c.next.result c.next.new.self c.in-None.is c.next.ensures.steps in
    let done : length c.args.schedule.events ≤ length c.loop-event.yielded = omega (arith, end.1) in
    whole_cut trust c.args.schedule _ _ _ _
    (whole-run trust c.args.schedule (g.D.Keeper.lists c.args.keeper.now) (g.K.Sink.held c.args.sink.now) (length c.loop-event.yielded) c.loop-event.world
    (g.D.Keeper.lists c.loop-event.keeper) (g.K.Sink.held c.loop-event.sink) done c.loop-event.invariant.behind)

pub returns-clause-ok : goal.returns-clause-ok
returns-clause-ok g c =
    let trust = trust_by (g.S.MakesSeals.made c.args.sealer.now) (g.S.Checker.accepts c.args.sealer.now) in
    let gives = c.into_iter-event-iterator.ensures.into_iter_gives in
    let chain = YieldsList-from_vec {s = c.into_iter-event-iterator.result} c.args.schedule.events (gives.0 ∙ c.into_vec-event-items.ensures) (gives.1 ∙ c.into_vec-event-items.result.ok.0 ∙ ap length c.into_vec-event-items.ensures) in
    let end = YieldsList-end chain c.loop-event.yielded c.loop-event.event-iterator c.loop-event.yielded_by c.next.result c.next.new.self c.in-None.is c.next.ensures.steps in
    let done : length c.args.schedule.events ≤ length c.loop-event.yielded = omega (arith, end.1) in
    whole-run trust c.args.schedule (g.D.Keeper.lists c.args.keeper.now) (g.K.Sink.held c.args.sink.now) (length c.loop-event.yielded) c.loop-event.world
    (g.D.Keeper.lists c.loop-event.keeper) (g.K.Sink.held c.loop-event.sink) done c.loop-event.invariant.behind

pub returns-clause-shows : goal.returns-clause-shows
returns-clause-shows g c =
    let trust = trust_by (g.S.MakesSeals.made c.args.sealer.now) (g.S.Checker.accepts c.args.sealer.now) in
    let gives = c.into_iter-event-iterator.ensures.into_iter_gives in
    let chain = YieldsList-from_vec {s = c.into_iter-event-iterator.result} c.args.schedule.events (gives.0 ∙ c.into_vec-event-items.ensures) (gives.1 ∙ c.into_vec-event-items.result.ok.0 ∙ ap length c.into_vec-event-items.ensures) in
    let end = YieldsList-end chain c.loop-event.yielded c.loop-event.event-iterator c.loop-event.yielded_by c.next.result c.next.new.self c.in-None.is c.next.ensures.steps in
    let done : length c.args.schedule.events ≤ length c.loop-event.yielded = omega (arith, end.1) in
    whole-shown trust c.args.schedule (g.D.Keeper.lists c.args.keeper.now) (g.K.Sink.held c.args.sink.now) (length c.loop-event.yielded) c.loop-event.world
    (g.D.Keeper.lists c.loop-event.keeper) (g.K.Sink.held c.loop-event.sink) done c.loop-event.invariant.behind
