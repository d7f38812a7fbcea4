use Rattle.std.proofs.Common.{◌∙◌, ap, refl, sym, List, ◌++◌, map, Result, Ok, Err}
use Rattle.report_text.specs.declared.lines.Line.{Line}
use Rattle.schedule_text.specs.declared.words.Event.TheVariants as events
use Rattle.world_spec.specs.Scene.{Scene, rules_in}
use Rattle.world_spec.specs.SceneSteps.{work_of}
use Rattle.world_core.specs.Steps.{lines_after, scene_after}
use Rattle.world_spec.specs.Posts.{reached_in}
use Rattle.world_spec.specs.World.{Said, said_by}
use Rattle.world_core.specs.Trusts.{trust_by}
use Rattle.world_core.specs.declared.reply.SeatFault.{SeatFault}
use Rattle.world_core.specs.declared.reply.SeatFault.TheVariants as seat_fault
use Rattle.world_core.proofs.Serving.{keeper_err, keeper_none, line_done, line_failed, line_told, memory_none, ok_none}
use Rattle.protocol_spec.specs.Member.Calls.{runs}
use Rattle.world_spec.specs.Posts.{stated_in}
use Rattle.world_core.specs.Texts.{run_replied, run_stated}
use Rattle.world_core.proofs.Stated.{some_said}
use Rattle.world_core.proofs.Texts.{run_reply, run_states}
use Rattle.world_core.proofs.world.World.run.Goals as goal

pub returns-in-Err-clause-line : goal.returns-in-Err-clause-line
unfolding work_of scene_after
returns-in-Err-clause-line g c =
    line_failed (trust_by (g.S.MakesSeals.made c.args.sealer.now) (g.S.Checker.accepts c.args.sealer.now)) (let v : Scene = record { terms = c.self.inside.seats.terms; opening = c.self.inside.opening; known = c.self.inside.directory; sequences = c.self.inside.order.sequences; epoch = c.self.inside.order.epoch; said = c.self.inside.said; certs = c.self.inside.certs; posts = c.self.inside.seats.posts } in v) c.args.self.now c.self.view_is (events.Run c.args.member c.args.workers) c.args.member runs refl refl refl (g.D.Keeper.lists c.args.keeper.now) (g.D.Keeper.lists c.call.new.keeper) c.call.new.self c.in-Err.fault c.in-Err.fault c.in-Err.ensures.served

pub returns-in-Err-clause-keeper : goal.returns-in-Err-clause-keeper
returns-in-Err-clause-keeper g c =
    keeper_err c.in-Err.fault c.in-Err.ensures.keeper

pub returns-in-Ok-tell_run-clause-line : goal.returns-in-Ok-tell_run-clause-line
unfolding work_of scene_after lines_after
returns-in-Ok-tell_run-clause-line g c =
    line_told (trust_by (g.S.MakesSeals.made c.args.sealer.now) (g.S.Checker.accepts c.args.sealer.now)) (let v : Scene = record { terms = c.self.inside.seats.terms; opening = c.self.inside.opening; known = c.self.inside.directory; sequences = c.self.inside.order.sequences; epoch = c.self.inside.order.epoch; said = c.self.inside.said; certs = c.self.inside.certs; posts = c.self.inside.seats.posts } in v) c.args.self.now c.self.view_is (events.Run c.args.member c.args.workers) c.args.member runs refl refl refl (g.D.Keeper.lists c.args.keeper.now) (g.D.Keeper.lists c.call.new.keeper) c.call.new.self c.in-Ok.reply c.tell_run.new.said (run_replied c.self.inside.directory c.args.member c.in-Ok.reply) (let y : Result (List Line) SeatFault = Ok c.in-Ok-tell_run.lines in y) c.in-Ok.ensures.served (c.in-Ok-tell_run.ensures.said ∙ ap (λ (xs : List Said). c.self.inside.said ++ xs) (run_states (rules_in (g.S.Checker.accepts c.args.sealer.now) (let v : Scene = record { terms = c.self.inside.seats.terms; opening = c.self.inside.opening; known = c.self.inside.directory; sequences = c.self.inside.order.sequences; epoch = c.self.inside.order.epoch; said = c.self.inside.said; certs = c.self.inside.certs; posts = c.self.inside.seats.posts } in v)) c.args.member (reached_in (rules_in (g.S.Checker.accepts c.args.sealer.now) (let v : Scene = record { terms = c.self.inside.seats.terms; opening = c.self.inside.opening; known = c.self.inside.directory; sequences = c.self.inside.order.sequences; epoch = c.self.inside.order.epoch; said = c.self.inside.said; certs = c.self.inside.certs; posts = c.self.inside.seats.posts } in v)) c.self.inside.seats.posts c.args.member runs) c.in-Ok.reply c.in-Ok.ensures.served.answer)) (run_reply (trust_by (g.S.MakesSeals.made c.args.sealer.now) (g.S.Checker.accepts c.args.sealer.now)) (let v : Scene = record { terms = c.self.inside.seats.terms; opening = c.self.inside.opening; known = c.self.inside.directory; sequences = c.self.inside.order.sequences; epoch = c.self.inside.order.epoch; said = c.self.inside.said; certs = c.self.inside.certs; posts = c.self.inside.seats.posts } in v) c.args.member c.in-Ok.reply c.in-Ok.ensures.served.answer) c.in-Ok-tell_run.ensures.lines

pub returns-in-Ok-tell_run-clause-keeper : goal.returns-in-Ok-tell_run-clause-keeper
returns-in-Ok-tell_run-clause-keeper g c =
    keeper_none (ok_none c.in-Ok-tell_run.lines) c.in-Ok.ensures.keeper

pub returns-clause-line : goal.returns-clause-line
unfolding work_of scene_after
returns-clause-line g c =
    line_done (trust_by (g.S.MakesSeals.made c.args.sealer.now) (g.S.Checker.accepts c.args.sealer.now)) (let v : Scene = record { terms = c.self.inside.seats.terms; opening = c.self.inside.opening; known = c.self.inside.directory; sequences = c.self.inside.order.sequences; epoch = c.self.inside.order.epoch; said = c.self.inside.said; certs = c.self.inside.certs; posts = c.self.inside.seats.posts } in v) c.args.self.now c.self.view_is (events.Run c.args.member c.args.workers) c.args.member runs refl refl refl (g.D.Keeper.lists c.args.keeper.now) (g.D.Keeper.lists c.call.new.keeper) c.call.new.self c.in-Ok.reply c.tell_run.new.said (lines_after (trust_by (g.S.MakesSeals.made c.args.sealer.now) (g.S.Checker.accepts c.args.sealer.now)) (let v : Scene = record { terms = c.self.inside.seats.terms; opening = c.self.inside.opening; known = c.self.inside.directory; sequences = c.self.inside.order.sequences; epoch = c.self.inside.order.epoch; said = c.self.inside.said; certs = c.self.inside.certs; posts = c.self.inside.seats.posts } in v) (events.Run c.args.member c.args.workers)) (let y : Result (List Line) SeatFault = Err seat_fault.OutOfMemory in y) c.in-Ok.ensures.served tt (some_said c.self.inside.said c.tell_run.new.said (map (said_by c.args.member) (run_stated c.in-Ok.reply)) (map (said_by c.args.member) (stated_in (rules_in (g.S.Checker.accepts c.args.sealer.now) (let v : Scene = record { terms = c.self.inside.seats.terms; opening = c.self.inside.opening; known = c.self.inside.directory; sequences = c.self.inside.order.sequences; epoch = c.self.inside.order.epoch; said = c.self.inside.said; certs = c.self.inside.certs; posts = c.self.inside.seats.posts } in v)) runs (reached_in (rules_in (g.S.Checker.accepts c.args.sealer.now) (let v : Scene = record { terms = c.self.inside.seats.terms; opening = c.self.inside.opening; known = c.self.inside.directory; sequences = c.self.inside.order.sequences; epoch = c.self.inside.order.epoch; said = c.self.inside.said; certs = c.self.inside.certs; posts = c.self.inside.seats.posts } in v)) c.self.inside.seats.posts c.args.member runs))) (sym (run_states (rules_in (g.S.Checker.accepts c.args.sealer.now) (let v : Scene = record { terms = c.self.inside.seats.terms; opening = c.self.inside.opening; known = c.self.inside.directory; sequences = c.self.inside.order.sequences; epoch = c.self.inside.order.epoch; said = c.self.inside.said; certs = c.self.inside.certs; posts = c.self.inside.seats.posts } in v)) c.args.member (reached_in (rules_in (g.S.Checker.accepts c.args.sealer.now) (let v : Scene = record { terms = c.self.inside.seats.terms; opening = c.self.inside.opening; known = c.self.inside.directory; sequences = c.self.inside.order.sequences; epoch = c.self.inside.order.epoch; said = c.self.inside.said; certs = c.self.inside.certs; posts = c.self.inside.seats.posts } in v)) c.self.inside.seats.posts c.args.member runs) c.in-Ok.reply c.in-Ok.ensures.served.answer)) c.in-Err-tell_run.ensures.grew) refl tt

pub returns-clause-keeper : goal.returns-clause-keeper
returns-clause-keeper g c =
    keeper_none memory_none c.in-Ok.ensures.keeper
