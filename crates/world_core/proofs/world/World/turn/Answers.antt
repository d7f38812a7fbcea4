use Rattle.std.proofs.Common.{refl, List, Result, Ok}
use Rattle.report_text.specs.declared.lines.Line.{Line}
use Rattle.schedule_text.specs.declared.words.Event.TheVariants as events
use Rattle.world_spec.specs.Scene.{Scene, rules_in}
use Rattle.world_spec.specs.SceneSteps.{work_of}
use Rattle.world_core.specs.Steps.{lines_after, scene_after}
use Rattle.world_spec.specs.Posts.{reached_in}
use Rattle.world_core.specs.Trusts.{trust_by}
use Rattle.world_core.specs.declared.reply.SeatFault.{SeatFault}
use Rattle.world_core.specs.declared.reply.SeatFault.TheVariants as seat_fault
use Rattle.world_core.proofs.Serving.{keeper_err, keeper_none, line_failed, line_told, line_untold, memory_none, ok_none}
use Rattle.protocol_spec.specs.Member.Calls.{turns}
use Rattle.world_core.specs.Epochs.{turn_replied}
use Rattle.world_core.proofs.Turning.{turn_reply, turn_states}
use Rattle.world_core.proofs.world.World.turn.Goals as goal

pub returns-in-Err-clause-line : goal.returns-in-Err-clause-line
unfolding work_of scene_after
returns-in-Err-clause-line g c =
    line_failed (trust_by (g.S.MakesSeals.made c.args.sealer.now) (g.S.Checker.accepts c.args.sealer.now)) (let v : Scene = record { terms = c.self.inside.seats.terms; opening = c.self.inside.opening; known = c.self.inside.directory; sequences = c.self.inside.order.sequences; epoch = c.self.inside.order.epoch; said = c.self.inside.said; certs = c.self.inside.certs; posts = c.self.inside.seats.posts } in v) c.args.self.now c.self.view_is (events.Turn c.args.member) c.args.member turns refl refl refl (g.D.Keeper.lists c.args.keeper.now) (g.D.Keeper.lists c.call.new.keeper) c.call.new.self c.in-Err.fault c.in-Err.fault c.in-Err.ensures.served

pub returns-in-Err-clause-keeper : goal.returns-in-Err-clause-keeper
returns-in-Err-clause-keeper g c =
    keeper_err c.in-Err.fault c.in-Err.ensures.keeper

pub returns-in-Ok-tell_turn-clause-line : goal.returns-in-Ok-tell_turn-clause-line
unfolding work_of scene_after lines_after
returns-in-Ok-tell_turn-clause-line g c =
    line_told (trust_by (g.S.MakesSeals.made c.args.sealer.now) (g.S.Checker.accepts c.args.sealer.now)) (let v : Scene = record { terms = c.self.inside.seats.terms; opening = c.self.inside.opening; known = c.self.inside.directory; sequences = c.self.inside.order.sequences; epoch = c.self.inside.order.epoch; said = c.self.inside.said; certs = c.self.inside.certs; posts = c.self.inside.seats.posts } in v) c.args.self.now c.self.view_is (events.Turn c.args.member) c.args.member turns refl refl refl (g.D.Keeper.lists c.args.keeper.now) (g.D.Keeper.lists c.call.new.keeper) c.call.new.self c.in-Ok.reply c.self.inside.said (turn_replied c.self.inside.directory c.args.member c.epoch-epoch.result c.in-Ok.reply) (let y : Result (List Line) SeatFault = Ok c.in-Ok-tell_turn.lines in y) c.in-Ok.ensures.served (turn_states (rules_in (g.S.Checker.accepts c.args.sealer.now) (let v : Scene = record { terms = c.self.inside.seats.terms; opening = c.self.inside.opening; known = c.self.inside.directory; sequences = c.self.inside.order.sequences; epoch = c.self.inside.order.epoch; said = c.self.inside.said; certs = c.self.inside.certs; posts = c.self.inside.seats.posts } in v)) c.args.member c.self.inside.said (reached_in (rules_in (g.S.Checker.accepts c.args.sealer.now) (let v : Scene = record { terms = c.self.inside.seats.terms; opening = c.self.inside.opening; known = c.self.inside.directory; sequences = c.self.inside.order.sequences; epoch = c.self.inside.order.epoch; said = c.self.inside.said; certs = c.self.inside.certs; posts = c.self.inside.seats.posts } in v)) c.self.inside.seats.posts c.args.member turns)) (turn_reply (trust_by (g.S.MakesSeals.made c.args.sealer.now) (g.S.Checker.accepts c.args.sealer.now)) (let v : Scene = record { terms = c.self.inside.seats.terms; opening = c.self.inside.opening; known = c.self.inside.directory; sequences = c.self.inside.order.sequences; epoch = c.self.inside.order.epoch; said = c.self.inside.said; certs = c.self.inside.certs; posts = c.self.inside.seats.posts } in v) c.args.member c.epoch-epoch.result c.in-Ok.reply c.epoch-epoch.ensures c.in-Ok.ensures.served.answer) c.in-Ok-tell_turn.ensures

pub returns-in-Ok-tell_turn-clause-keeper : goal.returns-in-Ok-tell_turn-clause-keeper
returns-in-Ok-tell_turn-clause-keeper g c =
    keeper_none (ok_none c.in-Ok-tell_turn.lines) c.in-Ok.ensures.keeper

pub returns-clause-line : goal.returns-clause-line
unfolding work_of scene_after
returns-clause-line g c =
    line_untold (trust_by (g.S.MakesSeals.made c.args.sealer.now) (g.S.Checker.accepts c.args.sealer.now)) (let v : Scene = record { terms = c.self.inside.seats.terms; opening = c.self.inside.opening; known = c.self.inside.directory; sequences = c.self.inside.order.sequences; epoch = c.self.inside.order.epoch; said = c.self.inside.said; certs = c.self.inside.certs; posts = c.self.inside.seats.posts } in v) c.args.self.now c.self.view_is (events.Turn c.args.member) c.args.member turns refl refl refl (g.D.Keeper.lists c.args.keeper.now) (g.D.Keeper.lists c.call.new.keeper) c.call.new.self c.in-Ok.reply c.self.inside.said seat_fault.OutOfMemory c.in-Ok.ensures.served (refl)

pub returns-clause-keeper : goal.returns-clause-keeper
returns-clause-keeper g c =
    keeper_none memory_none c.in-Ok.ensures.keeper
