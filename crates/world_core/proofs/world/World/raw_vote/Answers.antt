use Rattle.std.proofs.Common.{◌∙◌, ap, refl, sym, List, [], ◌∷◌, ◌++◌, ℕ}
use Rattle.report_text.specs.declared.lines.Line.TheVariants as line
use Rattle.schedule_text.specs.declared.words.Event.TheVariants as events
use Rattle.world_spec.specs.Scene.{Scene, rules_in}
use Rattle.world_spec.specs.SceneSteps.{work_of}
use Rattle.world_core.specs.Steps.{lines_after, scene_after}
use Rattle.world_spec.specs.Posts.{reached_in}
use Rattle.world_spec.specs.World.{Said}
use Rattle.world_core.specs.Trusts.{trust_by}
use Rattle.world_core.specs.declared.reply.SeatFault.TheVariants as seat_fault
use Rattle.world_core.proofs.Serving.{keeper_err, keeper_none, line_failed, line_told, line_untold, memory_none}
use Rattle.protocol_spec.specs.Member.Calls.{votes}
use Rattle.world_spec.specs.SceneSteps.{asks}
use Rattle.world_core.specs.Steps.{vote_text_in}
use Rattle.world_core.proofs.Texts.{vote_reply, vote_states}
use Rattle.world_core.proofs.world.World.raw_vote.Goals as goal

pub returns-in-Err-clause-line : goal.returns-in-Err-clause-line
unfolding work_of scene_after
returns-in-Err-clause-line g c =
    line_failed (trust_by (g.S.MakesSeals.made c.args.sealer.now) (g.S.Checker.accepts c.args.sealer.now)) (let v : Scene = record { terms = c.self.inside.seats.terms; opening = c.self.inside.opening; known = c.self.inside.directory; sequences = c.self.inside.order.sequences; epoch = c.self.inside.order.epoch; said = c.self.inside.said; certs = c.self.inside.certs; posts = c.self.inside.seats.posts } in v) c.args.self.now c.self.view_is (events.RawVote c.args.member c.args.bytes.now) c.args.member (votes c.as_slice.result.now) (ap (λ (b : List ℕ). asks c.args.member (votes b)) (sym c.as_slice.ensures.value)) refl refl (g.D.Keeper.lists c.args.keeper.now) (g.D.Keeper.lists c.call.new.keeper) c.call.new.self c.in-Err.fault c.in-Err.fault c.in-Err.ensures.served

pub returns-in-Err-clause-keeper : goal.returns-in-Err-clause-keeper
returns-in-Err-clause-keeper g c =
    keeper_err c.in-Err.fault c.in-Err.ensures.keeper

pub returns-in_default-clause-line : goal.returns-in_default-clause-line
unfolding work_of scene_after
returns-in_default-clause-line g c =
    line_untold (trust_by (g.S.MakesSeals.made c.args.sealer.now) (g.S.Checker.accepts c.args.sealer.now)) (let v : Scene = record { terms = c.self.inside.seats.terms; opening = c.self.inside.opening; known = c.self.inside.directory; sequences = c.self.inside.order.sequences; epoch = c.self.inside.order.epoch; said = c.self.inside.said; certs = c.self.inside.certs; posts = c.self.inside.seats.posts } in v) c.args.self.now c.self.view_is (events.RawVote c.args.member c.args.bytes.now) c.args.member (votes c.as_slice.result.now) (ap (λ (b : List ℕ). asks c.args.member (votes b)) (sym c.as_slice.ensures.value)) refl refl (g.D.Keeper.lists c.args.keeper.now) (g.D.Keeper.lists c.call.new.keeper) c.call.new.self c.in-Ok.reply c.tell_vote.new.said seat_fault.OutOfMemory c.in-Ok.ensures.served (c.in_default.ensures.unsaid)

pub returns-in_default-clause-keeper : goal.returns-in_default-clause-keeper
returns-in_default-clause-keeper g c =
    keeper_none memory_none c.in-Ok.ensures.keeper

pub returns-clause-line : goal.returns-clause-line
unfolding work_of scene_after lines_after
returns-clause-line g c =
    line_told (trust_by (g.S.MakesSeals.made c.args.sealer.now) (g.S.Checker.accepts c.args.sealer.now)) (let v : Scene = record { terms = c.self.inside.seats.terms; opening = c.self.inside.opening; known = c.self.inside.directory; sequences = c.self.inside.order.sequences; epoch = c.self.inside.order.epoch; said = c.self.inside.said; certs = c.self.inside.certs; posts = c.self.inside.seats.posts } in v) c.args.self.now c.self.view_is (events.RawVote c.args.member c.args.bytes.now) c.args.member (votes c.as_slice.result.now) (ap (λ (b : List ℕ). asks c.args.member (votes b)) (sym c.as_slice.ensures.value)) refl refl (g.D.Keeper.lists c.args.keeper.now) (g.D.Keeper.lists c.call.new.keeper) c.call.new.self c.in-Ok.reply c.tell_vote.new.said (line.RawVote c.args.member c.in-Ok-tell_vote.text ∷ []) c.told.result c.in-Ok.ensures.served (c.in-Ok-tell_vote.ensures.said ∙ ap (λ (xs : List Said). c.self.inside.said ++ xs) (vote_states (rules_in (g.S.Checker.accepts c.args.sealer.now) (let v : Scene = record { terms = c.self.inside.seats.terms; opening = c.self.inside.opening; known = c.self.inside.directory; sequences = c.self.inside.order.sequences; epoch = c.self.inside.order.epoch; said = c.self.inside.said; certs = c.self.inside.certs; posts = c.self.inside.seats.posts } in v)) (g.S.Checker.accepts c.args.sealer.now) (g.S.MakesSeals.made c.args.sealer.now) (g.met.S.MakesSeals.exact c.args.sealer.now) c.args.member c.as_slice.result.now (reached_in (rules_in (g.S.Checker.accepts c.args.sealer.now) (let v : Scene = record { terms = c.self.inside.seats.terms; opening = c.self.inside.opening; known = c.self.inside.directory; sequences = c.self.inside.order.sequences; epoch = c.self.inside.order.epoch; said = c.self.inside.said; certs = c.self.inside.certs; posts = c.self.inside.seats.posts } in v)) c.self.inside.seats.posts c.args.member (votes c.as_slice.result.now)) c.in-Ok.reply c.in-Ok.ensures.served.answer)) (ap (λ t. line.RawVote c.args.member t ∷ []) (c.in-Ok-tell_vote.ensures.text ∙ vote_reply (trust_by (g.S.MakesSeals.made c.args.sealer.now) (g.S.Checker.accepts c.args.sealer.now)) (let v : Scene = record { terms = c.self.inside.seats.terms; opening = c.self.inside.opening; known = c.self.inside.directory; sequences = c.self.inside.order.sequences; epoch = c.self.inside.order.epoch; said = c.self.inside.said; certs = c.self.inside.certs; posts = c.self.inside.seats.posts } in v) c.args.member c.as_slice.result.now c.in-Ok.reply c.in-Ok.ensures.served.answer ∙ ap (λ (b : List ℕ). vote_text_in (trust_by (g.S.MakesSeals.made c.args.sealer.now) (g.S.Checker.accepts c.args.sealer.now)) (let v : Scene = record { terms = c.self.inside.seats.terms; opening = c.self.inside.opening; known = c.self.inside.directory; sequences = c.self.inside.order.sequences; epoch = c.self.inside.order.epoch; said = c.self.inside.said; certs = c.self.inside.certs; posts = c.self.inside.seats.posts } in v) c.args.member b) c.as_slice.ensures.value)) c.told.ensures.lines

pub returns-clause-keeper : goal.returns-clause-keeper
returns-clause-keeper g c =
    keeper_none c.told.ensures.fault c.in-Ok.ensures.keeper
