use Rattle.std.proofs.Common.{◌≡◌, ◌∙◌, ap, refl, sym, subst, List, [], ◌∷◌, ◌++◌, Some, None, option_map}
use Rattle.report_text.specs.declared.lines.Line.TheVariants as line
use Rattle.report_text.specs.declared.lines.VoteText.TheVariants as vote_text
use Rattle.schedule_text.specs.declared.words.Event.TheVariants as events
use Rattle.world_spec.specs.Scene.{Scene, post_world, rules_in}
use Rattle.world_spec.specs.SceneSteps.{work_of}
use Rattle.world_core.specs.Steps.{lines_after, scene_after}
use Rattle.world_spec.specs.Posts.{reached_in}
use Rattle.world_spec.specs.World.{Said}
use Rattle.world_core.specs.Trusts.{trust_by}
use Rattle.world_core.specs.declared.reply.SeatFault.TheVariants as seat_fault
use Rattle.world_core.proofs.Serving.{keeper_err, keeper_none, keeper_same, line_failed, line_idle, line_told, line_unmade, line_untold, memory_none}
use Rattle.protocol_spec.specs.Member.Calls.{votes}
use Rattle.world_spec.specs.Names.{made_named}
use Rattle.world_core.specs.Texts.{spelled_tx}
use Rattle.world_core.proofs.Lines.{vote_none_lines, vote_some_lines}
use Rattle.world_core.proofs.Serving.{signed_idle, signed_work}
use Rattle.world_core.proofs.Texts.{vote_reply, vote_states}
use Rattle.world_core.proofs.world.World.vote.Goals as goal

pub returns-in_default-clause-line : goal.returns-in_default-clause-line
returns-in_default-clause-line g c =
    line_unmade (trust_by (g.S.MakesSeals.made c.args.sealer.now) (g.S.Checker.accepts c.args.sealer.now)) c.args.self.now (events.Vote c.args.member c.args.tx.now) (g.D.Keeper.lists c.args.keeper.now) seat_fault.OutOfMemory

pub returns-in_default-clause-keeper : goal.returns-in_default-clause-keeper
returns-in_default-clause-keeper g c =
    keeper_same (g.D.Keeper.width c.args.keeper.now) (g.D.Keeper.failed c.args.keeper.now) memory_none

pub returns-in_default-spelled_tx-clause-line : goal.returns-in_default-spelled_tx-clause-line
returns-in_default-spelled_tx-clause-line g c =
    line_unmade (trust_by (g.S.MakesSeals.made c.args.sealer.now) (g.S.Checker.accepts c.args.sealer.now)) c.args.self.now (events.Vote c.args.member c.args.tx.now) (g.D.Keeper.lists c.args.keeper.now) seat_fault.OutOfMemory

pub returns-in_default-spelled_tx-clause-keeper : goal.returns-in_default-spelled_tx-clause-keeper
returns-in_default-spelled_tx-clause-keeper g c =
    keeper_same (g.D.Keeper.width c.args.keeper.now) (g.D.Keeper.failed c.args.keeper.now) memory_none

pub returns-in_default-bytes-clause-line : goal.returns-in_default-bytes-clause-line
unfolding work_of scene_after lines_after
returns-in_default-bytes-clause-line g c =
    line_idle (trust_by (g.S.MakesSeals.made c.args.sealer.now) (g.S.Checker.accepts c.args.sealer.now)) c.args.self.now (events.Vote c.args.member c.args.tx.now) (g.D.Keeper.lists c.args.keeper.now) (line.Vote c.args.member c.in-Ok.name vote_text.Down ∷ []) c.told.result (signed_idle c.args.member (made_named (post_world c.args.self.now) c.args.tx.now) (let e : None ≡ option_map spelled_tx (made_named (post_world c.args.self.now) c.args.tx.now) = cc (c.in_default-bytes.is, c.in-Ok-spelled_tx.ensures, c.as_slice-2.ensures.value) in e)) refl (ap (λ n. line.Vote c.args.member n vote_text.Down ∷ []) (let n : c.in-Ok.name ≡ c.args.tx.now = c.in-Ok.ensures ∙ c.as_slice.ensures.value in n) ∙ vote_none_lines (trust_by (g.S.MakesSeals.made c.args.sealer.now) (g.S.Checker.accepts c.args.sealer.now)) c.args.self.now c.args.member c.args.tx.now (made_named (post_world c.args.self.now) c.args.tx.now) (line.Vote c.args.member c.args.tx.now vote_text.Down ∷ []) (let e : None ≡ option_map spelled_tx (made_named (post_world c.args.self.now) c.args.tx.now) = cc (c.in_default-bytes.is, c.in-Ok-spelled_tx.ensures, c.as_slice-2.ensures.value) in e) refl) c.told.ensures.lines

pub returns-in_default-bytes-clause-keeper : goal.returns-in_default-bytes-clause-keeper
returns-in_default-bytes-clause-keeper g c =
    keeper_same (g.D.Keeper.width c.args.keeper.now) (g.D.Keeper.failed c.args.keeper.now) c.told.ensures.fault

pub returns-in-Err-clause-line : goal.returns-in-Err-clause-line
unfolding work_of scene_after
returns-in-Err-clause-line g c =
    line_failed (trust_by (g.S.MakesSeals.made c.args.sealer.now) (g.S.Checker.accepts c.args.sealer.now)) (let v : Scene = record { terms = c.self.inside.seats.terms; opening = c.self.inside.opening; known = c.self.inside.directory; sequences = c.self.inside.order.sequences; epoch = c.self.inside.order.epoch; said = c.self.inside.said; certs = c.self.inside.certs; posts = c.self.inside.seats.posts } in v) c.args.self.now c.self.view_is (events.Vote c.args.member c.args.tx.now) c.args.member (votes c.as_slice-3.result.now) (signed_work c.args.member (made_named (post_world c.args.self.now) c.args.tx.now) c.as_slice-3.result.now (let e : Some c.as_slice-3.result.now ≡ option_map spelled_tx (made_named (post_world c.args.self.now) c.args.tx.now) = cc (c.as_slice-3.ensures.value, c.in-Some.is, c.in-Ok-spelled_tx.ensures, c.as_slice-2.ensures.value) in e)) refl refl (g.D.Keeper.lists c.args.keeper.now) (g.D.Keeper.lists c.call.new.keeper) c.call.new.self c.in-Err.fault c.in-Err.fault c.in-Err.ensures.served

pub returns-in-Err-clause-keeper : goal.returns-in-Err-clause-keeper
returns-in-Err-clause-keeper g c =
    keeper_err c.in-Err.fault c.in-Err.ensures.keeper

pub returns-in_default-tell_vote-clause-line : goal.returns-in_default-tell_vote-clause-line
unfolding work_of scene_after
returns-in_default-tell_vote-clause-line g c =
    line_untold (trust_by (g.S.MakesSeals.made c.args.sealer.now) (g.S.Checker.accepts c.args.sealer.now)) (let v : Scene = record { terms = c.self.inside.seats.terms; opening = c.self.inside.opening; known = c.self.inside.directory; sequences = c.self.inside.order.sequences; epoch = c.self.inside.order.epoch; said = c.self.inside.said; certs = c.self.inside.certs; posts = c.self.inside.seats.posts } in v) c.args.self.now c.self.view_is (events.Vote c.args.member c.args.tx.now) c.args.member (votes c.as_slice-3.result.now) (signed_work c.args.member (made_named (post_world c.args.self.now) c.args.tx.now) c.as_slice-3.result.now (let e : Some c.as_slice-3.result.now ≡ option_map spelled_tx (made_named (post_world c.args.self.now) c.args.tx.now) = cc (c.as_slice-3.ensures.value, c.in-Some.is, c.in-Ok-spelled_tx.ensures, c.as_slice-2.ensures.value) in e)) refl refl (g.D.Keeper.lists c.args.keeper.now) (g.D.Keeper.lists c.call.new.keeper) c.call.new.self c.in-Ok-call.reply c.tell_vote.new.said seat_fault.OutOfMemory c.in-Ok-call.ensures.served (c.in_default-tell_vote.ensures.unsaid)

pub returns-in_default-tell_vote-clause-keeper : goal.returns-in_default-tell_vote-clause-keeper
returns-in_default-tell_vote-clause-keeper g c =
    keeper_none memory_none c.in-Ok-call.ensures.keeper

pub returns-clause-line : goal.returns-clause-line
unfolding work_of scene_after lines_after
returns-clause-line g c =
    line_told (trust_by (g.S.MakesSeals.made c.args.sealer.now) (g.S.Checker.accepts c.args.sealer.now)) (let v : Scene = record { terms = c.self.inside.seats.terms; opening = c.self.inside.opening; known = c.self.inside.directory; sequences = c.self.inside.order.sequences; epoch = c.self.inside.order.epoch; said = c.self.inside.said; certs = c.self.inside.certs; posts = c.self.inside.seats.posts } in v) c.args.self.now c.self.view_is (events.Vote c.args.member c.args.tx.now) c.args.member (votes c.as_slice-3.result.now) (signed_work c.args.member (made_named (post_world c.args.self.now) c.args.tx.now) c.as_slice-3.result.now (let e : Some c.as_slice-3.result.now ≡ option_map spelled_tx (made_named (post_world c.args.self.now) c.args.tx.now) = cc (c.as_slice-3.ensures.value, c.in-Some.is, c.in-Ok-spelled_tx.ensures, c.as_slice-2.ensures.value) in e)) refl refl (g.D.Keeper.lists c.args.keeper.now) (g.D.Keeper.lists c.call.new.keeper) c.call.new.self c.in-Ok-call.reply c.tell_vote.new.said (line.Vote c.args.member c.in-Ok.name c.in-Ok-tell_vote.text ∷ []) c.told-2.result c.in-Ok-call.ensures.served (c.in-Ok-tell_vote.ensures.said ∙ ap (λ (xs : List Said). c.self.inside.said ++ xs) (vote_states (rules_in (g.S.Checker.accepts c.args.sealer.now) (let v : Scene = record { terms = c.self.inside.seats.terms; opening = c.self.inside.opening; known = c.self.inside.directory; sequences = c.self.inside.order.sequences; epoch = c.self.inside.order.epoch; said = c.self.inside.said; certs = c.self.inside.certs; posts = c.self.inside.seats.posts } in v)) (g.S.Checker.accepts c.args.sealer.now) (g.S.MakesSeals.made c.args.sealer.now) (g.met.S.MakesSeals.exact c.args.sealer.now) c.args.member c.as_slice-3.result.now (reached_in (rules_in (g.S.Checker.accepts c.args.sealer.now) (let v : Scene = record { terms = c.self.inside.seats.terms; opening = c.self.inside.opening; known = c.self.inside.directory; sequences = c.self.inside.order.sequences; epoch = c.self.inside.order.epoch; said = c.self.inside.said; certs = c.self.inside.certs; posts = c.self.inside.seats.posts } in v)) c.self.inside.seats.posts c.args.member (votes c.as_slice-3.result.now)) c.in-Ok-call.reply c.in-Ok-call.ensures.served.answer)) (ap (λ n. line.Vote c.args.member n c.in-Ok-tell_vote.text ∷ []) (let n : c.in-Ok.name ≡ c.args.tx.now = c.in-Ok.ensures ∙ c.as_slice.ensures.value in n) ∙ vote_some_lines (trust_by (g.S.MakesSeals.made c.args.sealer.now) (g.S.Checker.accepts c.args.sealer.now)) (let v : Scene = record { terms = c.self.inside.seats.terms; opening = c.self.inside.opening; known = c.self.inside.directory; sequences = c.self.inside.order.sequences; epoch = c.self.inside.order.epoch; said = c.self.inside.said; certs = c.self.inside.certs; posts = c.self.inside.seats.posts } in v) c.args.member c.args.tx.now (made_named (post_world (let v : Scene = record { terms = c.self.inside.seats.terms; opening = c.self.inside.opening; known = c.self.inside.directory; sequences = c.self.inside.order.sequences; epoch = c.self.inside.order.epoch; said = c.self.inside.said; certs = c.self.inside.certs; posts = c.self.inside.seats.posts } in v)) c.args.tx.now) c.as_slice-3.result.now (line.Vote c.args.member c.args.tx.now c.in-Ok-tell_vote.text ∷ []) c.in-Ok-tell_vote.text (subst (λ (x : Scene). Some c.as_slice-3.result.now ≡ option_map spelled_tx (made_named (post_world x) c.args.tx.now)) (sym c.self.view_is) (let e : Some c.as_slice-3.result.now ≡ option_map spelled_tx (made_named (post_world c.args.self.now) c.args.tx.now) = cc (c.as_slice-3.ensures.value, c.in-Some.is, c.in-Ok-spelled_tx.ensures, c.as_slice-2.ensures.value) in e)) (c.in-Ok-tell_vote.ensures.text ∙ vote_reply (trust_by (g.S.MakesSeals.made c.args.sealer.now) (g.S.Checker.accepts c.args.sealer.now)) (let v : Scene = record { terms = c.self.inside.seats.terms; opening = c.self.inside.opening; known = c.self.inside.directory; sequences = c.self.inside.order.sequences; epoch = c.self.inside.order.epoch; said = c.self.inside.said; certs = c.self.inside.certs; posts = c.self.inside.seats.posts } in v) c.args.member c.as_slice-3.result.now c.in-Ok-call.reply c.in-Ok-call.ensures.served.answer) refl) c.told-2.ensures.lines

pub returns-clause-keeper : goal.returns-clause-keeper
returns-clause-keeper g c =
    keeper_none c.told-2.ensures.fault c.in-Ok-call.ensures.keeper
