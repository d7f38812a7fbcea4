use Rattle.std.proofs.Common.{◌≡◌, ◌∙◌, ap, refl, sym, subst, [], ◌∷◌, Some, None, option_map}
use Rattle.report_text.specs.declared.lines.Line.TheVariants as line
use Rattle.report_text.specs.declared.lines.SendText.TheVariants as send_text
use Rattle.schedule_text.specs.declared.words.Event.TheVariants as events
use Rattle.world_spec.specs.Scene.{Scene, post_world, rules_in}
use Rattle.world_spec.specs.SceneSteps.{work_of}
use Rattle.world_core.specs.Steps.{lines_after, scene_after}
use Rattle.world_spec.specs.Posts.{reached_in}
use Rattle.world_core.specs.Trusts.{trust_by}
use Rattle.world_core.specs.declared.reply.SeatFault.TheVariants as seat_fault
use Rattle.world_core.proofs.Serving.{keeper_err, keeper_none, keeper_same, line_failed, line_idle, line_told, line_unmade, line_untold, memory_none}
use Rattle.protocol_spec.specs.Member.Calls.{holds}
use Rattle.world_spec.specs.Names.{cert_named}
use Rattle.world_core.specs.Texts.{spelled_cert}
use Rattle.world_core.proofs.Lines.{send_none_lines, send_some_lines}
use Rattle.world_core.proofs.Serving.{held_idle, held_work}
use Rattle.world_core.proofs.Texts.{hold_reply, hold_states}
use Rattle.world_core.proofs.world.World.send.Goals as goal

pub returns-in_default-clause-line : goal.returns-in_default-clause-line
returns-in_default-clause-line g c =
    line_unmade (trust_by (g.S.MakesSeals.made c.args.sealer.now) (g.S.Checker.accepts c.args.sealer.now)) c.args.self.now (events.Send c.args.member c.args.tx.now) (g.D.Keeper.lists c.args.keeper.now) seat_fault.OutOfMemory

pub returns-in_default-clause-keeper : goal.returns-in_default-clause-keeper
returns-in_default-clause-keeper g c =
    keeper_same (g.D.Keeper.width c.args.keeper.now) (g.D.Keeper.failed c.args.keeper.now) memory_none

pub returns-in_default-spelled_cert-clause-line : goal.returns-in_default-spelled_cert-clause-line
returns-in_default-spelled_cert-clause-line g c =
    line_unmade (trust_by (g.S.MakesSeals.made c.args.sealer.now) (g.S.Checker.accepts c.args.sealer.now)) c.args.self.now (events.Send c.args.member c.args.tx.now) (g.D.Keeper.lists c.args.keeper.now) seat_fault.OutOfMemory

pub returns-in_default-spelled_cert-clause-keeper : goal.returns-in_default-spelled_cert-clause-keeper
returns-in_default-spelled_cert-clause-keeper g c =
    keeper_same (g.D.Keeper.width c.args.keeper.now) (g.D.Keeper.failed c.args.keeper.now) memory_none

pub returns-in_default-bytes-clause-line : goal.returns-in_default-bytes-clause-line
unfolding work_of scene_after lines_after
returns-in_default-bytes-clause-line g c =
    line_idle (trust_by (g.S.MakesSeals.made c.args.sealer.now) (g.S.Checker.accepts c.args.sealer.now)) c.args.self.now (events.Send c.args.member c.args.tx.now) (g.D.Keeper.lists c.args.keeper.now) (line.Send c.args.member c.in-Ok.name send_text.NoCertificate ∷ []) c.told.result (held_idle c.args.member (cert_named (post_world c.args.self.now) c.args.tx.now) (let e : None ≡ option_map spelled_cert (cert_named (post_world c.args.self.now) c.args.tx.now) = cc (c.in_default-bytes.is, c.in-Ok-spelled_cert.ensures, c.as_slice-2.ensures.value) in e)) refl (ap (λ n. line.Send c.args.member n send_text.NoCertificate ∷ []) (let n : c.in-Ok.name ≡ c.args.tx.now = c.in-Ok.ensures ∙ c.as_slice.ensures.value in n) ∙ send_none_lines (trust_by (g.S.MakesSeals.made c.args.sealer.now) (g.S.Checker.accepts c.args.sealer.now)) c.args.self.now c.args.member c.args.tx.now (cert_named (post_world c.args.self.now) c.args.tx.now) (line.Send c.args.member c.args.tx.now send_text.NoCertificate ∷ []) (let e : None ≡ option_map spelled_cert (cert_named (post_world c.args.self.now) c.args.tx.now) = cc (c.in_default-bytes.is, c.in-Ok-spelled_cert.ensures, c.as_slice-2.ensures.value) in e) refl) c.told.ensures.lines

pub returns-in_default-bytes-clause-keeper : goal.returns-in_default-bytes-clause-keeper
returns-in_default-bytes-clause-keeper g c =
    keeper_same (g.D.Keeper.width c.args.keeper.now) (g.D.Keeper.failed c.args.keeper.now) c.told.ensures.fault

pub returns-in-Err-clause-line : goal.returns-in-Err-clause-line
unfolding work_of scene_after
returns-in-Err-clause-line g c =
    line_failed (trust_by (g.S.MakesSeals.made c.args.sealer.now) (g.S.Checker.accepts c.args.sealer.now)) (let v : Scene = record { terms = c.self.inside.seats.terms; opening = c.self.inside.opening; known = c.self.inside.directory; sequences = c.self.inside.order.sequences; epoch = c.self.inside.order.epoch; said = c.self.inside.said; certs = c.self.inside.certs; posts = c.self.inside.seats.posts } in v) c.args.self.now c.self.view_is (events.Send c.args.member c.args.tx.now) c.args.member (holds c.as_slice-3.result.now) (held_work c.args.member (cert_named (post_world c.args.self.now) c.args.tx.now) c.as_slice-3.result.now (let e : Some c.as_slice-3.result.now ≡ option_map spelled_cert (cert_named (post_world c.args.self.now) c.args.tx.now) = cc (c.as_slice-3.ensures.value, c.in-Some.is, c.in-Ok-spelled_cert.ensures, c.as_slice-2.ensures.value) in e)) refl refl (g.D.Keeper.lists c.args.keeper.now) (g.D.Keeper.lists c.call.new.keeper) c.call.new.self c.in-Err.fault c.in-Err.fault c.in-Err.ensures.served

pub returns-in-Err-clause-keeper : goal.returns-in-Err-clause-keeper
returns-in-Err-clause-keeper g c =
    keeper_err c.in-Err.fault c.in-Err.ensures.keeper

pub returns-in_default-tell_hold-clause-line : goal.returns-in_default-tell_hold-clause-line
unfolding work_of scene_after
returns-in_default-tell_hold-clause-line g c =
    line_untold (trust_by (g.S.MakesSeals.made c.args.sealer.now) (g.S.Checker.accepts c.args.sealer.now)) (let v : Scene = record { terms = c.self.inside.seats.terms; opening = c.self.inside.opening; known = c.self.inside.directory; sequences = c.self.inside.order.sequences; epoch = c.self.inside.order.epoch; said = c.self.inside.said; certs = c.self.inside.certs; posts = c.self.inside.seats.posts } in v) c.args.self.now c.self.view_is (events.Send c.args.member c.args.tx.now) c.args.member (holds c.as_slice-3.result.now) (held_work c.args.member (cert_named (post_world c.args.self.now) c.args.tx.now) c.as_slice-3.result.now (let e : Some c.as_slice-3.result.now ≡ option_map spelled_cert (cert_named (post_world c.args.self.now) c.args.tx.now) = cc (c.as_slice-3.ensures.value, c.in-Some.is, c.in-Ok-spelled_cert.ensures, c.as_slice-2.ensures.value) in e)) refl refl (g.D.Keeper.lists c.args.keeper.now) (g.D.Keeper.lists c.call.new.keeper) c.call.new.self c.in-Ok-call.reply c.self.inside.said seat_fault.OutOfMemory c.in-Ok-call.ensures.served (refl)

pub returns-in_default-tell_hold-clause-keeper : goal.returns-in_default-tell_hold-clause-keeper
returns-in_default-tell_hold-clause-keeper g c =
    keeper_none memory_none c.in-Ok-call.ensures.keeper

pub returns-clause-line : goal.returns-clause-line
unfolding work_of scene_after lines_after
returns-clause-line g c =
    line_told (trust_by (g.S.MakesSeals.made c.args.sealer.now) (g.S.Checker.accepts c.args.sealer.now)) (let v : Scene = record { terms = c.self.inside.seats.terms; opening = c.self.inside.opening; known = c.self.inside.directory; sequences = c.self.inside.order.sequences; epoch = c.self.inside.order.epoch; said = c.self.inside.said; certs = c.self.inside.certs; posts = c.self.inside.seats.posts } in v) c.args.self.now c.self.view_is (events.Send c.args.member c.args.tx.now) c.args.member (holds c.as_slice-3.result.now) (held_work c.args.member (cert_named (post_world c.args.self.now) c.args.tx.now) c.as_slice-3.result.now (let e : Some c.as_slice-3.result.now ≡ option_map spelled_cert (cert_named (post_world c.args.self.now) c.args.tx.now) = cc (c.as_slice-3.ensures.value, c.in-Some.is, c.in-Ok-spelled_cert.ensures, c.as_slice-2.ensures.value) in e)) refl refl (g.D.Keeper.lists c.args.keeper.now) (g.D.Keeper.lists c.call.new.keeper) c.call.new.self c.in-Ok-call.reply c.self.inside.said (line.Send c.args.member c.in-Ok.name c.in-Ok-tell_hold.text ∷ []) c.told-2.result c.in-Ok-call.ensures.served (hold_states (rules_in (g.S.Checker.accepts c.args.sealer.now) (let v : Scene = record { terms = c.self.inside.seats.terms; opening = c.self.inside.opening; known = c.self.inside.directory; sequences = c.self.inside.order.sequences; epoch = c.self.inside.order.epoch; said = c.self.inside.said; certs = c.self.inside.certs; posts = c.self.inside.seats.posts } in v)) c.args.member c.as_slice-3.result.now c.self.inside.said (reached_in (rules_in (g.S.Checker.accepts c.args.sealer.now) (let v : Scene = record { terms = c.self.inside.seats.terms; opening = c.self.inside.opening; known = c.self.inside.directory; sequences = c.self.inside.order.sequences; epoch = c.self.inside.order.epoch; said = c.self.inside.said; certs = c.self.inside.certs; posts = c.self.inside.seats.posts } in v)) c.self.inside.seats.posts c.args.member (holds c.as_slice-3.result.now))) (ap (λ n. line.Send c.args.member n c.in-Ok-tell_hold.text ∷ []) (let n : c.in-Ok.name ≡ c.args.tx.now = c.in-Ok.ensures ∙ c.as_slice.ensures.value in n) ∙ send_some_lines (trust_by (g.S.MakesSeals.made c.args.sealer.now) (g.S.Checker.accepts c.args.sealer.now)) (let v : Scene = record { terms = c.self.inside.seats.terms; opening = c.self.inside.opening; known = c.self.inside.directory; sequences = c.self.inside.order.sequences; epoch = c.self.inside.order.epoch; said = c.self.inside.said; certs = c.self.inside.certs; posts = c.self.inside.seats.posts } in v) c.args.member c.args.tx.now (cert_named (post_world (let v : Scene = record { terms = c.self.inside.seats.terms; opening = c.self.inside.opening; known = c.self.inside.directory; sequences = c.self.inside.order.sequences; epoch = c.self.inside.order.epoch; said = c.self.inside.said; certs = c.self.inside.certs; posts = c.self.inside.seats.posts } in v)) c.args.tx.now) c.as_slice-3.result.now (line.Send c.args.member c.args.tx.now c.in-Ok-tell_hold.text ∷ []) c.in-Ok-tell_hold.text (subst (λ (x : Scene). Some c.as_slice-3.result.now ≡ option_map spelled_cert (cert_named (post_world x) c.args.tx.now)) (sym c.self.view_is) (let e : Some c.as_slice-3.result.now ≡ option_map spelled_cert (cert_named (post_world c.args.self.now) c.args.tx.now) = cc (c.as_slice-3.ensures.value, c.in-Some.is, c.in-Ok-spelled_cert.ensures, c.as_slice-2.ensures.value) in e)) (c.in-Ok-tell_hold.ensures ∙ hold_reply (trust_by (g.S.MakesSeals.made c.args.sealer.now) (g.S.Checker.accepts c.args.sealer.now)) (let v : Scene = record { terms = c.self.inside.seats.terms; opening = c.self.inside.opening; known = c.self.inside.directory; sequences = c.self.inside.order.sequences; epoch = c.self.inside.order.epoch; said = c.self.inside.said; certs = c.self.inside.certs; posts = c.self.inside.seats.posts } in v) c.args.member c.as_slice-3.result.now c.in-Ok-call.reply c.in-Ok-call.ensures.served.answer) refl) c.told-2.ensures.lines

pub returns-clause-keeper : goal.returns-clause-keeper
returns-clause-keeper g c =
    keeper_none c.told-2.ensures.fault c.in-Ok-call.ensures.keeper
