use Rattle.std.proofs.Common.{◌∙◌, ap, sym, Bool, List, option_map}
use Rattle.std.specs.Prelude.{option_copied, slice_get}
use Rattle.world_spec.specs.Scene.{Scene, post_world}
use Rattle.world_lines.specs.KnownRows.{made_as}
use Rattle.world_core.specs.Trusts.{trust_by}
use Rattle.world_core.specs.Votes.{flag_at}
use Rattle.world_core.proofs.Acking.{faulty_told, honest_lines_told, honest_told, faulty_acks, honest_acks}
use Rattle.world_core.specs.Steps.{scene_after}
use Rattle.world_spec.specs.Names.{made_named}
use Rattle.world_core.proofs.Silent.{ack_scene}
use Rattle.world_core.proofs.Stated.{all_said_seen}
use Rattle.schedule_text.specs.declared.words.Event.TheVariants as events
use Rattle.world_core.proofs.world.World.say_ack.Goals as goal

pub returns-then-is_honest-clause-world : goal.returns-then-is_honest-clause-world
returns-then-is_honest-clause-world g c =
    honest_told (trust_by (g.S.MakesSeals.made c.args.sealer.now) (g.S.Checker.accepts c.args.sealer.now)) (let v : Scene = record { terms = c.self.inside.seats.terms; opening = c.self.inside.opening; known = c.self.inside.directory; sequences = c.self.inside.order.sequences; epoch = c.self.inside.order.epoch; said = c.self.inside.said; certs = c.self.inside.certs; posts = c.self.inside.seats.posts } in v) c.args.self.now c.args.member c.args.tx.now c.args.spoiled (made_as c.in-Some.made.now) c.ack_line-then-is_honest.result c.self.view_is
    (sym (ap (λ x. option_map made_as (option_copied x)) c.in-Some.is) ∙ c.made.ensures) c.say_ack.new.said
    (sym (c.is_honest.ensures ∙ ap (λ (flags : List Bool). flag_at (slice_get flags c.args.member)) c.flags.ensures) ∙ c.if-is_honest.true)
    c.in_ok-text.ensures.said

pub returns-then-is_honest-clause-lines : goal.returns-then-is_honest-clause-lines
returns-then-is_honest-clause-lines g c =
    honest_lines_told (trust_by (g.S.MakesSeals.made c.args.sealer.now) (g.S.Checker.accepts c.args.sealer.now)) (let v : Scene = record { terms = c.self.inside.seats.terms; opening = c.self.inside.opening; known = c.self.inside.directory; sequences = c.self.inside.order.sequences; epoch = c.self.inside.order.epoch; said = c.self.inside.said; certs = c.self.inside.certs; posts = c.self.inside.seats.posts } in v) c.args.self.now c.args.member c.args.tx.now c.args.spoiled (made_as c.in-Some.made.now) c.ack_line-then-is_honest.result c.self.view_is
    (sym (ap (λ x. option_map made_as (option_copied x)) c.in-Some.is) ∙ c.made.ensures) c.in_ok-text.text
    (sym (c.is_honest.ensures ∙ ap (λ (flags : List Bool). flag_at (slice_get flags c.args.member)) c.flags.ensures) ∙ c.if-is_honest.true)
    c.in_ok-text.ensures.text c.ack_line-then-is_honest.ensures

pub returns-clause-world : goal.returns-clause-world
returns-clause-world g c =
    faulty_told (trust_by (g.S.MakesSeals.made c.args.sealer.now) (g.S.Checker.accepts c.args.sealer.now)) (let v : Scene = record { terms = c.self.inside.seats.terms; opening = c.self.inside.opening; known = c.self.inside.directory; sequences = c.self.inside.order.sequences; epoch = c.self.inside.order.epoch; said = c.self.inside.said; certs = c.self.inside.certs; posts = c.self.inside.seats.posts } in v) c.args.self.now c.args.member c.args.tx.now c.args.spoiled (made_as c.in-Some.made.now) c.ack_line-2.result c.self.view_is
    (sym (ap (λ x. option_map made_as (option_copied x)) c.in-Some.is) ∙ c.made.ensures) c.false_ack-statement.result c.say.new.self
    (sym (c.is_honest.ensures ∙ ap (λ (flags : List Bool). flag_at (slice_get flags c.args.member)) c.flags.ensures) ∙ c.if-is_honest.false)
    c.false_ack-statement.ensures c.in_ok-say.ensures.ok

pub returns-then-is_honest-clause-said : goal.returns-then-is_honest-clause-said
unfolding scene_after
returns-then-is_honest-clause-said g c =
    all_said_seen (let v : Scene = record { terms = c.self.inside.seats.terms; opening = c.self.inside.opening; known = c.self.inside.directory; sequences = c.self.inside.order.sequences; epoch = c.self.inside.order.epoch; said = c.self.inside.said; certs = c.self.inside.certs; posts = c.self.inside.seats.posts } in v) c.args.self.now c.say_ack.new.said c.ack_line-then-is_honest.result c.self.view_is (trust_by (g.S.MakesSeals.made c.args.sealer.now) (g.S.Checker.accepts c.args.sealer.now)) (events.Ack c.args.member c.args.tx.now c.args.spoiled)
    (ap (λ (x : Scene). x.said) (honest_acks (trust_by (g.S.MakesSeals.made c.args.sealer.now) (g.S.Checker.accepts c.args.sealer.now)) (let v : Scene = record { terms = c.self.inside.seats.terms; opening = c.self.inside.opening; known = c.self.inside.directory; sequences = c.self.inside.order.sequences; epoch = c.self.inside.order.epoch; said = c.self.inside.said; certs = c.self.inside.certs; posts = c.self.inside.seats.posts } in v) c.args.member c.args.tx.now c.args.spoiled (made_named (post_world (let v : Scene = record { terms = c.self.inside.seats.terms; opening = c.self.inside.opening; known = c.self.inside.directory; sequences = c.self.inside.order.sequences; epoch = c.self.inside.order.epoch; said = c.self.inside.said; certs = c.self.inside.certs; posts = c.self.inside.seats.posts } in v)) c.args.tx.now) (made_as c.in-Some.made.now) (sym (ap (λ x. option_map made_as (option_copied x)) c.in-Some.is) ∙ c.made.ensures) c.say_ack.new.said (sym (c.is_honest.ensures ∙ ap (λ (flags : List Bool). flag_at (slice_get flags c.args.member)) c.flags.ensures) ∙ c.if-is_honest.true)
    (ack_scene (trust_by (g.S.MakesSeals.made c.args.sealer.now) (g.S.Checker.accepts c.args.sealer.now)) (let v : Scene = record { terms = c.self.inside.seats.terms; opening = c.self.inside.opening; known = c.self.inside.directory; sequences = c.self.inside.order.sequences; epoch = c.self.inside.order.epoch; said = c.self.inside.said; certs = c.self.inside.certs; posts = c.self.inside.seats.posts } in v) c.args.member (made_as c.in-Some.made.now).digest c.say_ack.new.said c.in_ok-text.ensures.said)))

pub returns-clause-said : goal.returns-clause-said
unfolding scene_after
returns-clause-said g c =
    all_said_seen (let v : Scene = record { terms = c.self.inside.seats.terms; opening = c.self.inside.opening; known = c.self.inside.directory; sequences = c.self.inside.order.sequences; epoch = c.self.inside.order.epoch; said = c.self.inside.said; certs = c.self.inside.certs; posts = c.self.inside.seats.posts } in v) c.args.self.now c.say.new.self c.ack_line-2.result c.self.view_is (trust_by (g.S.MakesSeals.made c.args.sealer.now) (g.S.Checker.accepts c.args.sealer.now)) (events.Ack c.args.member c.args.tx.now c.args.spoiled)
    (ap (λ (x : Scene). x.said) (faulty_acks (trust_by (g.S.MakesSeals.made c.args.sealer.now) (g.S.Checker.accepts c.args.sealer.now)) (let v : Scene = record { terms = c.self.inside.seats.terms; opening = c.self.inside.opening; known = c.self.inside.directory; sequences = c.self.inside.order.sequences; epoch = c.self.inside.order.epoch; said = c.self.inside.said; certs = c.self.inside.certs; posts = c.self.inside.seats.posts } in v) c.args.member c.args.tx.now c.args.spoiled (made_named (post_world (let v : Scene = record { terms = c.self.inside.seats.terms; opening = c.self.inside.opening; known = c.self.inside.directory; sequences = c.self.inside.order.sequences; epoch = c.self.inside.order.epoch; said = c.self.inside.said; certs = c.self.inside.certs; posts = c.self.inside.seats.posts } in v)) c.args.tx.now) (made_as c.in-Some.made.now) (sym (ap (λ x. option_map made_as (option_copied x)) c.in-Some.is) ∙ c.made.ensures) c.false_ack-statement.result c.say.new.self (sym (c.is_honest.ensures ∙ ap (λ (flags : List Bool). flag_at (slice_get flags c.args.member)) c.flags.ensures) ∙ c.if-is_honest.false) c.false_ack-statement.ensures c.in_ok-say.ensures.ok))
