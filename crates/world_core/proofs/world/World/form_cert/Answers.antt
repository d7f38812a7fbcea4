use Rattle.std.proofs.Common.{◌∙◌, ap, sym, ◌∷◌, ◌++◌, [], option_map}
use Rattle.std.specs.Prelude.{option_copied}
use Rattle.world_spec.specs.World.{Formed}
use Rattle.world_lines.specs.KnownRows.{made_as}
use Rattle.world_spec.specs.Scene.{Scene}
use Rattle.world_core.specs.Trusts.{trust_by}
use Rattle.world_core.proofs.Voting.{collected_here, form_lines, form_others, form_whole}
use Rattle.world_core.proofs.world.World.form_cert.Goals as goal

pub returns-then-not-is_whole-clause-world : goal.returns-then-not-is_whole-clause-world
returns-then-not-is_whole-clause-world g c =
    form_others (trust_by (g.S.MakesSeals.made c.args._sealer.now) (g.S.Checker.accepts c.args._sealer.now)) (let v : Scene = record { terms = c.self.inside.seats.terms; opening = c.self.inside.opening; known = c.self.inside.directory; sequences = c.self.inside.order.sequences; epoch = c.self.inside.order.epoch; said = c.self.inside.said; certs = c.self.inside.certs; posts = c.self.inside.seats.posts } in v) c.args.self.now c.args.tx.now c.args.members.now c.in-Some.made.now c.collect-collected.result c.is_whole.result c.self.view_is
    (sym (ap (λ x. option_map made_as (option_copied x)) c.in-Some.is) ∙ c.made.ensures)
    (collected_here c.self.inside.said c.in-Some.made.now.digest c.args.members.now _ _ _ _ _ c.collect-collected.ensures c.committee.ensures c.value.ensures) c.is_whole.ensures c.if-not-is_whole.true

pub returns-then-not-is_whole-clause-lines : goal.returns-then-not-is_whole-clause-lines
returns-then-not-is_whole-clause-lines g c =
    form_lines (trust_by (g.S.MakesSeals.made c.args._sealer.now) (g.S.Checker.accepts c.args._sealer.now)) (let v : Scene = record { terms = c.self.inside.seats.terms; opening = c.self.inside.opening; known = c.self.inside.directory; sequences = c.self.inside.order.sequences; epoch = c.self.inside.order.epoch; said = c.self.inside.said; certs = c.self.inside.certs; posts = c.self.inside.seats.posts } in v) c.args.self.now c.args.tx.now c.args.members.now c.in-Some.made.now c.collect-collected.result c.in_ok-lines.lines c.self.view_is
    (sym (ap (λ x. option_map made_as (option_copied x)) c.in-Some.is) ∙ c.made.ensures)
    (collected_here c.self.inside.said c.in-Some.made.now.digest c.args.members.now _ _ _ _ _ c.collect-collected.ensures c.committee.ensures c.value.ensures) c.in_ok-lines.ensures

pub returns-clause-world : goal.returns-clause-world
returns-clause-world g c =
    form_whole (trust_by (g.S.MakesSeals.made c.args._sealer.now) (g.S.Checker.accepts c.args._sealer.now)) (let v : Scene = record { terms = c.self.inside.seats.terms; opening = c.self.inside.opening; known = c.self.inside.directory; sequences = c.self.inside.order.sequences; epoch = c.self.inside.order.epoch; said = c.self.inside.said; certs = c.self.inside.certs; posts = c.self.inside.seats.posts } in v) c.args.self.now c.args.tx.now c.args.members.now c.in-Some.made.now c.collect-collected.result c.is_whole.result c.in_ok-cert.cert c.add.new.self c.self.view_is
    (sym (ap (λ x. option_map made_as (option_copied x)) c.in-Some.is) ∙ c.made.ensures)
    (collected_here c.self.inside.said c.in-Some.made.now.digest c.args.members.now _ _ _ _ _ c.collect-collected.ensures c.committee.ensures c.value.ensures) c.is_whole.ensures c.if-not-is_whole.false c.in_ok-cert.ensures.cert
    (c.in_ok-add.ensures.ok ∙ ap (λ n. c.self.inside.certs ++ (let f : Formed = record { name = n; cert = c.in_ok-cert.cert } in f) ∷ []) c.as_slice.ensures.value)

pub returns-clause-lines : goal.returns-clause-lines
returns-clause-lines g c =
    form_lines (trust_by (g.S.MakesSeals.made c.args._sealer.now) (g.S.Checker.accepts c.args._sealer.now)) (let v : Scene = record { terms = c.self.inside.seats.terms; opening = c.self.inside.opening; known = c.self.inside.directory; sequences = c.self.inside.order.sequences; epoch = c.self.inside.order.epoch; said = c.self.inside.said; certs = c.self.inside.certs; posts = c.self.inside.seats.posts } in v) c.args.self.now c.args.tx.now c.args.members.now c.in-Some.made.now c.collect-collected.result c.in_ok-lines.lines c.self.view_is
    (sym (ap (λ x. option_map made_as (option_copied x)) c.in-Some.is) ∙ c.made.ensures)
    (collected_here c.self.inside.said c.in-Some.made.now.digest c.args.members.now _ _ _ _ _ c.collect-collected.ensures c.committee.ensures c.value.ensures) c.in_ok-lines.ensures
