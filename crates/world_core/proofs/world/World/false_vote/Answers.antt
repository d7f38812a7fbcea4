use Rattle.std.proofs.Common.{◌∙◌, ap, sym, List, ◌∷◌, [], Option, option_map}
use Rattle.std.specs.Prelude.{option_copied}
use Rattle.digest_core.specs.declared.Digest.{Digest}
use Rattle.chain_messages.specs.declared.messages.Statement.TheVariants as statement
use Rattle.report_text.specs.declared.lines.Line.TheVariants as line
use Rattle.world_spec.specs.Setting.{seal_of_member}
use Rattle.world_spec.specs.Report.{origin_names}
use Rattle.world_spec.specs.Known.{world_with}
use Rattle.world_lines.specs.KnownRows.{made_as}
use Rattle.world_spec.specs.Scene.{Scene}
use Rattle.world_lines.specs.FalseVotes.{origins_by}
use Rattle.world_core.specs.Trusts.{trust_by}
use Rattle.world_core.proofs.Voting.{false_lines, false_none, false_said}
use Rattle.world_core.proofs.world.World.false_vote.Goals as goal

pub returns-then-is_honest-clause-lines : goal.returns-then-is_honest-clause-lines
returns-then-is_honest-clause-lines g c =
    false_lines (let v : Scene = record { terms = c.self.inside.seats.terms; opening = c.self.inside.opening; known = c.self.inside.directory; sequences = c.self.inside.order.sequences; epoch = c.self.inside.order.epoch; said = c.self.inside.said; certs = c.self.inside.certs; posts = c.self.inside.seats.posts } in v) c.args.self.now c.args.member c.args.tx.now c.args.words.now c.in-Some.made.now c.in_ok-origins.origins c.in_ok-lines.lines c.self.view_is
    (sym (ap (λ x. option_map made_as (option_copied x)) c.in-Some.is) ∙ c.made.ensures)
    (c.in_ok-origins.ensures ∙ ap (λ flags. origins_by c.self.inside.directory c.self.inside.said flags (made_as c.in-Some.made.now) c.args.words.now) c.flags-honest.ensures)
    (c.in_ok-lines.ensures ∙ ap (λ os. line.Fvote c.args.member c.args.tx.now (origin_names (world_with c.self.inside.directory) os) ∷ []) c.as_slice.ensures.value)

pub returns-clause-lines : goal.returns-clause-lines
returns-clause-lines g c =
    false_lines (let v : Scene = record { terms = c.self.inside.seats.terms; opening = c.self.inside.opening; known = c.self.inside.directory; sequences = c.self.inside.order.sequences; epoch = c.self.inside.order.epoch; said = c.self.inside.said; certs = c.self.inside.certs; posts = c.self.inside.seats.posts } in v) c.args.self.now c.args.member c.args.tx.now c.args.words.now c.in-Some.made.now c.in_ok-origins.origins c.in_ok-lines.lines c.self.view_is
    (sym (ap (λ x. option_map made_as (option_copied x)) c.in-Some.is) ∙ c.made.ensures)
    (c.in_ok-origins.ensures ∙ ap (λ flags. origins_by c.self.inside.directory c.self.inside.said flags (made_as c.in-Some.made.now) c.args.words.now) c.flags-honest.ensures)
    (c.in_ok-lines.ensures ∙ ap (λ os. line.Fvote c.args.member c.args.tx.now (origin_names (world_with c.self.inside.directory) os) ∷ []) c.as_slice.ensures.value)

pub returns-then-is_honest-clause-world : goal.returns-then-is_honest-clause-world
returns-then-is_honest-clause-world g c =
    false_none (trust_by (g.S.MakesSeals.made c.args.sealer.now) (g.S.Checker.accepts c.args.sealer.now)) (let v : Scene = record { terms = c.self.inside.seats.terms; opening = c.self.inside.opening; known = c.self.inside.directory; sequences = c.self.inside.order.sequences; epoch = c.self.inside.order.epoch; said = c.self.inside.said; certs = c.self.inside.certs; posts = c.self.inside.seats.posts } in v) c.args.self.now c.args.member c.args.tx.now c.args.words.now c.in-Some.made.now c.flags-honest.result.now c.is_honest.result c.self.view_is
    (sym (ap (λ x. option_map made_as (option_copied x)) c.in-Some.is) ∙ c.made.ensures) c.flags-honest.ensures c.is_honest.ensures c.if-is_honest.true

pub returns-clause-world : goal.returns-clause-world
returns-clause-world g c =
    false_said (trust_by (g.S.MakesSeals.made c.args.sealer.now) (g.S.Checker.accepts c.args.sealer.now)) (let v : Scene = record { terms = c.self.inside.seats.terms; opening = c.self.inside.opening; known = c.self.inside.directory; sequences = c.self.inside.order.sequences; epoch = c.self.inside.order.epoch; said = c.self.inside.said; certs = c.self.inside.certs; posts = c.self.inside.seats.posts } in v) c.args.self.now c.args.member c.args.tx.now c.args.words.now c.in-Some.made.now c.flags-honest.result.now c.is_honest.result c.in_ok-origins.origins c.in_ok-seal.seal c.value.result.now c.say_sealed.new.self c.self.view_is
    (sym (ap (λ x. option_map made_as (option_copied x)) c.in-Some.is) ∙ c.made.ensures) c.flags-honest.ensures c.is_honest.ensures c.if-is_honest.false c.in_ok-origins.ensures
    (c.in_ok-seal.ensures ∙ ap (λ (os : List (Option Digest)). seal_of_member (g.S.MakesSeals.made c.args.sealer.now) c.args.member (statement.Vote c.in-Some.made.now.signed.tx.epoch c.in-Some.made.now.digest os)) c.as_slice-2.ensures.value)
    c.value.ensures c.in_ok-say_sealed.ensures.ok
