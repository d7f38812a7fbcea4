use Rattle.std.proofs.Common.{◌∙◌, ap, sym, ℕ, List, option_map}
use Rattle.std.specs.Prelude.{option_copied}
use Rattle.chain_types.specs.Equal.{digest_eq}
use Rattle.chain_types.specs.declared.transactions.SignedTx.{SignedTx}
use Rattle.cert_rules.specs.Collecting.{collected_as}
use Rattle.world_lines.specs.KnownRows.{made_as}
use Rattle.protocol_spec.specs.Chain.Collecting.{collected}
use Rattle.world_spec.specs.Step.{ack_in, last_said}
use Rattle.world_spec.specs.Scene.{Scene}
use Rattle.world_core.specs.Trusts.{trust_by}
use Rattle.world_core.proofs.Acking.{final_told}
use Rattle.world_core.proofs.world.World.collect_final.Goals as goal

pub returns : goal.returns
returns g c =
    final_told (trust_by (g.S.MakesSeals.made c.args._sealer.now) (g.S.Checker.accepts c.args._sealer.now)) (let v : Scene = record { terms = c.self.inside.seats.terms; opening = c.self.inside.opening; known = c.self.inside.directory; sequences = c.self.inside.order.sequences; epoch = c.self.inside.order.epoch; said = c.self.inside.said; certs = c.self.inside.certs; posts = c.self.inside.seats.posts } in v) c.args.self.now c.args.tx.now c.args.members.now
    (made_as c.in-Some.made.now) (collected_as c.collect_acks-collected.result) c.in_ok-text.text c.final_line-2.result c.self.view_is
    (sym (ap (λ x. option_map made_as (option_copied x)) c.in-Some.is) ∙ c.made.ensures)
    (c.collect_acks-collected.ensures ∙ ap (λ (signed : SignedTx). collected digest_eq c.committee-committee.result.now (λ m. last_said (ack_in signed.tx.epoch c.in-Some.made.now.digest) m c.self.inside.said) c.args.members.now) c.value.ensures ∙ ap (λ (stakes : List ℕ). collected digest_eq stakes (λ m. last_said (ack_in c.in-Some.made.now.signed.tx.epoch c.in-Some.made.now.digest) m c.self.inside.said) c.args.members.now) c.committee-committee.ensures)
    c.in_ok-text.ensures c.final_line-2.ensures
