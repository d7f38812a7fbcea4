use Rattle.world_lines.specs.Lines.{line_of}
use Rattle.world_lines.specs.KnownRows.{made_as}
use Rattle.world_spec.specs.Scene.{Scene}
use Rattle.world_core.specs.Trusts.{trust_by}
use Rattle.world_core.proofs.Sound.{tx_made}
use Rattle.world_core.proofs.world.World.make_tx.Goals as goal

pub returns-clause-world : goal.returns-clause-world
returns-clause-world g c =
    tx_made (trust_by (g.S.MakesSeals.made c.args.sealer.now) (g.S.Checker.accepts c.args.sealer.now)) (let v : Scene = record { terms = c.self.inside.seats.terms; opening = c.self.inside.opening; known = c.self.inside.directory; sequences = c.self.inside.order.sequences; epoch = c.self.inside.order.epoch; said = c.self.inside.said; certs = c.self.inside.certs; posts = c.self.inside.seats.posts } in v) c.args.self.now (line_of c.args.words.now) (made_as c.in-Ok.made) c.add_made.new.self c.self.view_is c.in-Ok.ensures.made c.in_ok-add_made.ensures.ok
