use Rattle.world_spec.specs.Scene.{Scene}
use Rattle.world_core.specs.Steps.{lines_after, scene_after}
use Rattle.world_core.specs.Trusts.{trust_by}
use Rattle.world_core.proofs.Silent.{end_lines_told, end_told, end_scene}
use Rattle.std.proofs.Common.{ap}
use Rattle.world_core.proofs.Stated.{all_said_seen}
use Rattle.schedule_text.specs.declared.words.Event.TheVariants as events
use Rattle.world_core.proofs.world.World.say_end.Goals as goal

pub returns-clause-world : goal.returns-clause-world
unfolding scene_after
returns-clause-world g c =
    end_told (trust_by (g.S.MakesSeals.made c.args.sealer.now) (g.S.Checker.accepts c.args.sealer.now)) (let v : Scene = record { terms = c.self.inside.seats.terms; opening = c.self.inside.opening; known = c.self.inside.directory; sequences = c.self.inside.order.sequences; epoch = c.self.inside.order.epoch; said = c.self.inside.said; certs = c.self.inside.certs; posts = c.self.inside.seats.posts } in v) c.args.self.now c.args.member c.end_line.result c.self.view_is c.say_end.new.said c.in_ok-text.ensures.said

pub returns-clause-lines : goal.returns-clause-lines
unfolding lines_after
returns-clause-lines g c =
    end_lines_told (trust_by (g.S.MakesSeals.made c.args.sealer.now) (g.S.Checker.accepts c.args.sealer.now)) (let v : Scene = record { terms = c.self.inside.seats.terms; opening = c.self.inside.opening; known = c.self.inside.directory; sequences = c.self.inside.order.sequences; epoch = c.self.inside.order.epoch; said = c.self.inside.said; certs = c.self.inside.certs; posts = c.self.inside.seats.posts } in v) c.args.self.now c.args.member c.end_line.result c.self.view_is c.in_ok-text.text c.in_ok-text.ensures.text c.end_line.ensures

pub returns-clause-said : goal.returns-clause-said
unfolding scene_after
returns-clause-said g c =
    all_said_seen (let v : Scene = record { terms = c.self.inside.seats.terms; opening = c.self.inside.opening; known = c.self.inside.directory; sequences = c.self.inside.order.sequences; epoch = c.self.inside.order.epoch; said = c.self.inside.said; certs = c.self.inside.certs; posts = c.self.inside.seats.posts } in v) c.args.self.now c.say_end.new.said c.end_line.result c.self.view_is (trust_by (g.S.MakesSeals.made c.args.sealer.now) (g.S.Checker.accepts c.args.sealer.now)) (events.End c.args.member)
    (ap (λ (x : Scene). x.said) (end_scene (trust_by (g.S.MakesSeals.made c.args.sealer.now) (g.S.Checker.accepts c.args.sealer.now)) (let v : Scene = record { terms = c.self.inside.seats.terms; opening = c.self.inside.opening; known = c.self.inside.directory; sequences = c.self.inside.order.sequences; epoch = c.self.inside.order.epoch; said = c.self.inside.said; certs = c.self.inside.certs; posts = c.self.inside.seats.posts } in v) c.args.member c.say_end.new.said c.in_ok-text.ensures.said))
