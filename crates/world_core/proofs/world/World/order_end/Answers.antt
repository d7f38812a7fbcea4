use Rattle.std.proofs.Common.{◌∙◌, ap, ◌∷◌, []}
use Rattle.std.proofs.lemmas.Result.{IfOk-weaker}
use Rattle.report_text.specs.declared.lines.Line.TheVariants as line
use Rattle.world_spec.specs.Scene.{Scene}
use Rattle.world_core.specs.Trusts.{trust_by}
use Rattle.world_core.proofs.OrderedEnds.{faulty_end, faulty_said, late_end, late_said, no_end, no_end_said, own_end, own_said}
use Rattle.world_core.proofs.Stated.{false_end_grown}
use Rattle.world_core.proofs.world.World.order_end.Goals as goal

pub returns-then-not-is_honest-clause-world : goal.returns-then-not-is_honest-clause-world
returns-then-not-is_honest-clause-world g c =
    IfOk-weaker c.false_end.result _ _
    (λ _ is. is ∙ faulty_end (trust_by (g.S.MakesSeals.made c.args.sealer.now) (g.S.Checker.accepts c.args.sealer.now)) (let v : Scene = record { terms = c.self.inside.seats.terms; opening = c.self.inside.opening; known = c.self.inside.directory; sequences = c.self.inside.order.sequences; epoch = c.self.inside.order.epoch; said = c.self.inside.said; certs = c.self.inside.certs; posts = c.self.inside.seats.posts } in v) c.args.self.now c.args.member c.self.view_is c.is_honest.result c.flags.result.now c.is_honest.ensures c.flags.ensures c.if-not-is_honest.true)
    c.false_end.ensures.world

pub returns-then-not-is_honest-clause-lines : goal.returns-then-not-is_honest-clause-lines
returns-then-not-is_honest-clause-lines g c =
    IfOk-weaker c.false_end.result _ _
    (λ _ is. is ∙ ap (λ text. line.OrderEnd c.args.member text ∷ []) (faulty_said (trust_by (g.S.MakesSeals.made c.args.sealer.now) (g.S.Checker.accepts c.args.sealer.now)) (let v : Scene = record { terms = c.self.inside.seats.terms; opening = c.self.inside.opening; known = c.self.inside.directory; sequences = c.self.inside.order.sequences; epoch = c.self.inside.order.epoch; said = c.self.inside.said; certs = c.self.inside.certs; posts = c.self.inside.seats.posts } in v) c.args.self.now c.args.member c.self.view_is c.is_honest.result c.flags.result.now c.is_honest.ensures c.flags.ensures c.if-not-is_honest.true))
    c.false_end.ensures.lines

pub returns-in_default-clause-world : goal.returns-in_default-clause-world
returns-in_default-clause-world g c =
    IfOk-weaker c.order_end_line.result _ _
    (λ _ _. no_end (trust_by (g.S.MakesSeals.made c.args.sealer.now) (g.S.Checker.accepts c.args.sealer.now)) (let v : Scene = record { terms = c.self.inside.seats.terms; opening = c.self.inside.opening; known = c.self.inside.directory; sequences = c.self.inside.order.sequences; epoch = c.self.inside.order.epoch; said = c.self.inside.said; certs = c.self.inside.certs; posts = c.self.inside.seats.posts } in v) c.args.self.now c.args.member c.self.view_is c.is_honest.result c.flags.result.now c.last_end.result c.is_honest.ensures c.flags.ensures c.if-not-is_honest.false c.last_end.ensures c.in_default.is)
    c.order_end_line.ensures

pub returns-in_default-clause-lines : goal.returns-in_default-clause-lines
returns-in_default-clause-lines g c =
    IfOk-weaker c.order_end_line.result _ _
    (λ _ is. is ∙ ap (λ text. line.OrderEnd c.args.member text ∷ []) (no_end_said (trust_by (g.S.MakesSeals.made c.args.sealer.now) (g.S.Checker.accepts c.args.sealer.now)) (let v : Scene = record { terms = c.self.inside.seats.terms; opening = c.self.inside.opening; known = c.self.inside.directory; sequences = c.self.inside.order.sequences; epoch = c.self.inside.order.epoch; said = c.self.inside.said; certs = c.self.inside.certs; posts = c.self.inside.seats.posts } in v) c.args.self.now c.args.member c.self.view_is c.is_honest.result c.flags.result.now c.last_end.result c.is_honest.ensures c.flags.ensures c.if-not-is_honest.false c.last_end.ensures c.in_default.is))
    c.order_end_line.ensures

pub returns-then-epoch-clause-world : goal.returns-then-epoch-clause-world
returns-then-epoch-clause-world g c =
    IfOk-weaker c.order_end_line-then-epoch.result _ _
    (λ _ _. late_end (trust_by (g.S.MakesSeals.made c.args.sealer.now) (g.S.Checker.accepts c.args.sealer.now)) (let v : Scene = record { terms = c.self.inside.seats.terms; opening = c.self.inside.opening; known = c.self.inside.directory; sequences = c.self.inside.order.sequences; epoch = c.self.inside.order.epoch; said = c.self.inside.said; certs = c.self.inside.certs; posts = c.self.inside.seats.posts } in v) c.args.self.now c.args.member c.self.view_is c.is_honest.result c.flags.result.now c.last_end.result c.in-Some.epoch c.epoch.result c.is_honest.ensures c.flags.ensures c.if-not-is_honest.false c.last_end.ensures c.in-Some.is c.epoch.ensures c.if-epoch.true)
    c.order_end_line-then-epoch.ensures

pub returns-then-epoch-clause-lines : goal.returns-then-epoch-clause-lines
returns-then-epoch-clause-lines g c =
    IfOk-weaker c.order_end_line-then-epoch.result _ _
    (λ _ is. is ∙ ap (λ text. line.OrderEnd c.args.member text ∷ []) (late_said (trust_by (g.S.MakesSeals.made c.args.sealer.now) (g.S.Checker.accepts c.args.sealer.now)) (let v : Scene = record { terms = c.self.inside.seats.terms; opening = c.self.inside.opening; known = c.self.inside.directory; sequences = c.self.inside.order.sequences; epoch = c.self.inside.order.epoch; said = c.self.inside.said; certs = c.self.inside.certs; posts = c.self.inside.seats.posts } in v) c.args.self.now c.args.member c.self.view_is c.is_honest.result c.flags.result.now c.last_end.result c.in-Some.epoch c.epoch.result c.is_honest.ensures c.flags.ensures c.if-not-is_honest.false c.last_end.ensures c.in-Some.is c.epoch.ensures c.if-epoch.true))
    c.order_end_line-then-epoch.ensures

pub returns-clause-world : goal.returns-clause-world
returns-clause-world g c =
    IfOk-weaker c.append_end.result _ _
    (λ _ is. is ∙ own_end (trust_by (g.S.MakesSeals.made c.args.sealer.now) (g.S.Checker.accepts c.args.sealer.now)) (let v : Scene = record { terms = c.self.inside.seats.terms; opening = c.self.inside.opening; known = c.self.inside.directory; sequences = c.self.inside.order.sequences; epoch = c.self.inside.order.epoch; said = c.self.inside.said; certs = c.self.inside.certs; posts = c.self.inside.seats.posts } in v) c.args.self.now c.args.member c.self.view_is c.is_honest.result c.flags.result.now c.last_end.result c.in-Some.epoch c.epoch.result c.is_honest.ensures c.flags.ensures c.if-not-is_honest.false c.last_end.ensures c.in-Some.is c.epoch.ensures c.if-epoch.false)
    c.append_end.ensures.world

pub returns-clause-lines : goal.returns-clause-lines
returns-clause-lines g c =
    IfOk-weaker c.append_end.result _ _
    (λ _ is. is ∙ ap (λ text. line.OrderEnd c.args.member text ∷ []) (own_said (trust_by (g.S.MakesSeals.made c.args.sealer.now) (g.S.Checker.accepts c.args.sealer.now)) (let v : Scene = record { terms = c.self.inside.seats.terms; opening = c.self.inside.opening; known = c.self.inside.directory; sequences = c.self.inside.order.sequences; epoch = c.self.inside.order.epoch; said = c.self.inside.said; certs = c.self.inside.certs; posts = c.self.inside.seats.posts } in v) c.args.self.now c.args.member c.self.view_is c.is_honest.result c.flags.result.now c.last_end.result c.in-Some.epoch c.epoch.result c.is_honest.ensures c.flags.ensures c.if-not-is_honest.false c.last_end.ensures c.in-Some.is c.epoch.ensures c.if-epoch.false))
    c.append_end.ensures.lines

pub returns-then-not-is_honest-clause-said : goal.returns-then-not-is_honest-clause-said
returns-then-not-is_honest-clause-said g c =
    false_end_grown (trust_by (g.S.MakesSeals.made c.args.sealer.now) (g.S.Checker.accepts c.args.sealer.now)) c.args.self.now c.args.member c.false_end.new.self.said c.false_end.result
    (faulty_end (trust_by (g.S.MakesSeals.made c.args.sealer.now) (g.S.Checker.accepts c.args.sealer.now)) (let v : Scene = record { terms = c.self.inside.seats.terms; opening = c.self.inside.opening; known = c.self.inside.directory; sequences = c.self.inside.order.sequences; epoch = c.self.inside.order.epoch; said = c.self.inside.said; certs = c.self.inside.certs; posts = c.self.inside.seats.posts } in v) c.args.self.now c.args.member c.self.view_is c.is_honest.result c.flags.result.now c.is_honest.ensures c.flags.ensures c.if-not-is_honest.true)
    c.false_end.ensures.said
