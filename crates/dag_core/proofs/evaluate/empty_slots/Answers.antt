use Rattle.std.proofs.Common.{◌∙◌, ◌++◌, ◌∷◌, [], None, ap}
use Rattle.std.proofs.lemmas.List.{replicate_more}
use Rattle.dag_core.proofs.evaluate.empty_slots.Goals as goal

pub loop-preserved : goal.loop-preserved
loop-preserved g c = c.in_ok-push.ensures.items ∙ ap (λ t. t ++ None ∷ []) c.loop.invariant ∙ replicate_more c.loop.counter None
