use Rattle.std.proofs.Common.{◌∙◌, ◌++◌, ◌∷◌, [], ap, replicate}
use Rattle.std.proofs.lemmas.List.{replicate_more}
use Rattle.dag_core.proofs.plan.empty_rows.Goals as goal

pub loop-preserved : goal.loop-preserved
loop-preserved c =
    c.in_ok-push.ensures.items
    ∙ ap (λ rows. rows ++ c.new.result ∷ []) c.loop.invariant
    ∙ ap (λ row. replicate c.loop.counter [] ++ row ∷ []) c.new.ensures
    ∙ replicate_more c.loop.counter []
