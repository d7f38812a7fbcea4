use Rattle.std.proofs.Common.{◌∙◌, ◌++◌, ◌∷◌, [], ap, replicate}
use Rattle.std.proofs.lemmas.List.{replicate_more}
use Rattle.disk_log.proofs.index.Index.new.Goals as goal

pub loop-made-preserved : goal.loop-made-preserved
loop-made-preserved c =
    c.in_ok-push.ensures.items
    ∙ ap (λ rows. rows ++ c.new.result ∷ []) c.loop-made.invariant
    ∙ ap (λ row. replicate c.loop-made._made [] ++ row ∷ []) c.new.ensures
    ∙ replicate_more c.loop-made._made []
