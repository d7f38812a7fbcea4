use Rattle.std.proofs.Common.{◌∙◌, ◌++◌, ◌∷◌, [], ap, replicate}
use Rattle.std.proofs.lemmas.List.{replicate_more}
use Rattle.outside.proofs.keeper.empty_lists.Goals as goal

pub loop-made-preserved : goal.loop-made-preserved
loop-made-preserved c =
    c.in_ok-push.ensures.items
    ∙ ap (λ lists. lists ++ c.new.result ∷ []) c.loop-made.invariant
    ∙ ap (λ list. replicate c.loop-made._made [] ++ list ∷ []) c.new.ensures
    ∙ replicate_more c.loop-made._made []
