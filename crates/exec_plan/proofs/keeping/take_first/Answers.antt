use Rattle.std.proofs.Common.{◌≡◌, List, [], ◌∷◌, ◌++◌, Option, Some, None, reverse, ap, ◌∙◌}
use Rattle.std.specs.Prelude.{MatchOption}
use Rattle.std.proofs.lemmas.List.{reverse-append}
use Rattle.exec_plan.proofs.keeping.take_first.Goals as goal

-- the last item of a list is the first of the reversed list
popped : {A : Type 0} (old new : List A) (r : Option A) → MatchOption r ((old ≡ []) × (new ≡ [])) (λ x. old ≡ new ++ x ∷ []) → MatchOption r (reverse old ≡ []) (λ x. reverse old ≡ x ∷ reverse new)
popped old new None is = ap reverse is.0
popped old new (Some x) is = ap reverse is ∙ reverse-append new (x ∷ [])

pub returns : goal.returns
returns c = popped c.args.left.now c.pop.new.self c.pop.result c.pop.ensures
