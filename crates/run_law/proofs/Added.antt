-- Lines after lines.
use Rattle.std.proofs.Common.{◌≡◌, List, [], ◌∷◌, ◌++◌, Result, Ok, Err, refl, ap, ◌∙◌}
use Rattle.schedule_text.specs.declared.cause.Cause.{Cause}
use Rattle.schedule_text.specs.declared.words.Schedule.{Schedule}
use Rattle.schedule_text.specs.declared.statement.Statement.{Statement}
use Rattle.schedule_text.specs.Known.{add_line}
use Rattle.run_law.specs.Sayable.{then_read, added}

then-append : (xs ys : List Statement) (r : Result Schedule Cause) → ((s : Schedule) → added s (xs ++ ys) ≡ then_read (added s xs) (λ t. added t ys))
    → then_read r (λ t. added t (xs ++ ys)) ≡ then_read (then_read r (λ t. added t xs)) (λ t. added t ys)
then-append xs ys (Ok s) h = h s
then-append xs ys (Err c) h = refl

added-append : (s : Schedule) (xs ys : List Statement) → added s (xs ++ ys) ≡ then_read (added s xs) (λ t. added t ys)
added-append s [] ys = refl
added-append s (x ∷ xs) ys = then-append xs ys (add_line s x) (λ t. added-append t xs ys)

pub go_on : (s t : Schedule) (r : Result Schedule Cause) (xs ys : List Statement) → added s xs ≡ Ok t → added t ys ≡ r → added s (xs ++ ys) ≡ r
go_on s t r xs ys h k = added-append s xs ys ∙ ap (λ (q : Result Schedule Cause). then_read q (λ u. added u ys)) h ∙ k
