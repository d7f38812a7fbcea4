use Rattle.std.proofs.Common.{◌+◌, ◌∙◌, All, ap, length, subst, sym}
use Rattle.std.proofs.lemmas.List.{length_push}
use Rattle.std.proofs.lemmas.List.Elements.{All-push}
use Rattle.steal_deck.specs.Hands.{IsNew}
use Rattle.steal_deck.proofs.crew.deal.Goals as goal

pub loop-preserved : goal.loop-preserved
loop-preserved c =
    let more = c.in_ok-push.ensures.ok in (
      ap length more ∙ length_push c.loop.hands c.in_ok-new.field-0 ∙ ap (λ n. n + 1) c.loop.invariant.0,
      subst (All (IsNew c.args.capacity)) (sym more) (All-push (IsNew c.args.capacity) c.loop.hands c.in_ok-new.field-0 c.loop.invariant.1 c.in_ok-new.ensures),
    )
