use Rattle.std.proofs.Common.{arith, ◌≡◌, ◌∷◌, ◌++◌, [], ap, ◌∙◌, subst, sym, take, ◌+◌}
use Rattle.std.specs.Prelude.{slice_set}
use Rattle.std.proofs.lemmas.Grind.{common_steps}
use Rattle.quorum_core.specs.Committee.{is_among}
use Rattle.epoch_turn.specs.Ends.{IsCount}
use Rattle.epoch_turn.proofs.Counting.{one_more}
use Rattle.epoch_turn.proofs.ends.EndCount.push.Goals as goal

pub invariant_of-self : goal.invariant_of-self
invariant_of-self c =
    let row = c.self.inside.members in
    let count = c.self.inside.count in
    let same : take (count + 1) (slice_set row count c.args.member) ≡ take count row ++ c.args.member ∷ [] = search (arith, common_steps) in
    subst (IsCount (count + 1)) (sym same) (one_more count (take count row) c.args.member (ap (λ ms. is_among ms c.args.member) c.self.view_is ∙ c.requires.new) c.requires.low c.self.invariant)
