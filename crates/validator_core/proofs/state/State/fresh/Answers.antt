use Rattle.std.proofs.Common.{◌≡◌, List, ap, sym, subst, arith}
use Rattle.protocol_spec.specs.Member.Votes.{Cast}
use Rattle.validator_core.specs.Courses.{Coursed}
use Rattle.validator_core.specs.Sound.{AllFew}
use Rattle.validator_core.proofs.state.State.fresh.Goals as goal

pub invariant_of-result : goal.invariant_of-result
invariant_of-result c = record {
  few = subst (λ (votes : List Cast). AllFew votes) (sym c.new.ensures) tt;
  sound = c.in_ok-epoch_state.ensures.sound;
  seen = let none : c.in_ok-epoch_state.epoch_state.seen ≡ 0 = ap (λ (x : Coursed). x.sequence.number) c.in_ok-epoch_state.ensures.value in omega (arith, none);
  front = omega arith;
}
