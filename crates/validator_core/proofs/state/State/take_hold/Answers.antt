use Rattle.std.proofs.Common.{arith}
use Rattle.validator_core.specs.Courses.{coursed}
use Rattle.validator_core.proofs.Fronts.{ordered_held}
use Rattle.validator_core.proofs.state.State.take_hold.Goals as goal

pub invariant_of-self : goal.invariant_of-self
invariant_of-self c = let s = c.self.inside in record {
  few = c.self.invariant.few;
  sound = c.in-Ok.ensures.sound;
  seen = let was = c.self.invariant.seen in let same = c.hold.ensures.seen in omega (arith, was, same);
  front = ordered_held s.ordered (coursed s.epoch_state) c.args.held (coursed c.hold.new.self) c.self.invariant.front c.in-Ok.ensures.value;
}
