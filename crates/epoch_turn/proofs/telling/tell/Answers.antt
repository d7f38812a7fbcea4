use Rattle.std.proofs.Common.{◌∙◌, arith}
use Rattle.epoch_turn.proofs.Told.{behind_then}
use Rattle.epoch_turn.proofs.telling.tell.Goals as goal

pub returns-in_err-tell_one-clause-behind : goal.returns-in_err-tell_one-clause-behind
returns-in_err-tell_one-clause-behind c = behind_then c.args.chain.now c.loop-place.chain c.tell_one.new.chain c.loop-place.invariant.behind c.tell_one.ensures.behind

pub loop-place-preserved : goal.loop-place-preserved
loop-place-preserved c = record {
  within = let b = c.loop-place-test.true in let e = c.admitted_count.ensures in omega (arith, b, e);
  told = c.in_ok-tell_one.ensures.told;
  marks = c.tell_one.ensures.marks ∙ c.loop-place.invariant.marks;
  past = c.tell_one.ensures.past ∙ c.loop-place.invariant.past;
  built = c.tell_one.ensures.built ∙ c.loop-place.invariant.built;
  more = let a = c.loop-place.invariant.more in let b = c.tell_one.ensures.more in omega (arith, a, b);
  behind = behind_then c.args.chain.now c.loop-place.chain c.tell_one.new.chain c.loop-place.invariant.behind c.tell_one.ensures.behind;
}
