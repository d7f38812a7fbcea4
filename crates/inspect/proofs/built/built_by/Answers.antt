use Rattle.std.proofs.Common.{◌≡◌, ◌<◌, ◌≤◌, ◌∙◌, List, arith, ap, length, subst, sym}
use Rattle.checkpoint_core.specs.declared.checkpoints.Checkpoint.{Checkpoint}
use Rattle.checkpoint_core.specs.Checkpoints.{checkpoint as codec}
use Rattle.protocol_spec.specs.Chain.Words.{Each}
use Rattle.protocol_spec.specs.Member.Member.{built}
use Rattle.inspect.proofs.Copies.{front_more, front_whole, short_all, short_more}
use Rattle.inspect.proofs.built.built_by.Goals as goal

pub loop-number-preserved : goal.loop-number-preserved
loop-number-preserved c = record {
  front = c.in_ok-push.ensures.ok ∙ front_more (built c.args.validator.now.state) c.loop-number.checkpoints c.loop-number.number c.in_ok-copy_at.field-0 c.loop-number.invariant.front c.in_ok-copy_at.ensures.value;
  short = subst (λ (cs : List Checkpoint). Each codec.short cs) (sym c.in_ok-push.ensures.ok) (short_more c.loop-number.checkpoints c.in_ok-copy_at.field-0 c.loop-number.invariant.short c.in_ok-copy_at.ensures.short);
}

pub returns-clause-short : goal.returns-clause-short
returns-clause-short c =
    let value = c.checkpoints-count.ensures in
    let past = c.loop-number-test.false in
    let few = c.if-count-ge-TOO_LONG.false in
    let most : length (built c.args.validator.now.state) ≤ c.loop-number.number = grind arith in
    let whole : length c.loop-number.checkpoints ≡ length (built c.args.validator.now.state) = ap length (front_whole (built c.args.validator.now.state) c.loop-number.checkpoints c.loop-number.number c.loop-number.invariant.front most) in
    let low : length c.loop-number.checkpoints < 2147483648 = grind arith in
    short_all c.loop-number.checkpoints low c.loop-number.invariant.short
