use Rattle.protocol_spec.specs.Member.Member.{built}
use Rattle.inspect.specs.Digests.{checkpoint_line}
use Rattle.inspect.proofs.Digested.{one_more}
use Rattle.inspect.proofs.digests.add_checkpoints.Goals as goal

pub loop-number-preserved : goal.loop-number-preserved
loop-number-preserved c = one_more checkpoint_line (built c.args.validator.now.state) c.loop-number.number c.checkpoint_at.result.now c.args.text.now c.loop-number.text c.add_checkpoint.new.text c.checkpoint_at.ensures c.loop-number.invariant c.in_ok-add_checkpoint.ensures
