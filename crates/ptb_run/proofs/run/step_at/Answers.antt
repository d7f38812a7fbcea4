use Rattle.ptb_run.specs.Blocks.{block_of, rows_of}
use Rattle.ptb_run.proofs.Drawing.{step_draws}
use Rattle.ptb_run.proofs.run.step_at.Goals as goal

pub returns-in-Ok-clause-made : goal.returns-in-Ok-clause-made
returns-in-Ok-clause-made c =
    step_draws c.args.tx.now c.args.site.now.tx c.args.site.now.version (rows_of c.args.block.now) (block_of c.args.block.now) (block_of c.step.new.block) c.args.command.now c.requires.few c.in-Ok.ensures.steps
