use Rattle.std.proofs.Common.{map}
use Rattle.ptb_run.specs.Blocks.{block_of}
use Rattle.ptb_run.specs.Needs.{wanted_of}
use Rattle.ptb_run.proofs.Given.{forms_of}
use Rattle.ptb_run.proofs.step.perform.Goals as goal

pub call_native-requires-clause-forms : goal.call_native-requires-clause-forms
call_native-requires-clause-forms c = forms_of (block_of c.args.block.now) c.args.command.now c.in-Call.native _ (map wanted_of c.args.wanted.now) c.in-Call.is c.requires.counted c.requires.wanted c.requires.taken
