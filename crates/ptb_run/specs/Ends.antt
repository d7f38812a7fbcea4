-- How the code's end of a block relates to the definition's.
use Rattle.std.specs.Prelude.{◌≡◌, Result, Ok, Err}
use Rattle.protocol_spec.specs.Block.Block as block
use Rattle.protocol_spec.specs.Block.Execution.{Failure}
use Rattle.ptb_run.specs.declared.block.Block.{Block}
use Rattle.ptb_run.specs.declared.halt.Failed.{Failed}
use Rattle.ptb_run.specs.declared.halt.Failed.TheVariants as failed
use Rattle.ptb_run.specs.Blocks.{block_of}
use Rattle.ptb_run.specs.Outcomes.{fault_of}

-- the code's block is the definition's, or it fails at the same command with the same fault; if memory was refused
-- nothing is said
abbrev pub Ends : Result Block Failed → Result block.Block Failure → Type 0
Ends (Ok b) says = says ≡ Ok (block_of b)
Ends (Err (failed.At command fault)) says = says ≡ Err (command, fault_of fault)
Ends (Err failed.OutOfMemory) says = Unit {0}
