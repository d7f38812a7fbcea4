use Rattle.block_law.proofs.ReadingSteps.{chain-reads}
use Rattle.block_law.proofs.chains.chain_reads.Goals as goal

pub returns : goal.returns
returns c = chain-reads
