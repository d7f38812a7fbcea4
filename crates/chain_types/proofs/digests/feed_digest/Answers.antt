use Rattle.wire_bcs.specs.Digests.{digest}
use Rattle.chain_types.proofs.digests.feed_digest.Goals as goal

pub returns : goal.returns
unfolding digest
returns c = record { feeds = c.add.ensures }
