use Rattle.committee_core.proofs.desk.signed_digest.Goals as goal
use Rattle.protocol_spec.proofs.Checked.{tx_short}

pub tx_digest-requires : goal.tx_digest-requires
tx_digest-requires c = tx_short c.in-Ok.signed c.in-Ok.ensures.short
