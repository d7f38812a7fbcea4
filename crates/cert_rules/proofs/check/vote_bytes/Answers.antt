use Rattle.cert_rules.proofs.Whole.{vote_short}
use Rattle.cert_rules.proofs.check.vote_bytes.Goals as goal

pub encode_statement-requires : goal.encode_statement-requires
encode_statement-requires c = rw c.in_ok-copy.ensures (vote_short _ _ _ c.requires.few)
