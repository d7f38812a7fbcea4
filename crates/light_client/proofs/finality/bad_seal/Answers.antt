use Rattle.light_client.proofs.Final.{statement_short}
use Rattle.light_client.proofs.finality.bad_seal.Goals as goal

pub encode_statement-requires : goal.encode_statement-requires
encode_statement-requires g c = statement_short c.args.sealed.now c.requires
