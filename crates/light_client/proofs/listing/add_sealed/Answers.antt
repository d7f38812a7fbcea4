use Rattle.chain_messages.specs.Messages.{sealed}
use Rattle.light_client.proofs.Final.{statement_short}
use Rattle.light_client.proofs.Rows.{next_of_each}
use Rattle.light_client.proofs.listing.add_sealed.Goals as goal

pub encode_statement-requires : goal.encode_statement-requires
encode_statement-requires c = statement_short c.sealed-item.result (next_of_each sealed.short c.loop-rest.rest.now c.sealed-item.result c.sealed-item.is c.in-len1-up.len_at_least c.loop-rest.invariant.short)
