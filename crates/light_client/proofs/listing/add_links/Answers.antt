use Rattle.light_check.specs.Chains.{link}
use Rattle.light_check.proofs.Shorts.{link_short}
use Rattle.light_client.proofs.Rows.{next_of_each}
use Rattle.light_client.proofs.listing.add_links.Goals as goal

pub stated-requires : goal.stated-requires
stated-requires c = link_short c.link-item.result (next_of_each link.short c.loop-rest.rest.now c.link-item.result c.link-item.is c.in-len1-up.len_at_least c.loop-rest.invariant.short)
