use Rattle.std.proofs.Common.{◌∙◌, List, ap, subst, sym}
use Rattle.std.specs.Prelude.{map}
use Rattle.light_check.specs.declared.chain.Link.{Link}
use Rattle.light_check.specs.Chains.{AllShort, chain}
use Rattle.light_check.proofs.Shorts.{links_short}
use Rattle.light_client.specs.Listing.{listed, of_chain, of_link}
use Rattle.light_client.proofs.Rows.{lists}
use Rattle.light_client.proofs.listing.list_chain.Goals as goal

pub add_links-added-requires-clause-short : goal.add_links-added-requires-clause-short
add_links-added-requires-clause-short c = subst AllShort (sym c.as_slice.ensures.value) (links_short c.in_ok-chain.chain c.in_ok-chain.ensures.short)

pub returns-clause-named : goal.returns-clause-named
returns-clause-named c = lists chain of_chain c.args.bytes.now c.in_ok-chain.chain c.add_links-added.new.listing c.in_ok-chain.ensures.found (c.in_ok-added.ensures ∙ ap (λ (links : List Link). listed (map of_link links)) c.as_slice.ensures.value)
