use Rattle.std.proofs.Common.{◌∙◌, List, ap}
use Rattle.wire_bcs.specs.Shapes.{seq}
use Rattle.chain_messages.specs.Messages.{sealed}
use Rattle.chain_messages.specs.declared.messages.Sealed.{Sealed}
use Rattle.light_client.specs.Listing.{listed, of_acknowledgements}
use Rattle.light_client.proofs.Rows.{lists}
use Rattle.light_client.proofs.listing.list_acknowledgements.Goals as goal

pub returns-clause-named : goal.returns-clause-named
returns-clause-named c = lists (seq sealed) of_acknowledgements c.args.bytes.now c.in_ok-said.said c.add_sealed-added.new.listing c.in_ok-said.ensures.found (c.in_ok-added.ensures ∙ ap (λ (said : List Sealed). listed (of_acknowledgements said)) c.as_slice.ensures.value)
