use Rattle.chain_messages.specs.Messages.{certificate}
use Rattle.light_client.specs.Listing.{of_certificate}
use Rattle.light_client.proofs.Rows.{lists}
use Rattle.light_client.proofs.listing.list_certificate.Goals as goal

pub returns-clause-named : goal.returns-clause-named
returns-clause-named c = lists certificate of_certificate c.args.bytes.now c.in_ok-cert.cert c.add_certificate-added.new.listing c.in_ok-cert.ensures.found c.in_ok-added.ensures
