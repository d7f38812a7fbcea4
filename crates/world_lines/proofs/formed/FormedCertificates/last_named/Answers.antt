use Rattle.std.proofs.Common.{◌∙◌}
use Rattle.world_lines.proofs.Books.{cert_found}
use Rattle.world_lines.proofs.formed.FormedCertificates.last_named.Goals as goal

pub returns : goal.returns
returns c =
    c.cert_at.ensures
    ∙ cert_found c.args.name.now c.self.inside.rows.items c.self.inside.places.entries c.self.invariant c.self.view_is c.as_slice.ensures.value (c.copied-place.ensures ∙ c.get.ensures.value)
