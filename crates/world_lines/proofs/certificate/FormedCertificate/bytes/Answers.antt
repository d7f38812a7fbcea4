use Rattle.std.proofs.Common.{◌∙◌, ap}
use Rattle.chain_messages.specs.declared.messages.Certificate.{Certificate}
use Rattle.chain_messages.specs.declared.messages.Entry.TheVariants as entries
use Rattle.chain_messages.specs.Messages as messages
use Rattle.world_lines.proofs.Spelled.{entry_some, without_number}
use Rattle.world_lines.proofs.certificate.FormedCertificate.bytes.Goals as goal

pub returns-in-empty : goal.returns-in-empty
returns-in-empty c =
    absurd (entry_some c.args.self.now c.as_slice.result.now
    (c.as_slice.ensures.value ∙ c.get.ensures ∙ c.self.invariant ∙ ap (λ (x : Certificate). messages.entry.spell (entries.Cert x)) c.self.view_is) c.in-empty.len_below)

pub returns-in-len1-up : goal.returns-in-len1-up
returns-in-len1-up c =
    without_number c.args.self.now c.as_slice.result.now
    (c.as_slice.ensures.value ∙ c.get.ensures ∙ c.self.invariant ∙ ap (λ (x : Certificate). messages.entry.spell (entries.Cert x)) c.self.view_is)
