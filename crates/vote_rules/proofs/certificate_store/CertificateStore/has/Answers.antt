use Rattle.std.proofs.Common.{◌∙◌}
use Rattle.vote_rules.proofs.Holding.{has}
use Rattle.vote_rules.proofs.certificate_store.CertificateStore.has.Goals as goal

pub returns : goal.returns
returns c = c.contains.ensures ∙ has c.self.inside.digests.keys c.self.inside.held.items c.args.self.now c.args.tx.now c.self.invariant.digests_of c.self.view_is
