use Rattle.std.proofs.Common.{subst, sym}
use Rattle.chain_messages.specs.declared.messages.Certificate.{Certificate}
use Rattle.world_spec.specs.Terms.{rules_for}
use Rattle.validator_core.specs.Entries.{IsArriving}
use Rattle.validator_core.specs.Limits.{terms_at}
use Rattle.validator_core.proofs.Cases.{arriving}
use Rattle.validator_core.proofs.state.State.read_cert.Goals as goal

pub returns-clause-may : goal.returns-clause-may
returns-clause-may g c =
    let q = c.args.self.now.member.sequence in
    let digest = c.encoded_digest-digest.result in
    subst (λ (it : Certificate). IsArriving q (record { digest = digest; cert = it })) (sym c.in_ok-cert.ensures)
    (arriving (rules_for (terms_at c.args.self.now c.args.committee.now) (g.S.Checker.accepts c.args.sealer.now)) q c.args.cert digest c.encoded_digest-digest.ensures (c.in-Ok.ensures c.args.self.now.writers)
    (cc (c.is_ordered.ensures, c.if-is_ordered.false)))
