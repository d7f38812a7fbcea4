use Rattle.std.proofs.Common.{ap, ◌∙◌}
use Rattle.chain_messages.specs.declared.messages.Certificate.{Certificate}
use Rattle.chain_types.specs.Digests.{consumed_keys}
use Rattle.vote_rules.proofs.Holding.{held_more, is_new}
use Rattle.vote_rules.proofs.certificate_store.CertificateStore.hold.Goals as goal

pub note_digest-requires-clause-new : goal.note_digest-requires-clause-new
note_digest-requires-clause-new c = is_new c.args.held.digest c.in_ok-reserve-2.ensures.keys c.self.invariant.digests_of c.self.view_is c.requires.new

pub invariant_of-self-2 : goal.invariant_of-self-2
invariant_of-self-2 c =
    let keys = c.in_ok-keys.ensures ∙ ap (λ (q : Certificate). consumed_keys q.tx) c.get.ensures in
    (held_more c.self.inside.held.items c.self.inside.digests.keys c.self.inside.holders.entries c.args.self.now c.args.held
    c.self.invariant c.self.view_is c.requires.new (c.as_slice.ensures.value ∙ keys) (c.as_slice-3.ensures.value ∙ keys)
    c.in_ok-reserve.ensures.items c.push_in_room.ensures c.in_ok-reserve-2.ensures.keys c.note_digest.ensures c.in_ok-reserve-3.ensures.entries c.add_holders.ensures c.fork_behind-fork.ensures).0
