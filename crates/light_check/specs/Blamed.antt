-- Who sealed both of two votes, of which an honest member casts at most one. Source: Sui Lutris (an honest member votes
-- for one transaction of each owned version); who is named, and in which order, is this profile's own.
use Rattle.std.specs.Prelude.{ℕ, Bool, not, ◌&&◌, ◌==◌, List, filter, map, Option, None, option_map, if◌then◌else◌}
use Rattle.chain_types.specs.declared.objects.ObjectKey.{ObjectKey}
use Rattle.chain_types.specs.Equal.{digest_eq}
use Rattle.chain_types.specs.Digests.{consumed_keys, transaction_digest}
use Rattle.chain_messages.specs.declared.messages.MemberSeal.{MemberSeal}
use Rattle.chain_messages.specs.declared.messages.Certificate.{Certificate}
use Rattle.quorum_core.specs.Committee.{is_among}
use Rattle.protocol_spec.specs.Chain.Words.{first_of, where_true}
use Rattle.protocol_spec.specs.Chain.Tests.{has_key}
use Rattle.light_check.specs.declared.rivals.DoubleVote.{DoubleVote}

abbrev pub sealers : Certificate → List ℕ
sealers c = map (λ (s : MemberSeal). s.member) c.seals

-- the first version that the second certificate's transaction consumes and the first one's consumes too
abbrev pub shared_key : Certificate → Certificate → Option ObjectKey
shared_key c d = first_of (λ key. where_true (has_key (consumed_keys c.tx) key) key) (consumed_keys d.tx)

-- the certificates are of two transactions of one epoch
abbrev pub are_rivals : Certificate → Certificate → Bool
are_rivals c d = (c.tx.epoch == d.tx.epoch) && not (digest_eq (transaction_digest c.tx) (transaction_digest d.tx))

-- the members whose seals stand under both certificates, in the order of the second
abbrev pub sealed_both : Certificate → Certificate → List ℕ
sealed_both c d = filter (is_among (sealers c)) (sealers d)

abbrev pub blame_for : Certificate → Certificate → ObjectKey → DoubleVote
blame_for c d key = record { key = key; members = sealed_both c d }

-- who is to blame for two certificates: if they are rivals and consume one version, that version and the members that
-- sealed both; else none
abbrev pub blamed : Certificate → Certificate → Option DoubleVote
blamed c d = if are_rivals c d then option_map (blame_for c d) (shared_key c d) else None
