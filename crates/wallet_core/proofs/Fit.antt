-- Votes and acknowledgements with which nothing is wrong may be collected.
use Rattle.std.proofs.Common.{◌≡◌, ℕ, ◌+◌, ◌<◌, Bool, true, false, List, [], ◌∷◌, length, Option, Some, None, refl, ap, sym, ◌∙◌, arith}
use Rattle.std.specs.Prelude.{not, ◌&&◌, ◌==◌}
use Rattle.std.proofs.lemmas.Bool.{eqb-true}
use Rattle.digest_core.specs.declared.Digest.{Digest}
use Rattle.quorum_core.specs.Committee.{is_roll}
use Rattle.chain_types.specs.Digests.{transaction_digest}
use Rattle.chain_types.specs.Equal.{digest_eq}
use Rattle.chain_types.specs.declared.transactions.Transaction.{Transaction}
use Rattle.chain_messages.specs.declared.messages.Statement.{Statement}
use Rattle.chain_messages.specs.declared.messages.Statement.TheVariants as statements
use Rattle.chain_messages.specs.declared.messages.Sealed.{Sealed}
use Rattle.protocol_spec.proofs.Equality.{digest_same}
use Rattle.protocol_spec.proofs.ListLemmas.{and-first, and-second}
use Rattle.protocol_spec.specs.Chain.Words.{Each, first_some, where_true}
use Rattle.cert_rules.specs.Collect.{IsVoteFor, sealed_collected, voted_origins, voters}
use Rattle.cert_rules.specs.Finality.{AreAcks, IsAckOf, acks_collected, effects_in}
use Rattle.wallet_core.specs.Gathering.{is_ack, is_vote, no_ack, no_vote, out_of_order, unfit_acks, unfit_votes, unlike, unlike_first, why_collected, why_no_certificate, why_not_final}
use Rattle.wallet_core.specs.Lengths.{tx_long}
use Rattle.wallet_core.specs.declared.refusals.GatherRefusal.{GatherRefusal}
use Rattle.wallet_core.specs.declared.refusals.GatherRefusal.TheVariants as refusal

-- ---- cases

two_none : (a b : Option GatherRefusal) → first_some (a ∷ b ∷ []) ≡ None → (a ≡ None) × (b ≡ None)
two_none None None e = (refl, refl)
two_none None (Some y) e = absurd (cc)
two_none (Some x) b e = absurd (cc)

is_true : (b : Bool) (x : GatherRefusal) → where_true (not b) x ≡ None → b ≡ true
is_true true x e = refl
is_true false x e = absurd (cc)

in_order : (stakes : List ℕ) (said : List Sealed) → out_of_order stakes said ≡ None → is_roll stakes (voters said) ≡ true
in_order stakes said e = is_true (is_roll stakes (voters said)) refusal.Order e

-- ---- votes

vote_is : (epoch : ℕ) (digest : Digest) (s : Statement) → is_vote epoch digest s ≡ true → s ≡ statements.Vote epoch digest (voted_origins s)
vote_is epoch digest (statements.Vote of tx origins) e =
    ap (λ (n : ℕ). statements.Vote n tx origins) (eqb-true of epoch (and-first (of == epoch) (digest_eq tx digest) e))
    ∙ ap (λ (d : Digest). statements.Vote epoch d origins) (digest_same tx digest (and-second (of == epoch) (digest_eq tx digest) e))
vote_is epoch digest (statements.End of) e = absurd (cc)
vote_is epoch digest (statements.Checkpoint of number tx) e = absurd (cc)
vote_is epoch digest (statements.Ack of tx effects) e = absurd (cc)

each_vote : (t : Transaction) (place : ℕ) (votes : List Sealed) → no_vote t.epoch (transaction_digest t) place votes ≡ None → Each (IsVoteFor t) votes
each_vote t place [] e = tt
each_vote t place (v ∷ votes) e =
    let parts = two_none (where_true (not (is_vote t.epoch (transaction_digest t) v.statement)) (refusal.NoVote place)) (no_vote t.epoch (transaction_digest t) (place + 1) votes) e in
    (vote_is t.epoch (transaction_digest t) v.statement (is_true (is_vote t.epoch (transaction_digest t) v.statement) (refusal.NoVote place) parts.0), each_vote t (place + 1) votes parts.1)

votes_fit : (stakes : List ℕ) (t : Transaction) (votes : List Sealed) → unfit_votes stakes t.epoch (transaction_digest t) votes ≡ None → Each (IsVoteFor t) votes × (is_roll stakes (voters votes) ≡ true)
unfolding unfit_votes
votes_fit stakes t votes e =
    let parts = two_none (no_vote t.epoch (transaction_digest t) 0 votes) (out_of_order stakes votes) e in
    (each_vote t 0 votes parts.0, in_order stakes votes parts.1)

pub are_votes : (stakes : List ℕ) (t : Transaction) (votes : List Sealed) → unfit_votes stakes t.epoch (transaction_digest t) votes ≡ None → Each (IsVoteFor t) votes
are_votes stakes t votes e = (votes_fit stakes t votes e).0

pub voters_in_order : (stakes : List ℕ) (t : Transaction) (votes : List Sealed) → unfit_votes stakes t.epoch (transaction_digest t) votes ≡ None → is_roll stakes (voters votes) ≡ true
voters_in_order stakes t votes e = (votes_fit stakes t votes e).1

-- the reason that is found second
pub unfit_said : (stakes : List ℕ) (t : Transaction) (votes : List Sealed) (r : GatherRefusal) → tx_long t ≡ false → unfit_votes stakes t.epoch (transaction_digest t) votes ≡ Some r → why_no_certificate stakes t votes ≡ Some r
unfit_said stakes t votes r short e =
    let rest = why_collected (sealed_collected stakes votes) in
    ap (λ (b : Bool). first_some (where_true b refusal.TooLong ∷ unfit_votes stakes t.epoch (transaction_digest t) votes ∷ rest ∷ [])) short
    ∙ ap (λ (o : Option GatherRefusal). first_some (None ∷ o ∷ rest ∷ [])) e

-- or the one that is found last
pub fit_said : (stakes : List ℕ) (t : Transaction) (votes : List Sealed) → tx_long t ≡ false → unfit_votes stakes t.epoch (transaction_digest t) votes ≡ None → why_no_certificate stakes t votes ≡ why_collected (sealed_collected stakes votes)
fit_said stakes t votes short e =
    let rest = why_collected (sealed_collected stakes votes) in
    ap (λ (b : Bool). first_some (where_true b refusal.TooLong ∷ unfit_votes stakes t.epoch (transaction_digest t) votes ∷ rest ∷ [])) short
    ∙ ap (λ (o : Option GatherRefusal). first_some (None ∷ o ∷ rest ∷ [])) e
    ∙ only rest
  where
    only : (o : Option GatherRefusal) → first_some (None ∷ None ∷ o ∷ []) ≡ o
    only None = refl
    only (Some r) = refl

-- ---- acknowledgements

ack_is : (epoch : ℕ) (digest : Digest) (s : Statement) → is_ack epoch digest s ≡ true → s ≡ statements.Ack epoch digest (effects_in s)
ack_is epoch digest (statements.Ack of tx effects) e =
    ap (λ (n : ℕ). statements.Ack n tx effects) (eqb-true of epoch (and-first (of == epoch) (digest_eq tx digest) e))
    ∙ ap (λ (d : Digest). statements.Ack epoch d effects) (digest_same tx digest (and-second (of == epoch) (digest_eq tx digest) e))
ack_is epoch digest (statements.Vote of tx origins) e = absurd (cc)
ack_is epoch digest (statements.End of) e = absurd (cc)
ack_is epoch digest (statements.Checkpoint of number tx) e = absurd (cc)

each_ack : (epoch : ℕ) (digest : Digest) (place : ℕ) (acks : List Sealed) → no_ack epoch digest place acks ≡ None → Each (IsAckOf epoch digest) acks
each_ack epoch digest place [] e = tt
each_ack epoch digest place (s ∷ acks) e =
    let parts = two_none (where_true (not (is_ack epoch digest s.statement)) (refusal.NoAcknowledgement place)) (no_ack epoch digest (place + 1) acks) e in
    (ack_is epoch digest s.statement (is_true (is_ack epoch digest s.statement) (refusal.NoAcknowledgement place) parts.0), each_ack epoch digest (place + 1) acks parts.1)

like_first : (first : Statement) (acks : List Sealed) → 0 < length acks → unlike first acks ≡ None → AreAcks acks
like_first (statements.Ack of tx effects) acks some e = record { some = some; epoch = of; tx = tx; each = each_ack of tx 0 acks e }
like_first (statements.Vote of tx origins) acks some e = absurd (cc)
like_first (statements.End of) acks some e = absurd (cc)
like_first (statements.Checkpoint of number tx) acks some e = absurd (cc)

are_acks : (acks : List Sealed) → unlike_first acks ≡ None → AreAcks acks
are_acks [] e = absurd (cc)
are_acks (s ∷ acks) e = like_first s.statement (s ∷ acks) (omega arith) e

acks_fit : (stakes : List ℕ) (acks : List Sealed) → unfit_acks stakes acks ≡ None → AreAcks acks × (is_roll stakes (voters acks) ≡ true)
unfolding unfit_acks
acks_fit stakes acks e =
    let parts = two_none (unlike_first acks) (out_of_order stakes acks) e in
    (are_acks acks parts.0, in_order stakes acks parts.1)

pub are_acks_of : (stakes : List ℕ) (acks : List Sealed) → unfit_acks stakes acks ≡ None → AreAcks acks
are_acks_of stakes acks e = (acks_fit stakes acks e).0

pub sealers_in_order : (stakes : List ℕ) (acks : List Sealed) → unfit_acks stakes acks ≡ None → is_roll stakes (voters acks) ≡ true
sealers_in_order stakes acks e = (acks_fit stakes acks e).1

pub unlike_said : (stakes : List ℕ) (acks : List Sealed) (r : GatherRefusal) → unfit_acks stakes acks ≡ Some r → why_not_final stakes acks ≡ Some r
unlike_said stakes acks r e = ap (λ (o : Option GatherRefusal). first_some (o ∷ why_collected (acks_collected stakes acks) ∷ [])) e

pub like_said : (stakes : List ℕ) (acks : List Sealed) → unfit_acks stakes acks ≡ None → why_not_final stakes acks ≡ why_collected (acks_collected stakes acks)
like_said stakes acks e = ap (λ (o : Option GatherRefusal). first_some (o ∷ why_collected (acks_collected stakes acks) ∷ [])) e ∙ only (why_collected (acks_collected stakes acks))
  where
    only : (o : Option GatherRefusal) → first_some (None ∷ o ∷ []) ≡ o
    only None = refl
    only (Some r) = refl
