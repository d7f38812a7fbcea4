-- What a wallet makes of the statements of members, and what is wrong with them. Source: Sui Lutris (a certificate is a quorum's votes
-- for one transaction, effects are final once a quorum has acknowledged them); the order of the causes is this profile's own.
use Rattle.std.specs.Prelude.{◌≡◌, ℕ, ◌+◌, Bool, true, false, not, ◌&&◌, ◌==◌, List, [], ◌∷◌, Option, Some, None, Result, Ok, Err}
use Rattle.digest_core.specs.declared.Digest.{Digest}
use Rattle.quorum_core.specs.Committee.{is_roll}
use Rattle.chain_types.specs.Digests.{transaction_digest}
use Rattle.chain_types.specs.Equal.{digest_eq}
use Rattle.chain_types.specs.declared.transactions.Transaction.{Transaction}
use Rattle.chain_messages.specs.declared.messages.Statement.{Statement}
use Rattle.chain_messages.specs.declared.messages.Statement.TheVariants as statements
use Rattle.chain_messages.specs.declared.messages.Sealed.{Sealed}
use Rattle.protocol_spec.specs.Chain.Words.{first_some, where_true}
use Rattle.protocol_spec.specs.Chain.Collecting.{Collected, lacks, short, differ, whole}
use Rattle.cert_rules.specs.Collect.{sealed_collected, voters}
use Rattle.cert_rules.specs.Finality.{acks_collected}
use Rattle.wallet_core.specs.Lengths.{tx_long}
use Rattle.wallet_core.specs.declared.refusals.GatherRefusal.{GatherRefusal}
use Rattle.wallet_core.specs.declared.refusals.GatherRefusal.TheVariants as refusal

-- ---- what is answered

abbrev pub is_memory : GatherRefusal → Bool
is_memory refusal.OutOfMemory = true
is_memory refusal.TooLong = false
is_memory (refusal.NoVote place) = false
is_memory (refusal.NoAcknowledgement place) = false
is_memory refusal.Order = false
is_memory (refusal.ShortStake weight total) = false
is_memory (refusal.Differ a b) = false

-- the answer of gathering statements: a value of which `Is` holds if there is no reason against it, else the reason;
-- that memory was refused says nothing
abbrev pub Gathers : {X : Type 0} → Result X GatherRefusal → Option GatherRefusal → (X → Type 0) → Type 0
Gathers (Ok x) why Is = (why ≡ None) × Is x
Gathers (Err e) why Is = is_memory e ≡ false → why ≡ Some e

-- why statements whose members are in order give nothing together: too little stake, or two of them differ. (`lacks`
-- never comes here, since each member has a statement.)
abbrev pub why_collected : Collected → Option GatherRefusal
why_collected (lacks m) = Some refusal.Order
why_collected (short weight total) = Some (refusal.ShortStake weight total)
why_collected (differ a b) = Some (refusal.Differ a b)
why_collected whole = None

-- ---- votes

-- a vote for the transaction of this digest in this epoch
abbrev pub is_vote : ℕ → Digest → Statement → Bool
is_vote epoch digest (statements.Vote of tx origins) = (of == epoch) && digest_eq tx digest
is_vote epoch digest (statements.End of) = false
is_vote epoch digest (statements.Checkpoint of number tx) = false
is_vote epoch digest (statements.Ack of tx effects) = false

-- the refusal of the first statement that is not a vote for this transaction; the first of the list stands at this
-- place
abbrev pub no_vote : ℕ → Digest → ℕ → List Sealed → Option GatherRefusal
no_vote epoch digest place [] = None
no_vote epoch digest place (v ∷ votes) = first_some (where_true (not (is_vote epoch digest v.statement)) (refusal.NoVote place) ∷ no_vote epoch digest (place + 1) votes ∷ [])

-- the refusal if the members are not in ascending order, one repeats, or one is not known
abbrev pub out_of_order : List ℕ → List Sealed → Option GatherRefusal
out_of_order stakes said = where_true (not (is_roll stakes (voters said))) refusal.Order

-- what is wrong with votes for the transaction of this digest, whatever their stake is
unfoldable pub unfit_votes : List ℕ → ℕ → Digest → List Sealed → Option GatherRefusal
unfit_votes stakes epoch digest votes = first_some (no_vote epoch digest 0 votes ∷ out_of_order stakes votes ∷ [])

-- the first reason why votes for a transaction make no certificate
abbrev pub why_no_certificate : List ℕ → Transaction → List Sealed → Option GatherRefusal
why_no_certificate stakes t votes =
    first_some (
    where_true (tx_long t) refusal.TooLong ∷
    unfit_votes stakes t.epoch (transaction_digest t) votes ∷
    why_collected (sealed_collected stakes votes) ∷ [])

-- ---- acknowledgements

-- an acknowledgement of this transaction in this epoch, with whatever effects
abbrev pub is_ack : ℕ → Digest → Statement → Bool
is_ack epoch digest (statements.Ack of tx effects) = (of == epoch) && digest_eq tx digest
is_ack epoch digest (statements.Vote of tx origins) = false
is_ack epoch digest (statements.End of) = false
is_ack epoch digest (statements.Checkpoint of number tx) = false

-- the refusal of the first statement that is not an acknowledgement of this transaction; the first of the list stands
-- at this place
abbrev pub no_ack : ℕ → Digest → ℕ → List Sealed → Option GatherRefusal
no_ack epoch digest place [] = None
no_ack epoch digest place (s ∷ acks) = first_some (where_true (not (is_ack epoch digest s.statement)) (refusal.NoAcknowledgement place) ∷ no_ack epoch digest (place + 1) acks ∷ [])

-- the refusal of the first statement of the list that does not acknowledge the transaction of this statement, in its
-- epoch
abbrev pub unlike : Statement → List Sealed → Option GatherRefusal
unlike (statements.Ack epoch tx effects) acks = no_ack epoch tx 0 acks
unlike (statements.Vote epoch tx origins) acks = Some (refusal.NoAcknowledgement 0)
unlike (statements.End epoch) acks = Some (refusal.NoAcknowledgement 0)
unlike (statements.Checkpoint epoch number tx) acks = Some (refusal.NoAcknowledgement 0)

abbrev pub unlike_first : List Sealed → Option GatherRefusal
unlike_first [] = Some (refusal.NoAcknowledgement 0)
unlike_first (s ∷ acks) = unlike s.statement (s ∷ acks)

-- what is wrong with acknowledgements, whatever their stake is
unfoldable pub unfit_acks : List ℕ → List Sealed → Option GatherRefusal
unfit_acks stakes acks = first_some (unlike_first acks ∷ out_of_order stakes acks ∷ [])

-- the first reason why acknowledgements make nothing final
abbrev pub why_not_final : List ℕ → List Sealed → Option GatherRefusal
why_not_final stakes acks = first_some (unfit_acks stakes acks ∷ why_collected (acks_collected stakes acks) ∷ [])
