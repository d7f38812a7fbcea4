-- If a decision found no case against a vote, the versions that it consumes are free: what taking the vote asks.
use Rattle.std.proofs.Common.{◌≡◌, List, [], ◌∷◌, ◌++◌, Option, Some, None, refl}
use Rattle.std.specs.Prelude.{nat_lt}
use Rattle.digest_core.specs.declared.Digest.{Digest}
use Rattle.chain_types.specs.declared.refusals.DecideRefusal.TheVariants as refused
use Rattle.chain_types.specs.declared.transactions.Transaction.{Transaction}
use Rattle.chain_types.specs.Digests.{consumed_keys}
use Rattle.protocol_spec.specs.Chain.Words.{first_of, first_some, where_true}
use Rattle.protocol_spec.specs.Chain.Keys.{objects_of}
use Rattle.protocol_spec.specs.Member.Votes.{Ballot, absent, consumed, gas_balance, locked, no_gas, vote_refusal, wrong_digest, wrong_kind, wrong_owner}

-- if no case applies, the last does not
last_case : {A : Type 0} → (cases : List (Option A)) (last : Option A) → first_some (cases ++ last ∷ []) ≡ None → last ≡ None
last_case [] None h = refl
last_case [] (Some x) h = absurd (cc)
last_case (None ∷ cases) last h = last_case cases last h
last_case (Some x ∷ cases) last h = absurd (cc)

pub free_where_decided : (b : Ballot) (t : Transaction) (tx : Digest) → vote_refusal b t tx ≡ None → first_of (locked b.votes tx) (consumed_keys t) ≡ None
unfolding vote_refusal
free_where_decided b t tx h =
    last_case
    (first_of (absent b) (objects_of t) ∷ first_of (consumed b) (consumed_keys t) ∷ first_of (wrong_digest b) (objects_of t) ∷ first_of (wrong_owner b t) (objects_of t)
    ∷ no_gas b t ∷ first_of (wrong_kind b) (objects_of t) ∷ where_true (nat_lt (gas_balance b t) t.budget) (refused.PoorGas (gas_balance b t) t.budget) ∷ [])
    (first_of (locked b.votes tx) (consumed_keys t)) h
