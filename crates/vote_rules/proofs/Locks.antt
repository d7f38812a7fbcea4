-- If the locks stand for the votes of an epoch, the rule over them is the vote rule.
use Rattle.std.proofs.Common.{◌≡◌, List, [], ◌∷◌, ◌++◌, Option, Some, None, refl, ap, ◌∙◌, option_map}
use Rattle.std.specs.Prelude.{find, nat_lt}
use Rattle.digest_core.specs.declared.Digest.{Digest}
use Rattle.chain_types.specs.declared.objects.ObjectKey.{ObjectKey}
use Rattle.chain_types.specs.declared.refusals.DecideRefusal.TheVariants as refused
use Rattle.chain_types.specs.declared.transactions.Transaction.{Transaction}
use Rattle.chain_types.specs.Digests.{consumed_keys}
use Rattle.protocol_spec.specs.Chain.Words.{first_of, first_some, where_true}
use Rattle.protocol_spec.specs.Chain.Keys.{objects_of}
use Rattle.lock_table.specs.Locks.{Locks, locked_by, or_other, other_lock, unless_own}
use Rattle.protocol_spec.specs.Member.Votes.{Ballot, Cast, absent, consumed, gas_balance, is_lock, locked, no_gas, vote_refusal, wrong_digest, wrong_kind, wrong_owner}
use Rattle.version_store.specs.Stores.{Stored}
use Rattle.vote_rules.specs.Cases.{ballot_of}
use Rattle.vote_rules.specs.Decide.{StandFor, decide_refusal, locked_as}
use Rattle.vote_rules.proofs.Cases.{none_locked}

-- the last case of a list stands apart
last_apart : {A : Type 0} → (cases : List (Option A)) (none last : Option A) → none ≡ None → first_some (first_some (cases ++ none ∷ []) ∷ last ∷ []) ≡ first_some (cases ++ last ∷ [])
last_apart [] none last h = ap (λ o. first_some (first_some (o ∷ []) ∷ last ∷ [])) h
last_apart (Some x ∷ cases) none last h = refl
last_apart (None ∷ cases) none last h = last_apart cases none last h

-- of each key, the locks and the votes say the same
locked_key : (votes : List Cast) (tx : Digest) (key : ObjectKey) → option_map locked_as (option_map (λ (v : Cast). (key, v.digest)) (find (is_lock tx key) votes)) ≡ locked votes tx key
locked_key votes tx key = by (find (is_lock tx key) votes)
  where
    by : (o : Option Cast) → option_map locked_as (option_map (λ (v : Cast). (key, v.digest)) o) ≡ option_map (λ (v : Cast). refused.Locked key v.digest) o
    by None = refl
    by (Some v) = refl

or_first : (a b : Option (ObjectKey × Digest)) → option_map locked_as (or_other a b) ≡ first_some (option_map locked_as a ∷ option_map locked_as b ∷ [])
or_first None None = refl
or_first None (Some l) = refl
or_first (Some l) b = refl

locked_keys : (locks : Locks) (votes : List Cast) (tx : Digest) → StandFor locks votes → (keys : List ObjectKey) → option_map locked_as (other_lock locks tx keys) ≡ first_of (locked votes tx) keys
locked_keys locks votes tx stand [] = refl
locked_keys locks votes tx stand (k ∷ ks) =
    or_first (unless_own k tx (locked_by locks k)) (other_lock locks tx ks)
    ∙ ap (λ o. first_some (o ∷ option_map locked_as (other_lock locks tx ks) ∷ [])) (ap (option_map locked_as) (stand tx k) ∙ locked_key votes tx k)
    ∙ ap (λ o. first_some (locked votes tx k ∷ o ∷ [])) (locked_keys locks votes tx stand ks)

-- the rule over the locks is the rule over the votes that they stand for
pub decides_by_votes : (s : Stored) (locks : Locks) (votes : List Cast) (t : Transaction) (tx : Digest) → StandFor locks votes
    → decide_refusal s locks t tx ≡ vote_refusal (record { opening = s.opening; executed = s.executed; votes = votes }) t tx
unfolding vote_refusal
decides_by_votes s locks votes t tx stand =
    let b : Ballot = ballot_of s in
    last_apart
    (first_of (absent b) (objects_of t) ∷ first_of (consumed b) (consumed_keys t) ∷ first_of (wrong_digest b) (objects_of t) ∷ first_of (wrong_owner b t) (objects_of t)
    ∷ no_gas b t ∷ first_of (wrong_kind b) (objects_of t) ∷ where_true (nat_lt (gas_balance b t) t.budget) (refused.PoorGas (gas_balance b t) t.budget) ∷ [])
    (first_of (locked [] tx) (consumed_keys t)) (option_map locked_as (other_lock locks tx (consumed_keys t))) (none_locked (consumed_keys t) tx)
    ∙ ap
    (λ o. first_some
    (first_of (absent b) (objects_of t) ∷ first_of (consumed b) (consumed_keys t) ∷ first_of (wrong_digest b) (objects_of t) ∷ first_of (wrong_owner b t) (objects_of t)
    ∷ no_gas b t ∷ first_of (wrong_kind b) (objects_of t) ∷ where_true (nat_lt (gas_balance b t) t.budget) (refused.PoorGas (gas_balance b t) t.budget) ∷ o ∷ []))
    (locked_keys locks votes tx stand (consumed_keys t))
