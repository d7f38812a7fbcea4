-- What blame says of two certificates.
use Rattle.std.proofs.Common.{◌≡◌, ◌∙◌, ℕ, Bool, true, false, List, [], ◌∷◌, Option, Some, None, refl, sym, ap, subst, inl, inr, filter, cond}
use Rattle.std.specs.Prelude.{◌==◌, not, option_map}
use Rattle.std.proofs.lemmas.Bool.{eqb-true}
use Rattle.chain_types.specs.declared.objects.ObjectKey.{ObjectKey}
use Rattle.chain_types.specs.Equal.{digest_eq}
use Rattle.chain_types.specs.Digests.{consumed_keys, transaction_digest}
use Rattle.chain_messages.specs.declared.messages.Certificate.{Certificate}
use Rattle.quorum_core.specs.Committee.{is_among}
use Rattle.protocol_spec.proofs.Equality.{digest_self}
use Rattle.protocol_spec.specs.Chain.Words.{Has, where_true}
use Rattle.protocol_spec.specs.Chain.Tests.{has_key}
use Rattle.protocol_spec.proofs.ListLemmas.{and-first, and-second, not-true}
use Rattle.light_check.specs.declared.rivals.DoubleVote.{DoubleVote}
use Rattle.light_check.specs.Blamed.{are_rivals, blame_for, blamed, sealed_both, sealers, shared_key}
use Rattle.safety_law.proofs.Lists.{first-says}
use Rattle.safety_law.proofs.Forks.{has-key}
use Rattle.headline_law.proofs.Standing.{among-has}

-- ---- lists

kept_has : (test : ℕ → Bool) (xs : List ℕ) (m : ℕ) → Has (filter test xs) m → Has xs m × (test m ≡ true)
kept_has test [] m h = absurd h
kept_has test (x ∷ xs) m h = go (test x) refl h (kept_has test xs m)
  where
    behind : Has xs m × (test m ≡ true) → Has (x ∷ xs) m × (test m ≡ true)
    behind (h, t) = (inr h, t)

    go : (b : Bool) → test x ≡ b → Has (cond b (x ∷ filter test xs) (filter test xs)) m → (Has (filter test xs) m → Has xs m × (test m ≡ true)) → Has (x ∷ xs) m × (test m ≡ true)
    go true is (inl e) rest = (inl e, subst (λ (n : ℕ). test n ≡ true) e is)
    go true is (inr h) rest = behind (rest h)
    go false is h rest = behind (rest h)

-- ---- blame

-- two transactions of one epoch that consume one version, and the members that sealed for both
pub record IsDouble (c d : Certificate) (b : DoubleVote) : Type 0 where
  pub epoch : c.tx.epoch ≡ d.tx.epoch
  pub differ : transaction_digest c.tx ≡ transaction_digest d.tx → ⊥
  pub first : Has (consumed_keys c.tx) b.key
  pub second : Has (consumed_keys d.tx) b.key
  pub members : b.members ≡ sealed_both c d

rivals : (c d : Certificate) → are_rivals c d ≡ true → (c.tx.epoch ≡ d.tx.epoch) × (transaction_digest c.tx ≡ transaction_digest d.tx → ⊥)
rivals c d e = (
  eqb-true c.tx.epoch d.tx.epoch (and-first (c.tx.epoch == d.tx.epoch) (not (digest_eq (transaction_digest c.tx) (transaction_digest d.tx))) e),
  λ same. clash (sym (digest_self (transaction_digest c.tx)) ∙ ap (digest_eq (transaction_digest c.tx)) same ∙ not-true (digest_eq (transaction_digest c.tx) (transaction_digest d.tx)) (and-second (c.tx.epoch == d.tx.epoch) (not (digest_eq (transaction_digest c.tx) (transaction_digest d.tx))) e)),
)
  where
    clash : true ≡ false → ⊥
    clash h = absurd (cc)

shares : (c d : Certificate) (key : ObjectKey) → shared_key c d ≡ Some key → Has (consumed_keys c.tx) key × Has (consumed_keys d.tx) key
shares c d key e = from (first-says (λ (k : ObjectKey). where_true (has_key (consumed_keys c.tx) k) k) (consumed_keys d.tx) key e)
  where
    is_it : (k : ObjectKey) (b : Bool) → where_true b k ≡ Some key → (b ≡ true) × (k ≡ key)
    is_it k true e = (refl, cc)
    is_it k false e = absurd (cc)

    from : (k : ObjectKey) × Has (consumed_keys d.tx) k × (where_true (has_key (consumed_keys c.tx) k) k ≡ Some key) → Has (consumed_keys c.tx) key × Has (consumed_keys d.tx) key
    from (k, h, s) = let both = is_it k (has_key (consumed_keys c.tx) k) s in
        (subst (Has (consumed_keys c.tx)) both.1 (has-key (consumed_keys c.tx) k both.0), subst (Has (consumed_keys d.tx)) both.1 h)

pub blamed-is : (c d : Certificate) (b : DoubleVote) → blamed c d ≡ Some b → IsDouble c d b
blamed-is c d b e = go (are_rivals c d) refl (shared_key c d) refl e
  where
    go : (r : Bool) → are_rivals c d ≡ r → (o : Option ObjectKey) → shared_key c d ≡ o → cond r (option_map (blame_for c d) o) None ≡ Some b → IsDouble c d b
    go false is o at e = absurd (cc)
    go true is None at e = absurd (cc)
    go true is (Some key) at e =
        let same : blame_for c d key ≡ b = cc in
        let two = rivals c d is in
        let both = shares c d key at in
        subst (IsDouble c d) same (record { epoch = two.0; differ = two.1; first = both.0; second = both.1; members = refl })

-- each member that is blamed has a seal under both
pub sealed-first : (c d : Certificate) (m : ℕ) → Has (sealed_both c d) m → Has (sealers c) m
sealed-first c d m h = among-has (sealers c) m (kept_has (is_among (sealers c)) (sealers d) m h).1

pub sealed-second : (c d : Certificate) (m : ℕ) → Has (sealed_both c d) m → Has (sealers d) m
sealed-second c d m h = (kept_has (is_among (sealers c)) (sealers d) m h).0
