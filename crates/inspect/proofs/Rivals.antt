-- What is said of two certificates, as the code finds it.
use Rattle.std.proofs.Common.{◌≡◌, ◌<◌, ℕ, Bool, true, false, cond, List, [], ◌∷◌, filter, length, Option, Some, None, refl, sym, ap, subst, arith}
use Rattle.std.specs.Prelude.{◌&&◌, nat_lt, option_map}
use Rattle.std.proofs.lemmas.Bool.{ltb-true, lt-ltb}
use Rattle.chain_types.specs.Transactions as transactions
use Rattle.chain_types.specs.declared.objects.ObjectKey.{ObjectKey}
use Rattle.chain_types.specs.Digests.{consumed_keys}
use Rattle.chain_types.specs.Equal.{key_eq}
use Rattle.chain_messages.specs.Messages as messages
use Rattle.chain_messages.specs.declared.messages.Certificate.{Certificate}
use Rattle.wire_bcs.specs.Ascending.{ascends}
use Rattle.wire_bcs.proofs.InOrder.{ascends_after}
use Rattle.quorum_core.specs.Committee.{all_known, is_among, is_roll}
use Rattle.protocol_spec.proofs.Equality.{key_self}
use Rattle.protocol_spec.proofs.Truth.{and_true, or_right, or_left, both_true}
use Rattle.protocol_spec.specs.Chain.Tests.{has_key}
use Rattle.protocol_spec.specs.Chain.Words.{Each, first_of, first_some, where_true}
use Rattle.light_check.specs.declared.rivals.DoubleVote.{DoubleVote}
use Rattle.light_check.specs.Blamed.{are_rivals, blame_for, blamed, sealers, shared_key}
use Rattle.inspect.specs.Blame.{Names, double_text, pair_text}
use Rattle.inspect.specs.Found.{IsSound}
use Rattle.inspect.proofs.Shared.{IsQuiet}
use Rattle.committee_core.proofs.Agreeing.{clash}

-- ---- some members of a roll

-- all are above it
abbrev above : ℕ → List ℕ → Bool
above m [] = true
above m (x ∷ xs) = nat_lt m x && above m xs

above_less : (m n : ℕ) (xs : List ℕ) → nat_lt m n ≡ true → above n xs ≡ true → above m xs ≡ true
above_less m n [] less h = refl
above_less m n (x ∷ xs) less h =
    let p = and_true (nat_lt n x) (above n xs) h in
    let a : m < n = ltb-true m n less in
    let b : n < x = ltb-true n x p.0 in
    both_true (nat_lt m x) (above m xs) (lt-ltb m x (omega (arith, a, b))) (above_less m n xs less p.1)

all_above : (m : ℕ) (xs : List ℕ) → ascends (m ∷ xs) ≡ true → above m xs ≡ true
all_above m [] h = refl
all_above m (x ∷ xs) h = let p = and_true (nat_lt m x) (ascends (x ∷ xs)) h in
    both_true (nat_lt m x) (above m xs) p.0 (above_less m x xs p.0 (all_above x xs p.1))

above_kept : (test : ℕ → Bool) (m : ℕ) (xs : List ℕ) → above m xs ≡ true → above m (filter test xs) ≡ true
above_kept test m [] h = refl
above_kept test m (x ∷ xs) h = let p = and_true (nat_lt m x) (above m xs) h in go (test x) p.0 (above_kept test m xs p.1)
  where
    go : (b : Bool) → nat_lt m x ≡ true → above m (filter test xs) ≡ true → above m (cond b (x ∷ filter test xs) (filter test xs)) ≡ true
    go true here rest = both_true (nat_lt m x) (above m (filter test xs)) here rest
    go false here rest = rest

ascend_onto : (m : ℕ) (xs : List ℕ) → above m xs ≡ true → ascends xs ≡ true → ascends (m ∷ xs) ≡ true
ascend_onto m [] h a = refl
ascend_onto m (x ∷ xs) h a = both_true (nat_lt m x) (ascends (x ∷ xs)) (and_true (nat_lt m x) (above m xs) h).0 a

ascend_kept : (test : ℕ → Bool) (xs : List ℕ) → ascends xs ≡ true → ascends (filter test xs) ≡ true
ascend_kept test [] h = refl
ascend_kept test (x ∷ xs) h = go (test x) (above_kept test x xs (all_above x xs h)) (ascend_kept test xs (ascends_after x xs h))
  where
    go : (b : Bool) → above x (filter test xs) ≡ true → ascends (filter test xs) ≡ true → ascends (cond b (x ∷ filter test xs) (filter test xs)) ≡ true
    go true over rest = ascend_onto x (filter test xs) over rest
    go false over rest = rest

known_kept : (stakes : List ℕ) (test : ℕ → Bool) (xs : List ℕ) → all_known stakes xs ≡ true → all_known stakes (filter test xs) ≡ true
known_kept stakes test [] h = refl
known_kept stakes test (x ∷ xs) h = let p = and_true (nat_lt x (length stakes)) (all_known stakes xs) h in go (test x) p.0 (known_kept stakes test xs p.1)
  where
    go : (b : Bool) → nat_lt x (length stakes) ≡ true → all_known stakes (filter test xs) ≡ true → all_known stakes (cond b (x ∷ filter test xs) (filter test xs)) ≡ true
    go true here rest = both_true (nat_lt x (length stakes)) (all_known stakes (filter test xs)) here rest
    go false here rest = rest

roll_kept : (stakes : List ℕ) (test : ℕ → Bool) (xs : List ℕ) → is_roll stakes xs ≡ true → is_roll stakes (filter test xs) ≡ true
roll_kept stakes test xs h = let p = and_true (ascends xs) (all_known stakes xs) h in
    both_true (ascends (filter test xs)) (all_known stakes (filter test xs)) (ascend_kept test xs p.0) (known_kept stakes test xs p.1)

-- those who are blamed are a roll
pub double_roll : (stakes : List ℕ) (c d : Certificate) (b : DoubleVote) → IsSound stakes d → Some b ≡ blamed c d → is_roll stakes b.members ≡ true
double_roll stakes c d b sound is = go (are_rivals c d) (shared_key c d) is
  where
    go : (r : Bool) (o : Option ObjectKey) → Some b ≡ cond r (option_map (blame_for c d) o) None → is_roll stakes b.members ≡ true
    go false o e = absurd (clash (sym e))
    go true None e = absurd (clash (sym e))
    go true (Some key) e =
        let same : blame_for c d key ≡ b = cc (e) in
        subst (λ (x : DoubleVote). is_roll stakes x.members ≡ true) same (roll_kept stakes (is_among (sealers c)) (sealers d) sound.roll)

-- ---- certificates that share no version

none_shared : (keys others : List ObjectKey) → ((q : ObjectKey) → has_key keys q ≡ true → has_key others q ≡ true → ⊥) → first_of (λ key. where_true (has_key keys key) key) others ≡ None
none_shared keys [] apart = refl
none_shared keys (k ∷ others) apart =
    go (has_key keys k) refl (apart k) (none_shared keys others (λ q first second. apart q first (or_right (key_eq q k) (has_key others q) second)))
  where
    go : (b : Bool) → has_key keys k ≡ b → (has_key keys k ≡ true → has_key (k ∷ others) k ≡ true → ⊥) → first_of (λ key. where_true (has_key keys key) key) others ≡ None
        → first_some (where_true b k ∷ first_of (λ key. where_true (has_key keys key) key) others ∷ []) ≡ None
    go true is no_more rest = absurd (no_more is (or_left (key_eq k k) (has_key others k) (key_self k)))
    go false is no_more rest = ap (λ (o : Option ObjectKey). first_some (o ∷ [])) rest

pub quiet_pairs : (names : Names) (stakes : List ℕ) → IsQuiet (pair_text names stakes)
quiet_pairs names stakes c d apart = go (are_rivals c d) (none_shared (consumed_keys c.tx) (consumed_keys d.tx) apart)
  where
    go : (r : Bool) → shared_key c d ≡ None → double_text names stakes c d (cond r (option_map (blame_for c d) (shared_key c d)) None) ≡ []
    go true none_at = ap (λ (o : Option ObjectKey). double_text names stakes c d (option_map (blame_for c d) o)) none_at
    go false none_at = refl

-- ---- sound certificates

pub sound_short : (stakes : List ℕ) (c : Certificate) → IsSound stakes c → transactions.transaction.short c.tx
unfolding messages.certificate
sound_short stakes c sound = sound.short.0

pub sound_kept : (stakes : List ℕ) (test : Certificate → Bool) (cs : List Certificate) → Each (IsSound stakes) cs → Each (IsSound stakes) (filter test cs)
sound_kept stakes test [] all = tt
sound_kept stakes test (c ∷ cs) all = go (test c) all.0 (sound_kept stakes test cs all.1)
  where
    go : (b : Bool) → IsSound stakes c → Each (IsSound stakes) (filter test cs) → Each (IsSound stakes) (cond b (c ∷ filter test cs) (filter test cs))
    go true one rest = (one, rest)
    go false one rest = rest
