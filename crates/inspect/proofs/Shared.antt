-- Leaving out the certificates that share a version with none of the others loses no line.
use Rattle.std.proofs.Common.{◌≡◌, ◌∙◌, ◌⊎◌, inl, inr, ℕ, Bool, true, false, cond, List, [], ◌∷◌, ◌++◌, filter, fold, Option, Some, None, is_some, refl, sym, ap, subst}
use Rattle.std.specs.List.{flat_map, list_any}
use Rattle.indexmap.specs.IndexMap.{insert_entry}
use Rattle.chain_types.specs.declared.objects.ObjectKey.{ObjectKey}
use Rattle.chain_types.specs.Digests.{consumed_keys}
use Rattle.chain_types.specs.Equal.{key_eq}
use Rattle.chain_messages.specs.declared.messages.Certificate.{Certificate}
use Rattle.protocol_spec.proofs.Equality.{key_same}
use Rattle.protocol_spec.proofs.Truth.{or_right, or_left, or_true}
use Rattle.protocol_spec.specs.Chain.Tests.{has_key}
use Rattle.protocol_spec.specs.Chain.Words.{Each}
use Rattle.inspect.specs.Certified.{of_pairs}
use Rattle.inspect.specs.Uses.{Uses, is_more, is_shared, is_suspect, use_of, with_cert, with_use, with_uses}

-- ---- tests

apart : true ≡ false → ⊥
apart h = absurd (cc)

-- what holds of a key that is there holds of one of them
any_of : (p : ObjectKey → Bool) (keys : List ObjectKey) (q : ObjectKey) → has_key keys q ≡ true → p q ≡ true → list_any p keys ≡ true
any_of p [] q there h = absurd (apart (sym there))
any_of p (k ∷ keys) q there h = go (or_true (key_eq q k) (has_key keys q) there) (any_of p keys q)
  where
    go : (key_eq q k ≡ true) ⊎ (has_key keys q ≡ true) → (has_key keys q ≡ true → p q ≡ true → list_any p keys ≡ true) → list_any p (k ∷ keys) ≡ true
    go (inl is) rest = or_left (p k) (list_any p keys) (subst (λ (x : ObjectKey). p x ≡ true) (key_same q k is) h)
    go (inr behind) rest = or_right (p k) (list_any p keys) (rest behind h)

-- ---- one more use

put : (uses : Uses) (key : ObjectKey) (v : Bool) (q : ObjectKey) → use_of (insert_entry key_eq uses key v) q ≡ cond (key_eq q key) (Some v) (use_of uses q)
put [] key v q = refl
put (u ∷ us) key v q = by (key_eq key u.0) refl (put us key v q)
  where
    by : (b : Bool) → key_eq key u.0 ≡ b → use_of (insert_entry key_eq us key v) q ≡ cond (key_eq q key) (Some v) (use_of us q)
        → use_of (insert_entry key_eq (u ∷ us) key v) q ≡ cond (key_eq q key) (Some v) (use_of (u ∷ us) q)
    by true is more =
        let same : key_eq q key ≡ key_eq q u.0 = ap (key_eq q) (key_same key u.0 is) in
        ap (λ b. use_of (cond b ((u.0, v) ∷ us) (u ∷ insert_entry key_eq us key v)) q) is ∙ nest (key_eq q u.0) (Some v) (Some u.1) (use_of us q) ∙ ap (λ b. cond b (Some v) (cond (key_eq q u.0) (Some u.1) (use_of us q))) (sym same)
      where
        nest : (b : Bool) (x y z : Option Bool) → cond b x z ≡ cond b x (cond b y z)
        nest true x y z = refl
        nest false x y z = refl
    by false is more =
        ap (λ b. use_of (cond b ((u.0, v) ∷ us) (u ∷ insert_entry key_eq us key v)) q) is ∙ ap (λ o. cond (key_eq q u.0) (Some u.1) o) more ∙ turn (key_eq q u.0) refl (key_eq q key) refl
      where
        turn : (a : Bool) → key_eq q u.0 ≡ a → (b : Bool) → key_eq q key ≡ b → cond a (Some u.1) (cond b (Some v) (use_of us q)) ≡ cond b (Some v) (cond a (Some u.1) (use_of us q))
        turn true at true is_q = absurd (apart (sym (ap (λ (k : ObjectKey). key_eq k u.0) (sym (key_same q key is_q)) ∙ at) ∙ is))
        turn true at false is_q = refl
        turn false at true is_q = refl
        turn false at false is_q = refl

use_put : (uses : Uses) (key q : ObjectKey) → use_of (with_use uses key) q ≡ cond (key_eq q key) (Some (is_some (use_of uses key))) (use_of uses q)
use_put uses key q = put uses key (is_some (use_of uses key)) q

-- it is consumed
abbrev IsUsed : Uses → ObjectKey → Type 0
IsUsed uses q = is_some (use_of uses q) ≡ true

abbrev IsShared : Uses → ObjectKey → Type 0
IsShared uses q = is_shared uses q ≡ true

more_some : (o : Option Bool) → is_more o ≡ true → is_some o ≡ true
more_some None h = absurd (apart (sym h))
more_some (Some b) h = refl

used_still : (uses : Uses) (key q : ObjectKey) → IsUsed uses q → IsUsed (with_use uses key) q
used_still uses key q h = ap is_some (use_put uses key q) ∙ go (key_eq q key)
  where
    go : (b : Bool) → is_some (cond b (Some (is_some (use_of uses key))) (use_of uses q)) ≡ true
    go true = refl
    go false = h

used_now : (uses : Uses) (key q : ObjectKey) → key_eq q key ≡ true → IsUsed (with_use uses key) q
used_now uses key q is = ap is_some (use_put uses key q) ∙ ap (λ b. is_some (cond b (Some (is_some (use_of uses key))) (use_of uses q))) is

shared_now : (uses : Uses) (key q : ObjectKey) → key_eq q key ≡ true → IsUsed uses q → IsShared (with_use uses key) q
shared_now uses key q is h = ap is_more (use_put uses key q) ∙ ap (λ b. is_more (cond b (Some (is_some (use_of uses key))) (use_of uses q))) is ∙ subst (λ (k : ObjectKey). is_some (use_of uses k) ≡ true) (key_same q key is) h

shared_still : (uses : Uses) (key q : ObjectKey) → IsShared uses q → IsShared (with_use uses key) q
shared_still uses key q h = go (key_eq q key) refl
  where
    go : (b : Bool) → key_eq q key ≡ b → IsShared (with_use uses key) q
    go true is = shared_now uses key q is (more_some (use_of uses q) h)
    go false is = ap is_more (use_put uses key q) ∙ ap (λ b. is_more (cond b (Some (is_some (use_of uses key))) (use_of uses q))) is ∙ h

-- ---- the uses of one certificate

still_used : (keys : List ObjectKey) (uses : Uses) (q : ObjectKey) → IsUsed uses q → IsUsed (with_uses uses keys) q
still_used [] uses q h = h
still_used (key ∷ keys) uses q h = still_used keys (with_use uses key) q (used_still uses key q h)

still_shared : (keys : List ObjectKey) (uses : Uses) (q : ObjectKey) → IsShared uses q → IsShared (with_uses uses keys) q
still_shared [] uses q h = h
still_shared (key ∷ keys) uses q h = still_shared keys (with_use uses key) q (shared_still uses key q h)

now_used : (keys : List ObjectKey) (uses : Uses) (q : ObjectKey) → has_key keys q ≡ true → IsUsed (with_uses uses keys) q
now_used [] uses q there = absurd (apart (sym there))
now_used (key ∷ keys) uses q there = go (or_true (key_eq q key) (has_key keys q) there) (now_used keys (with_use uses key) q)
  where
    go : (key_eq q key ≡ true) ⊎ (has_key keys q ≡ true) → (has_key keys q ≡ true → IsUsed (with_uses uses (key ∷ keys)) q) → IsUsed (with_uses uses (key ∷ keys)) q
    go (inl is) rest = still_used keys (with_use uses key) q (used_now uses key q is)
    go (inr behind) rest = rest behind

now_shared : (keys : List ObjectKey) (uses : Uses) (q : ObjectKey) → IsUsed uses q → has_key keys q ≡ true → IsShared (with_uses uses keys) q
now_shared [] uses q h there = absurd (apart (sym there))
now_shared (key ∷ keys) uses q h there = go (or_true (key_eq q key) (has_key keys q) there) (now_shared keys (with_use uses key) q (used_still uses key q h))
  where
    go : (key_eq q key ≡ true) ⊎ (has_key keys q ≡ true) → (has_key keys q ≡ true → IsShared (with_uses uses (key ∷ keys)) q) → IsShared (with_uses uses (key ∷ keys)) q
    go (inl is) rest = still_shared keys (with_use uses key) q (shared_now uses key q is h)
    go (inr behind) rest = rest behind

all_shared : (cs : List Certificate) (uses : Uses) (q : ObjectKey) → IsShared uses q → IsShared (fold with_cert uses cs) q
all_shared [] uses q h = h
all_shared (c ∷ cs) uses q h = all_shared cs (with_cert uses c) q (still_shared (consumed_keys c.tx) uses q h)

-- ---- two certificates

-- each version of both is shared
abbrev Meet : Uses → Certificate → Certificate → Type 0
Meet all c d = (q : ObjectKey) → has_key (consumed_keys c.tx) q ≡ true → has_key (consumed_keys d.tx) q ≡ true → IsShared all q

-- one certificate and each after it
meet_each : (c : Certificate) (cs : List Certificate) (uses all : Uses) → ((q : ObjectKey) → has_key (consumed_keys c.tx) q ≡ true → IsUsed uses q) → fold with_cert uses cs ≡ all → Each (Meet all c) cs
meet_each c [] uses all used is = tt
meet_each c (d ∷ cs) uses all used is = (
  λ q first second. subst (λ (u : Uses). IsShared u q) is (all_shared cs (with_cert uses d) q (now_shared (consumed_keys d.tx) uses q (used q first) second)),
  meet_each c cs (with_cert uses d) all (λ q first. still_used (consumed_keys d.tx) uses q (used q first)) is,
)

-- nothing is said of certificates that share no version
abbrev pub IsQuiet : (Certificate → Certificate → List ℕ) → Type 0
IsQuiet says = (c d : Certificate) → ((q : ObjectKey) → has_key (consumed_keys c.tx) q ≡ true → has_key (consumed_keys d.tx) q ≡ true → ⊥) → says c d ≡ []

module _ (says : Certificate → Certificate → List ℕ) (quiet : IsQuiet says) (all : Uses) where
  first_alone : (c d : Certificate) → Meet all c d → is_suspect all c ≡ false → says c d ≡ []
  first_alone c d meet alone = quiet c d (λ q first second. apart (sym (any_of (is_shared all) (consumed_keys c.tx) q first (meet q first second)) ∙ alone))

  second_alone : (c d : Certificate) → Meet all c d → is_suspect all d ≡ false → says c d ≡ []
  second_alone c d meet alone = quiet c d (λ q first second. apart (sym (any_of (is_shared all) (consumed_keys d.tx) q second (meet q first second)) ∙ alone))

  none_said : (c : Certificate) (cs : List Certificate) → Each (Meet all c) cs → is_suspect all c ≡ false → flat_map (says c) cs ≡ []
  none_said c [] meet alone = refl
  none_said c (d ∷ cs) meet alone = ap (λ (xs : List ℕ). xs ++ flat_map (says c) cs) (first_alone c d meet.0 alone) ∙ none_said c cs meet.1 alone

  some_said : (c : Certificate) (cs : List Certificate) → Each (Meet all c) cs → flat_map (says c) (filter (is_suspect all) cs) ≡ flat_map (says c) cs
  some_said c [] meet = refl
  some_said c (d ∷ cs) meet = go (is_suspect all d) refl (some_said c cs meet.1)
    where
      go : (b : Bool) → is_suspect all d ≡ b → flat_map (says c) (filter (is_suspect all) cs) ≡ flat_map (says c) cs
          → flat_map (says c) (cond b (d ∷ filter (is_suspect all) cs) (filter (is_suspect all) cs)) ≡ flat_map (says c) (d ∷ cs)
      go true is more = ap (λ (xs : List ℕ). says c d ++ xs) more
      go false is more = more ∙ sym (ap (λ (xs : List ℕ). xs ++ flat_map (says c) cs) (second_alone c d meet.0 is))

  all_said : (cs : List Certificate) (uses : Uses) → fold with_cert uses cs ≡ all → of_pairs says (filter (is_suspect all) cs) ≡ of_pairs says cs
  all_said [] uses is = refl
  all_said (c ∷ cs) uses is =
      let meet : Each (Meet all c) cs = meet_each c cs (with_cert uses c) all (λ q first. now_used (consumed_keys c.tx) uses q first) is in
      go (is_suspect all c) refl meet (all_said cs (with_cert uses c) is)
    where
      go : (b : Bool) → is_suspect all c ≡ b → Each (Meet all c) cs → of_pairs says (filter (is_suspect all) cs) ≡ of_pairs says cs
          → of_pairs says (cond b (c ∷ filter (is_suspect all) cs) (filter (is_suspect all) cs)) ≡ of_pairs says (c ∷ cs)
      go true at meet more = ap (λ (xs : List ℕ). xs ++ of_pairs says (filter (is_suspect all) cs)) (some_said c cs meet) ∙ ap (λ (xs : List ℕ). flat_map (says c) cs ++ xs) more
      go false at meet more = more ∙ sym (ap (λ (xs : List ℕ). xs ++ of_pairs says cs) (none_said c cs meet at))

pub suspects_say_all : (says : Certificate → Certificate → List ℕ) → IsQuiet says → (cs : List Certificate) → of_pairs says (filter (is_suspect (fold with_cert [] cs)) cs) ≡ of_pairs says cs
suspects_say_all says quiet cs = all_said says quiet (fold with_cert [] cs) cs [] refl
