-- New versions, one after the other, are new together.
use Rattle.std.proofs.Common.{arith, ◌≡◌, ◌<◌, length, Bool, true, false, cond, ◌&&◌, ◌||◌, not, List, [], ◌∷◌, ◌++◌, map, refl, ap, ◌∙◌}
use Rattle.std.specs.List.{list_any}
use Rattle.chain_types.specs.declared.objects.Object.{Object}
use Rattle.chain_types.specs.declared.objects.ObjectKey.{ObjectKey}
use Rattle.chain_types.specs.Equal.{key_eq}
use Rattle.protocol_spec.proofs.Equality.{key_same, test_turned, key_self}
use Rattle.protocol_spec.proofs.ListLemmas.{any_last}
use Rattle.protocol_spec.specs.Chain.Words.{repeats}
use Rattle.protocol_spec.specs.Chain.Tests.{has_key}
use Rattle.protocol_spec.specs.Chain.Keys.{object_key}
use Rattle.protocol_spec.specs.Member.Versions.{Version}
use Rattle.protocol_spec.specs.Member.Rounds.{holds_key}
use Rattle.version_store.specs.Stores.{are_new}
use Rattle.version_store.specs.Fresh.{all_fresh}

-- of the keys, some were seen
abbrev seen_among : List ObjectKey → List ObjectKey → Bool
seen_among seen keys = list_any (has_key seen) keys

-- one more key was seen
seen_more : (seen : List ObjectKey) (k : ObjectKey) (keys : List ObjectKey) → seen_among (seen ++ k ∷ []) keys ≡ (seen_among seen keys || list_any (key_eq k) keys)
seen_more seen k [] = refl
seen_more seen k (q ∷ qs) =
    ap (λ b. b || seen_among (seen ++ k ∷ []) qs) (any_last (key_eq q) seen k ∙ ap (λ b. has_key seen q || b) (test_turned key_eq key_same key_self q k))
    ∙ ap (λ b. (has_key seen q || key_eq k q) || b) (seen_more seen k qs)
    ∙ shuffle (has_key seen q) (key_eq k q) (seen_among seen qs) (list_any (key_eq k) qs)
  where
    shuffle : (a b c d : Bool) → ((a || b) || (c || d)) ≡ ((a || c) || (b || d))
    shuffle true b c d = refl
    shuffle false true true d = refl
    shuffle false true false d = refl
    shuffle false false true d = refl
    shuffle false false false d = refl

pub fresh_as : (held : List Version) (seen : List ObjectKey) (objects : List Object)
    → all_fresh held seen objects ≡ (are_new held objects && not (seen_among seen (map object_key objects)))
fresh_as held seen [] = refl
fresh_as held seen (o ∷ os) =
    ap (λ b. cond (holds_key held (object_key o) || has_key seen (object_key o)) false b) (fresh_as held (seen ++ object_key o ∷ []) os ∙ ap (λ b. are_new held os && not b) (seen_more seen (object_key o) (map object_key os)))
    ∙ all (holds_key held (object_key o)) (has_key seen (object_key o)) (list_any (holds_key held) (map object_key os)) (repeats key_eq (map object_key os)) (seen_among seen (map object_key os)) (list_any (key_eq (object_key o)) (map object_key os))
  where
    all : (h s hs r ss k : Bool) → cond (h || s) false ((not hs && not r) && not (ss || k)) ≡ ((not (h || hs) && not (k || r)) && not (s || ss))
    all true s hs r ss k = refl
    all false true true r ss k = refl
    all false true false r ss true = refl
    all false true false true ss false = refl
    all false true false false ss false = refl
    all false false true r ss k = refl
    all false false false true ss true = refl
    all false false false true ss false = refl
    all false false false false true true = refl
    all false false false false true false = refl
    all false false false false false true = refl
    all false false false false false false = refl

-- nothing was seen before the first
pub fresh_is_new : (held : List Version) (objects : List Object) → all_fresh held [] objects ≡ are_new held objects
fresh_is_new held objects = fresh_as held [] objects ∙ ap (λ b. are_new held objects && not b) (none (map object_key objects)) ∙ with_true (are_new held objects)
  where
    none : (keys : List ObjectKey) → seen_among [] keys ≡ false
    none [] = refl
    none (k ∷ ks) = none ks

    with_true : (b : Bool) → (b && true) ≡ b
    with_true true = refl
    with_true false = refl

-- if nothing is left to look at, all are new
pub all_seen : (held : List Version) (seen : List ObjectKey) (rest objects : List Object) → length rest < 1 → all_fresh held seen rest ≡ all_fresh held [] objects → true ≡ are_new held objects
all_seen held seen [] objects none same = same ∙ fresh_is_new held objects
all_seen held seen (o ∷ os) objects none same = absurd (grind arith)

-- a version that comes again is not new
pub twice_old : (held : List Version) (o : Object) (os : List Object) → list_any (key_eq (object_key o)) (map object_key os) ≡ true → are_new held (o ∷ os) ≡ false
twice_old held o os again = ap (λ b. not (list_any (holds_key held) (map object_key (o ∷ os))) && not (b || repeats key_eq (map object_key os))) again ∙ never (not (list_any (holds_key held) (map object_key (o ∷ os))))
  where
    never : (b : Bool) → (b && false) ≡ false
    never true = refl
    never false = refl
