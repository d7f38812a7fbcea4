-- The first fork, and the first holder of each version, after one more certificate.
use Rattle.std.proofs.Common.{◌≡◌, Bool, true, false, cond, ◌||◌, List, [], ◌∷◌, ◌++◌, Option, Some, None, is_some, refl, ap, sym, ◌∙◌, option_map, append_assoc, append-nil}
use Rattle.std.specs.Prelude.{find}
use Rattle.std.specs.Option.{option_or}
use Rattle.std.specs.Map.{lookup}
use Rattle.std.proofs.lemmas.List.Folds.{find-append}
use Rattle.indexmap.specs.IndexMap.{insert_entry}
use Rattle.tables.proofs.Lookups.{goes_last}
use Rattle.digest_core.specs.declared.Digest.{Digest}
use Rattle.chain_types.specs.declared.objects.ObjectKey.{ObjectKey}
use Rattle.chain_types.specs.Equal.{key_eq}
use Rattle.chain_types.specs.Digests.{consumed_keys}
use Rattle.protocol_spec.proofs.Equality.{key_same}
use Rattle.protocol_spec.specs.Chain.Words.{first_of, first_some}
use Rattle.protocol_spec.specs.Chain.Tests.{has_key}
use Rattle.protocol_spec.specs.declared.answers.Held.{Held}
use Rattle.protocol_spec.specs.Member.Member.{Fork, consumes, fork_at, fork_in, fork_with}
use Rattle.vote_rules.specs.Holders.{digest_of, fork_by, meets, sides, with_holder, with_holders}

-- ---- the first fork

-- after one more certificate it is the one before, or the fork of this certificate with those before
forks_behind : (earlier hs : List Held) (h : Held) → fork_in earlier (hs ++ h ∷ []) ≡ first_some (fork_in earlier hs ∷ fork_with (earlier ++ hs) h ∷ [])
forks_behind earlier [] h = alone (fork_with earlier h) ∙ sym (ap (λ hs. first_some (None ∷ fork_with hs h ∷ [])) (append-nil earlier))
  where
    alone : (o : Option Fork) → first_some (o ∷ None ∷ []) ≡ first_some (None ∷ o ∷ [])
    alone None = refl
    alone (Some f) = refl
forks_behind earlier (g ∷ gs) h =
    ap (λ o. first_some (fork_with earlier g ∷ o ∷ [])) (forks_behind (earlier ++ g ∷ []) gs h)
    ∙ ap (λ hs. first_some (fork_with earlier g ∷ first_some (fork_in (earlier ++ g ∷ []) gs ∷ fork_with hs h ∷ []) ∷ [])) (append_assoc earlier (g ∷ []) gs)
    ∙ regroup (fork_with earlier g) (fork_in (earlier ++ g ∷ []) gs) (fork_with (earlier ++ g ∷ gs) h)
  where
    regroup : (a b c : Option Fork) → first_some (a ∷ first_some (b ∷ c ∷ []) ∷ []) ≡ first_some (first_some (a ∷ b ∷ []) ∷ c ∷ [])
    regroup (Some f) b c = refl
    regroup None (Some f) c = refl
    regroup None None None = refl
    regroup None None (Some f) = refl

abbrev fork_as : ObjectKey → Held → Held → Fork
fork_as k h e = record { key = k; first = e.digest; second = h.digest }

-- a certificate's fork, by the version that it meets first
fork_met : (hs : List Held) (h : Held) (keys : List ObjectKey) → option_map sides (first_of (fork_at hs h) keys) ≡ fork_by h.digest (first_of (meets hs) keys)
fork_met hs h [] = refl
fork_met hs h (k ∷ ks) = by (find (consumes k) hs) (first_of (fork_at hs h) ks) (first_of (meets hs) ks) (fork_met hs h ks)
  where
    by : (o : Option Held) (a : Option Fork) (b : Option (ObjectKey × Digest)) → option_map sides a ≡ fork_by h.digest b
        → option_map sides (first_some (option_map (fork_as k h) o ∷ a ∷ []))
        ≡ fork_by h.digest (first_some (option_map (λ (e : Held). (k, e.digest)) o ∷ b ∷ []))
    by (Some e) a b more = refl
    by None a b more = ap (option_map sides) (last a) ∙ more ∙ sym (ap (fork_by h.digest) (last b))
      where
        last : {A : Type 0} → (o : Option A) → first_some (o ∷ []) ≡ o
        last None = refl
        last (Some x) = refl

pub fork_more : (hs : List Held) (h : Held) → first_some (option_map sides (fork_in [] hs) ∷ fork_by h.digest (first_of (meets hs) (consumed_keys h.cert.tx)) ∷ []) ≡ option_map sides (fork_in [] (hs ++ h ∷ []))
fork_more hs h =
    ap (λ o. first_some (option_map sides (fork_in [] hs) ∷ o ∷ [])) (sym (fork_met hs h (consumed_keys h.cert.tx)))
    ∙ mapped (fork_in [] hs) (fork_with hs h)
    ∙ sym (ap (option_map sides) (forks_behind [] hs h))
  where
    mapped : (a b : Option Fork) → first_some (option_map sides a ∷ option_map sides b ∷ []) ≡ option_map sides (first_some (a ∷ b ∷ []))
    mapped (Some f) b = refl
    mapped None None = refl
    mapped None (Some f) = refl

-- ---- the first holder of each version

behind : (es : List (ObjectKey × Digest)) (k : ObjectKey) (tx : Digest) (key : ObjectKey) → lookup (key_eq key) (es ++ (k, tx) ∷ []) ≡ option_or (lookup (key_eq key) es) (cond (key_eq key k) (Some tx) None)
behind [] k tx key = refl
behind (e ∷ es) k tx key = by (key_eq key e.0) (behind es k tx key)
  where
    by : (b : Bool) → lookup (key_eq key) (es ++ (k, tx) ∷ []) ≡ option_or (lookup (key_eq key) es) (cond (key_eq key k) (Some tx) None)
        → cond b (Some e.1) (lookup (key_eq key) (es ++ (k, tx) ∷ [])) ≡ option_or (cond b (Some e.1) (lookup (key_eq key) es)) (cond (key_eq key k) (Some tx) None)
    by true more = refl
    by false more = more

one_holder : (tx : Digest) (es : List (ObjectKey × Digest)) (k key : ObjectKey) → lookup (key_eq key) (with_holder tx es k) ≡ option_or (lookup (key_eq key) es) (cond (key_eq key k) (Some tx) None)
one_holder tx es k key = by (lookup (key_eq k) es) refl
  where
    known : (d : Digest) (o : Option Digest) (b : Bool) → (b ≡ true → o ≡ Some d) → o ≡ option_or o (cond b (Some tx) None)
    known d (Some x) b is = refl
    known d None false is = refl
    known d None true is = absurd (no (is refl))
      where
        no : None ≡ Some d → ⊥
        no h = cc

    by : (o : Option Digest) → lookup (key_eq k) es ≡ o → lookup (key_eq key) (with_holder tx es k) ≡ option_or (lookup (key_eq key) es) (cond (key_eq key k) (Some tx) None)
    by (Some d) is =
        ap (λ o. lookup (key_eq key) (cond (is_some o) es (insert_entry key_eq es k tx))) is
        ∙ known d (lookup (key_eq key) es) (key_eq key k) (λ h. ap (λ q. lookup (key_eq q) es) (key_same key k h) ∙ is)
    by None is =
        ap (λ o. lookup (key_eq key) (cond (is_some o) es (insert_entry key_eq es k tx))) is
        ∙ ap (lookup (key_eq key)) (goes_last key_eq es k tx (ap is_some is))
        ∙ behind es k tx key

all_holders : (tx : Digest) (keys : List ObjectKey) (es : List (ObjectKey × Digest)) (key : ObjectKey) → lookup (key_eq key) (with_holders tx es keys) ≡ option_or (lookup (key_eq key) es) (cond (has_key keys key) (Some tx) None)
all_holders tx [] es key = none (lookup (key_eq key) es)
  where
    none : (o : Option Digest) → o ≡ option_or o None
    none None = refl
    none (Some d) = refl
all_holders tx (k ∷ ks) es key =
    all_holders tx ks (with_holder tx es k) key
    ∙ ap (λ o. option_or o (cond (has_key ks key) (Some tx) None)) (one_holder tx es k key)
    ∙ joined (lookup (key_eq key) es) (key_eq key k) (has_key ks key)
  where
    joined : (o : Option Digest) (a b : Bool) → option_or (option_or o (cond a (Some tx) None)) (cond b (Some tx) None) ≡ option_or o (cond (a || b) (Some tx) None)
    joined (Some d) a b = refl
    joined None true b = refl
    joined None false b = refl

pub holder_more : (es : List (ObjectKey × Digest)) (hs : List Held) (h : Held) → ((key : ObjectKey) → lookup (key_eq key) es ≡ option_map digest_of (find (consumes key) hs))
    → (key : ObjectKey) → lookup (key_eq key) (with_holders h.digest es (consumed_keys h.cert.tx)) ≡ option_map digest_of (find (consumes key) (hs ++ h ∷ []))
holder_more es hs h is key =
    all_holders h.digest (consumed_keys h.cert.tx) es key
    ∙ ap (λ o. option_or o (cond (consumes key h) (Some h.digest) None)) (is key)
    ∙ mapped (find (consumes key) hs) (consumes key h)
    ∙ sym (ap (option_map digest_of) (find-append (consumes key) hs (h ∷ [])))
  where
    mapped : (o : Option Held) (b : Bool) → option_or (option_map digest_of o) (cond b (Some h.digest) None) ≡ option_map digest_of (option_or o (cond b (Some h) None))
    mapped (Some x) b = refl
    mapped None true = refl
    mapped None false = refl
