-- The version of a key that a certain producer made, if each key is held once.
use Rattle.std.proofs.Common.{◌≡◌, Bool, true, false, cond, ◌&&◌, List, [], ◌∷◌, Option, Some, None, map, refl, ap, sym, subst, ◌∙◌, option_map}
use Rattle.std.specs.Prelude.{find}
use Rattle.std.specs.List.{AllByRecursion, IsDistinct}
use Rattle.std.specs.Map.{lookup, keys_of}
use Rattle.std.proofs.lemmas.Map.Keys.{IsDistinct-head, IsDistinct-tail}
use Rattle.chain_types.specs.declared.objects.Object.{Object}
use Rattle.chain_types.specs.declared.objects.ObjectKey.{ObjectKey}
use Rattle.chain_types.specs.declared.objects.Producer.{Producer}
use Rattle.chain_types.specs.declared.objects.Producer.TheVariants as producers
use Rattle.chain_types.specs.Equal.{key_eq}
use Rattle.protocol_spec.proofs.Equality.{key_same, test_turned, key_self}
use Rattle.protocol_spec.specs.Chain.Tests.{producer_eq}
use Rattle.protocol_spec.specs.Chain.Keys.{object_key}
use Rattle.protocol_spec.specs.Member.Versions.{Version, is_key, object_in, opened, version_at}
use Rattle.protocol_spec.specs.Member.Rounds.{is_wanted}
use Rattle.version_store.specs.declared.maps.Kept.{Kept}
use Rattle.version_store.specs.Kept.{kept_as}
use Rattle.version_store.specs.Makers.{made_by}
use Rattle.version_store.proofs.Held.{kept_of, lookup_kept}

-- no version of the key is after one of this key
none_behind : (key : ObjectKey) (p : Producer) (v : Version) (vs : List Version) → object_key v.object ≡ key
    → AllByRecursion (λ y. key_eq (object_key v.object) y ≡ false) (keys_of (map kept_as vs)) → find (is_wanted key (Some p)) vs ≡ None
none_behind key p v [] is apart = refl
none_behind key p v (w ∷ vs) is apart =
    ap (λ b. cond (b && producer_eq w.producer p) (Some w) (find (is_wanted key (Some p)) vs))
    (ap (λ k. key_eq (object_key w.object) k) (sym is) ∙ test_turned key_eq key_same key_self (object_key w.object) (object_key v.object) ∙ apart.0)
    ∙ none_behind key p v vs is apart.1

found_among : (key : ObjectKey) (p : Producer) (held : List Version) → IsDistinct key_eq (keys_of (map kept_as held))
    → made_by p (option_map kept_of (version_at held key)) ≡ option_map object_in (find (is_wanted key (Some p)) held)
found_among key p [] apart = refl
found_among key p (v ∷ vs) apart =
    go (is_key key v) refl (found_among key p vs (IsDistinct-tail key_eq (object_key v.object) (keys_of (map kept_as vs)) apart))
  where
    front : AllByRecursion (λ y. key_eq (object_key v.object) y ≡ false) (keys_of (map kept_as vs))
    front = IsDistinct-head key_eq (object_key v.object) (keys_of (map kept_as vs)) apart

    here : (b : Bool) → object_key v.object ≡ key → cond b (Some v.object) None ≡ option_map object_in (cond b (Some v) (find (is_wanted key (Some p)) vs))
    here true is = refl
    here false is = sym (ap (option_map object_in) (none_behind key p v vs is front))

    go : (b : Bool) → is_key key v ≡ b → made_by p (option_map kept_of (version_at vs key)) ≡ option_map object_in (find (is_wanted key (Some p)) vs)
        → made_by p (option_map kept_of (cond b (Some v) (version_at vs key))) ≡ option_map object_in (cond (b && producer_eq v.producer p) (Some v) (find (is_wanted key (Some p)) vs))
    go true is more = here (producer_eq v.producer p) (key_same (object_key v.object) key is)
    go false is more = more

-- a look-up in the map, if this producer made it
pub found_in : (held : List Version) (entries : List (ObjectKey × Kept)) (key : ObjectKey) (p : Producer) → entries ≡ map kept_as held → IsDistinct key_eq (keys_of entries)
    → made_by p (lookup (key_eq key) entries) ≡ option_map object_in (find (is_wanted key (Some p)) held)
found_in held entries key p is apart =
    ap (made_by p) (ap (lookup (key_eq key)) is ∙ lookup_kept held key)
    ∙ found_among key p held (subst (λ es. IsDistinct key_eq (keys_of es)) is apart)

-- of opening objects each was made so
pub found_opened : (key : ObjectKey) (p : Producer) (objects : List Object)
    → find (is_wanted key (Some p)) (map opened objects) ≡ cond (producer_eq producers.Opening p) (version_at (map opened objects) key) None
found_opened key p [] = by (producer_eq producers.Opening p)
  where
    by : (b : Bool) → let none : Option Version = None in none ≡ cond b None None
    by true = refl
    by false = refl
found_opened key p (o ∷ os) =
    ap (cond (is_key key (opened o) && producer_eq producers.Opening p) (Some (opened o))) (found_opened key p os)
    ∙ by (is_key key (opened o)) (producer_eq producers.Opening p)
  where
    by : (a b : Bool) → cond (a && b) (Some (opened o)) (cond b (version_at (map opened os) key) None) ≡ cond b (cond a (Some (opened o)) (version_at (map opened os) key)) None
    by true true = refl
    by true false = refl
    by false b = refl
