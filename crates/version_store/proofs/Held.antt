-- The versions under their keys: look-ups, and what goes last.
use Rattle.std.proofs.Common.{◌≡◌, Bool, true, false, cond, ◌&&◌, ◌||◌, not, List, [], ◌∷◌, ◌++◌, Option, Some, None, is_some, map, refl, ap, sym, ◌∙◌, option_map, append_assoc, append-nil}
use Rattle.std.specs.Prelude.{flat_map}
use Rattle.std.specs.List.{list_any}
use Rattle.std.specs.Map.{lookup}
use Rattle.std.proofs.lemmas.List.{map-append}
use Rattle.std.proofs.lemmas.Grind.{flat_map-append}
use Rattle.tables.proofs.Lookups.{goes_last}
use Rattle.chain_types.specs.declared.objects.Object.{Object}
use Rattle.chain_types.specs.declared.objects.ObjectKey.{ObjectKey}
use Rattle.chain_types.specs.declared.objects.Producer.{Producer}
use Rattle.chain_types.specs.declared.objects.Producer.TheVariants as producers
use Rattle.chain_types.specs.Equal.{key_eq}
use Rattle.protocol_spec.proofs.Equality.{key_same, test_turned, key_self}
use Rattle.protocol_spec.proofs.ListLemmas.{any_last}
use Rattle.protocol_spec.proofs.Truth.{or_false, and_true}
use Rattle.protocol_spec.specs.Chain.Words.{repeats}
use Rattle.protocol_spec.specs.Chain.Keys.{object_key}
use Rattle.protocol_spec.specs.Member.Versions.{Execution, Version, versions, is_key, version_at, object_in, opened, written_by}
use Rattle.protocol_spec.specs.Member.Rounds.{holds_key}
use Rattle.version_store.specs.declared.maps.Kept.{Kept}
use Rattle.version_store.specs.Stores.{are_new}
use Rattle.version_store.specs.Kept.{kept_as, kept_object}
use Rattle.version_store.specs.Steps.{with_versions}
use Rattle.version_store.proofs.Lists.{not_true}

abbrev pub kept_of : Version → Kept
kept_of v = (kept_as v).1

-- a look-up in the map is a search among the versions
pub lookup_kept : (held : List Version) (key : ObjectKey) → lookup (key_eq key) (map kept_as held) ≡ option_map kept_of (version_at held key)
lookup_kept [] key = refl
lookup_kept (v ∷ vs) key =
    ap (λ b. cond b (Some (kept_of v)) (lookup (key_eq key) (map kept_as vs))) (test_turned key_eq key_same key_self key (object_key v.object))
    ∙ by (is_key key v) (lookup_kept vs key)
  where
    by : (b : Bool) → lookup (key_eq key) (map kept_as vs) ≡ option_map kept_of (version_at vs key)
        → cond b (Some (kept_of v)) (lookup (key_eq key) (map kept_as vs)) ≡ option_map kept_of (cond b (Some v) (version_at vs key))
    by true more = refl
    by false more = more

-- the objects of the entries
pub objects_kept : (held : List Version) → map kept_object (map kept_as held) ≡ map object_in held
objects_kept [] = refl
objects_kept (v ∷ vs) = ap (λ os. v.object ∷ os) (objects_kept vs)

-- a key that no version has is not a key of the map
absent : (held : List Version) (key : ObjectKey) → holds_key held key ≡ false → is_some (lookup (key_eq key) (map kept_as held)) ≡ false
absent [] key h = refl
absent (v ∷ vs) key h =
    let p : (is_key key v ≡ false) × (holds_key vs key ≡ false) = or_false (is_key key v) (holds_key vs key) h in
    ap (λ b. is_some (cond b (Some (kept_of v)) (lookup (key_eq key) (map kept_as vs)))) (test_turned key_eq key_same key_self key (object_key v.object) ∙ p.0)
    ∙ absent vs key p.1

-- keys that no version has, and that differ from the key of one more, are still new after it
still_new : (held : List Version) (v : Version) (keys : List ObjectKey) → list_any (holds_key held) keys ≡ false → list_any (key_eq (object_key v.object)) keys ≡ false
    → list_any (holds_key (held ++ v ∷ [])) keys ≡ false
still_new held v [] h i = refl
still_new held v (k ∷ ks) h i =
    let p : (holds_key held k ≡ false) × (list_any (holds_key held) ks ≡ false) = or_false (holds_key held k) (list_any (holds_key held) ks) h in
    let q : (key_eq (object_key v.object) k ≡ false) × (list_any (key_eq (object_key v.object)) ks ≡ false) = or_false (key_eq (object_key v.object) k) (list_any (key_eq (object_key v.object)) ks) i in
    ap (λ b. b || list_any (holds_key (held ++ v ∷ [])) ks) (any_last (is_key k) held v ∙ ap (λ b. b || is_key k v) p.0 ∙ q.0)
    ∙ still_new held v ks p.1 q.1

abbrev pub made : Producer → Object → Version
made producer o = record { object = o; producer = producer }

-- what of new objects is new after the first of them
record First (held : List Version) (o : Object) (os : List Object) : Type 0 where
  free : holds_key held (object_key o) ≡ false
  rest : (producer : Producer) → are_new (held ++ made producer o ∷ []) os ≡ true

first_new : (held : List Version) (o : Object) (os : List Object) → are_new held (o ∷ os) ≡ true → First held o os
first_new held o os h =
    let keys : List ObjectKey = map object_key os in
    let p : (not (holds_key held (object_key o) || list_any (holds_key held) keys) ≡ true) × (not (list_any (key_eq (object_key o)) keys || repeats key_eq keys) ≡ true) =
    and_true (not (holds_key held (object_key o) || list_any (holds_key held) keys)) (not (list_any (key_eq (object_key o)) keys || repeats key_eq keys)) h in
    let f : (holds_key held (object_key o) ≡ false) × (list_any (holds_key held) keys ≡ false) =
    or_false (holds_key held (object_key o)) (list_any (holds_key held) keys) (not_true (holds_key held (object_key o) || list_any (holds_key held) keys) p.0) in
    let r : (list_any (key_eq (object_key o)) keys ≡ false) × (repeats key_eq keys ≡ false) =
    or_false (list_any (key_eq (object_key o)) keys) (repeats key_eq keys) (not_true (list_any (key_eq (object_key o)) keys || repeats key_eq keys) p.1) in
    record {
      free = f.0;
      rest = λ producer.
          ap (λ b. not b && not (repeats key_eq keys)) (still_new held (made producer o) keys f.1 r.0) ∙ ap not r.1;
    }

-- new objects go last
pub new_go_last : (producer : Producer) (held : List Version) (objects : List Object) → are_new held objects ≡ true
    → with_versions producer (map kept_as held) objects ≡ map kept_as (held ++ map (made producer) objects)
new_go_last producer held [] h = ap (map kept_as) (sym (append-nil held))
new_go_last producer held (o ∷ os) h =
    let f : First held o os = first_new held o os h in
    ap (λ es. with_versions producer es os) (goes_last key_eq (map kept_as held) (object_key o) (kept_of (made producer o)) (absent held (object_key o) f.free) ∙ sym (map-append kept_as held (made producer o ∷ [])))
    ∙ new_go_last producer (held ++ made producer o ∷ []) os (f.rest producer)
    ∙ ap (map kept_as) (append_assoc held (made producer o ∷ []) (map (made producer) os))

-- the versions after one more execution
pub versions_more : (opening : List Object) (executed : List Execution) (x : Execution) → versions opening (executed ++ x ∷ []) ≡ versions opening executed ++ map (made (producers.Tx x.digest)) x.gave.objects
unfolding versions
versions_more opening executed x =
    ap (λ vs. map opened opening ++ vs) (flat_map-append written_by executed (x ∷ []) ∙ ap (λ vs. flat_map written_by executed ++ vs) (append-nil (written_by x)))
    ∙ sym (append_assoc (map opened opening) (flat_map written_by executed) (written_by x))

-- the versions of an epoch that has just opened
pub versions_opened : (opening : List Object) → versions opening [] ≡ map (made producers.Opening) opening
unfolding versions
versions_opened opening = append-nil (map opened opening)

pub objects_made : (producer : Producer) (objects : List Object) → map object_in (map (made producer) objects) ≡ objects
objects_made producer [] = refl
objects_made producer (o ∷ os) = ap (λ xs. o ∷ xs) (objects_made producer os)

-- what a look-up found
pub got : {B : Type 0} → (says : Kept → B) (says_of : Version → B) → ((v : Version) → says (kept_of v) ≡ says_of v) → (held : List Version) (entries : List (ObjectKey × Kept)) (key : ObjectKey) (o : Option Kept)
    → entries ≡ map kept_as held → o ≡ lookup (key_eq key) entries → option_map says o ≡ option_map says_of (version_at held key)
got says says_of same held entries key o is found =
    ap (option_map says) (found ∙ ap (lookup (key_eq key)) is ∙ lookup_kept held key) ∙ both (version_at held key)
  where
    both : (v : Option Version) → option_map says (option_map kept_of v) ≡ option_map says_of v
    both None = refl
    both (Some v) = ap Some (same v)
