-- What a store holds: the objects beside the maps, and the versions of the maps.
use Rattle.std.proofs.Common.{◌≡◌, ℕ, Bool, true, false, cond, ◌&&◌, ◌||◌, not, List, [], ◌∷◌, ◌++◌, Option, Some, None, is_some, map, refl, ap, sym, ◌∙◌, option_map, append_assoc}
use Rattle.std.specs.Prelude.{find, flat_map}
use Rattle.std.specs.List.{IsDistinct, list_any}
use Rattle.std.specs.Map.{keys_of, lookup}
use Rattle.std.proofs.lemmas.List.{map-append}
use Rattle.chain_types.specs.declared.objects.Object.{Object}
use Rattle.chain_types.specs.declared.objects.ObjectId.{ObjectId}
use Rattle.chain_types.specs.declared.objects.ObjectKey.{ObjectKey}
use Rattle.chain_types.specs.declared.objects.Producer.{Producer}
use Rattle.chain_types.specs.declared.objects.Producer.TheVariants as producers
use Rattle.chain_types.specs.Equal.{id_eq, key_eq}
use Rattle.protocol_spec.proofs.Truth.{or_else, or_false, and_true, some_mapped}
use Rattle.protocol_spec.specs.Chain.Tests.{producer_eq}
use Rattle.protocol_spec.specs.Chain.Words.{repeats}
use Rattle.protocol_spec.specs.Chain.Keys.{object_key}
use Rattle.protocol_spec.specs.Member.Versions.{Version, is_deleted, is_key, live, newest, object_in, opened, version_at, versions, written_by}
use Rattle.protocol_spec.specs.Member.Rounds.{found, holds_key, is_wanted}
use Rattle.version_store.specs.declared.maps.Kept.{Kept}
use Rattle.version_store.specs.declared.maps.Maps.{Maps}
use Rattle.version_store.specs.Stores.{Stored, are_new, held_in, wanted_of}
use Rattle.version_store.specs.Makers.{made_by}
use Rattle.version_store.specs.Kept.{stored}
use Rattle.version_store.specs.Bases.{IsHeld, at_version, based, over, stored_over}
use Rattle.version_store.proofs.Held.{got, kept_of}
use Rattle.version_store.proofs.Lists.{not_true}
use Rattle.version_store.proofs.Merging.{merge, newest_both, some_merged}
use Rattle.version_store.proofs.Makers.{found_in, found_opened}

-- the versions of a store are those of the objects, and then those of the maps
pub held_over : (objects : List Object) (s : Stored) → held_in (over objects s) ≡ map opened objects ++ held_in s
unfolding versions
held_over objects s =
    ap (λ vs. vs ++ flat_map written_by s.executed) (map-append opened objects s.opening)
    ∙ append_assoc (map opened objects) (map opened s.opening) (flat_map written_by s.executed)

find_both : {A : Type 0} → (test : A → Bool) (xs ys : List A) → find test (xs ++ ys) ≡ or_else (find test xs) (find test ys)
find_both test [] ys = refl
find_both test (x ∷ xs) ys = by (test x) (find_both test xs ys)
  where
    by : (b : Bool) → find test (xs ++ ys) ≡ or_else (find test xs) (find test ys) → cond b (Some x) (find test (xs ++ ys)) ≡ or_else (cond b (Some x) (find test xs)) (find test ys)
    by true more = refl
    by false more = more

pub any_both : {A : Type 0} → (test : A → Bool) (xs ys : List A) → list_any test (xs ++ ys) ≡ (list_any test xs || list_any test ys)
any_both test [] ys = refl
any_both test (x ∷ xs) ys = by (test x) (any_both test xs ys)
  where
    by : (b : Bool) → list_any test (xs ++ ys) ≡ (list_any test xs || list_any test ys) → (b || list_any test (xs ++ ys)) ≡ ((b || list_any test xs) || list_any test ys)
    by true more = refl
    by false more = more

any_found : {A : Type 0} → (test : A → Bool) (xs : List A) → list_any test xs ≡ is_some (find test xs)
any_found test [] = refl
any_found test (x ∷ xs) = by (test x) (any_found test xs)
  where
    by : (b : Bool) → list_any test xs ≡ is_some (find test xs) → (b || list_any test xs) ≡ is_some (cond b (Some x) (find test xs))
    by true more = refl
    by false more = more

module _ {turned : Bool} {entries : List (ObjectId × Object)} {opened_in : ℕ} {maps : Maps} {s : Stored} (held : IsHeld turned entries opened_in maps) (view : stored_over turned entries opened_in maps ≡ s) where
  abbrev before : List Version
  before = map opened (based turned entries)

  abbrev behind : List Version
  behind = held_in (stored opened_in maps)

  pub held_is : held_in s ≡ before ++ behind
  held_is = ap held_in (sym view) ∙ held_over (based turned entries) (stored opened_in maps)

  -- ---- a version

  pub version_is : (key : ObjectKey) → version_at (held_in s) key ≡ or_else (option_map opened (at_version key.version (lookup (id_eq key.id) entries))) (version_at behind key)
  version_is key =
      ap (λ vs. version_at vs key) held_is
      ∙ find_both (is_key key) before behind
      ∙ ap (λ v. or_else v (version_at behind key)) (held.at key)

  found_is : (key : ObjectKey) (p : Producer)
      → found (held_in s) (wanted_of key p) ≡ option_map object_in (or_else (option_map opened (cond (producer_eq producers.Opening p) (at_version key.version (lookup (id_eq key.id) entries)) None)) (find (is_wanted key (Some p)) behind))
  found_is key p =
      ap (λ vs. option_map object_in (find (is_wanted key (Some p)) vs)) held_is
      ∙ ap (option_map object_in) (find_both (is_wanted key (Some p)) before behind ∙ ap (λ v. or_else v (find (is_wanted key (Some p)) behind)) (first ∙ within (producer_eq producers.Opening p)))
    where
      first : find (is_wanted key (Some p)) before ≡ cond (producer_eq producers.Opening p) (option_map opened (at_version key.version (lookup (id_eq key.id) entries))) None
      first = found_opened key p (based turned entries) ∙ ap (λ v. cond (producer_eq producers.Opening p) v None) (held.at key)

      within : (b : Bool) → cond b (option_map opened (at_version key.version (lookup (id_eq key.id) entries))) None ≡ option_map opened (cond b (at_version key.version (lookup (id_eq key.id) entries)) None)
      within true = refl
      within false = refl

  -- what of a version is known from the objects
  pub known_before : {B : Type 0} → (says : Version → B) (key : ObjectKey) (o : Object) → Some o ≡ at_version key.version (lookup (id_eq key.id) entries)
      → Some (says (opened o)) ≡ option_map says (version_at (held_in s) key)
  known_before says key o found =
      sym (ap (option_map says) (version_is key ∙ ap (λ x. or_else (option_map opened x) (version_at behind key)) (sym found)))

  -- what of a version is known from the maps
  pub known_behind : {B : Type 0} → (says : Kept → B) (says_of : Version → B) → ((v : Version) → says (kept_of v) ≡ says_of v) → (key : ObjectKey) (o : Option Kept)
      → None ≡ at_version key.version (lookup (id_eq key.id) entries) → o ≡ lookup (key_eq key) maps.versions.entries → option_map says o ≡ option_map says_of (version_at (held_in s) key)
  known_behind says says_of same key o none found =
      got says says_of same behind maps.versions.entries key o held.kept.versions found
      ∙ sym (ap (option_map says_of) (version_is key ∙ ap (λ x. or_else (option_map opened x) (version_at behind key)) (sym none)))

  -- a version that a certain producer made
  pub found_first : (key : ObjectKey) (p : Producer) (o : Object) → Some o ≡ cond (producer_eq producers.Opening p) (at_version key.version (lookup (id_eq key.id) entries)) None
      → Some o ≡ found (held_in s) (wanted_of key p)
  found_first key p o is =
      ap (λ x. option_map object_in (or_else (option_map opened x) (find (is_wanted key (Some p)) behind))) is
      ∙ sym (found_is key p)

  pub found_later : (key : ObjectKey) (p : Producer) → None ≡ cond (producer_eq producers.Opening p) (at_version key.version (lookup (id_eq key.id) entries)) None
      → IsDistinct key_eq (keys_of maps.versions.entries) → made_by p (lookup (key_eq key) maps.versions.entries) ≡ found (held_in s) (wanted_of key p)
  found_later key p none apart =
      found_in behind maps.versions.entries key p held.kept.versions apart
      ∙ ap (λ x. option_map object_in (or_else (option_map opened x) (find (is_wanted key (Some p)) behind))) none
      ∙ sym (found_is key p)

  -- ---- the newest of an id

  pub newest_is : (id : ObjectId) → newest id (held_in s) ≡ merge (lookup (id_eq id) entries) (lookup (id_eq id) maps.newest.entries)
  newest_is id =
      ap (newest id) held_is
      ∙ newest_both id before behind
      ∙ ap (λ o. merge o (newest id behind)) (held.newest id)
      ∙ ap (merge (lookup (id_eq id) entries)) (sym (held.kept.newest id))

  pub has_is : (id : ObjectId) → (is_some (lookup (id_eq id) entries) || is_some (lookup (id_eq id) maps.newest.entries)) ≡ is_some (newest id (held_in s))
  has_is id = sym (ap is_some (newest_is id) ∙ some_merged (lookup (id_eq id) entries) (lookup (id_eq id) maps.newest.entries))

  pub deleted_is : (id : ObjectId) → list_any (id_eq id) maps.deleted.keys ≡ is_deleted s.executed id
  deleted_is id = held.kept.deleted id ∙ ap (λ (t : Stored). is_deleted t.executed id) view

  -- what is live, if it is known whether the id was deleted
  pub live_is : (id : ObjectId) (a b : Option Object) → list_any (id_eq id) maps.deleted.keys ≡ false → a ≡ lookup (id_eq id) entries → b ≡ lookup (id_eq id) maps.newest.entries
      → merge a b ≡ live s.opening s.executed id
  unfolding live
  live_is id a b not_deleted is more =
      ap (λ x. merge x b) is ∙ ap (merge (lookup (id_eq id) entries)) more ∙ sym (newest_is id)
      ∙ sym (ap (λ d. cond d None (newest id (held_in s))) (sym (deleted_is id) ∙ not_deleted))

-- a version is held if its object is
pub held_where : (held : List Version) (key : ObjectKey) (o : Option Object) → o ≡ option_map object_in (version_at held key) → is_some o ≡ holds_key held key
held_where held key o is = ap is_some is ∙ some_mapped object_in (version_at held key) ∙ sym (any_found (is_key key) held)

pub merge_none : (o : Option Object) → merge None o ≡ o
merge_none None = refl
merge_none (Some x) = refl

-- ---- new versions

none_of_both : (xs ys : List Version) (keys : List ObjectKey) → list_any (holds_key (xs ++ ys)) keys ≡ false → list_any (holds_key ys) keys ≡ false
none_of_both xs ys [] h = refl
none_of_both xs ys (k ∷ ks) h =
    let p : (holds_key (xs ++ ys) k ≡ false) × (list_any (holds_key (xs ++ ys)) ks ≡ false) = or_false (holds_key (xs ++ ys) k) (list_any (holds_key (xs ++ ys)) ks) h in
    let q : (holds_key xs k ≡ false) × (holds_key ys k ≡ false) = or_false (holds_key xs k) (holds_key ys k) (sym (any_both (is_key k) xs ys) ∙ p.0) in
    ap (λ b. b || list_any (holds_key ys) ks) q.1 ∙ none_of_both xs ys ks p.1

-- what is new is new for a part of what is held
pub new_behind : (xs ys : List Version) (objects : List Object) → are_new (xs ++ ys) objects ≡ true → are_new ys objects ≡ true
new_behind xs ys objects h =
    let keys : List ObjectKey = map object_key objects in
    let p : (not (list_any (holds_key (xs ++ ys)) keys) ≡ true) × (not (repeats key_eq keys) ≡ true) = and_true (not (list_any (holds_key (xs ++ ys)) keys)) (not (repeats key_eq keys)) h in
    ap (λ b. not b && not (repeats key_eq keys)) (none_of_both xs ys keys (not_true (list_any (holds_key (xs ++ ys)) keys) p.0)) ∙ p.1
