-- Objects under their ids, of which none comes twice: a look-up under an id is one among the objects.
use Rattle.std.proofs.Common.{◌≡◌, Bool, true, false, cond, ◌&&◌, List, [], ◌∷◌, Option, Some, None, map, refl, ap, ◌∙◌, option_map}
use Rattle.std.specs.Prelude.{filter, fold, ◌==◌}
use Rattle.std.specs.List.{AllByRecursion, IsDistinct}
use Rattle.std.specs.Map.{lookup, keys_of}
use Rattle.std.proofs.lemmas.Map.Keys.{IsDistinct-head, IsDistinct-tail}
use Rattle.chain_types.specs.declared.objects.Object.{Object}
use Rattle.chain_types.specs.declared.objects.ObjectId.{ObjectId}
use Rattle.chain_types.specs.declared.objects.ObjectKey.{ObjectKey}
use Rattle.chain_types.specs.Equal.{id_eq}
use Rattle.protocol_spec.proofs.Equality.{id_same, test_turned, id_self}
use Rattle.protocol_spec.specs.Chain.Words.{Each}
use Rattle.protocol_spec.specs.Member.Versions.{Version, is_id, is_key, newer, newest, object_in, opened, version_at}
use Rattle.version_store.specs.Bases.{at_version, object_under}
use Rattle.version_store.proofs.Merging.{HasId}

-- an object stands under its id
abbrev pub IsOwn : ObjectId × Object → Type 0
IsOwn e = e.1.id ≡ e.0

abbrev pub versions_of : List (ObjectId × Object) → List Version
versions_of entries = map opened (map object_under entries)

abbrev pub AreApart : List (ObjectId × Object) → Type 0
AreApart entries = IsDistinct id_eq (keys_of entries)

-- none of the rows has the id
none_under : (id : ObjectId) (entries : List (ObjectId × Object)) → AllByRecursion (λ y. id_eq id y ≡ false) (keys_of entries) → lookup (id_eq id) entries ≡ None
none_under id [] h = refl
none_under id (e ∷ es) h = ap (λ b. cond b (Some e.1) (lookup (id_eq id) es)) h.0 ∙ none_under id es h.1

-- the id of the first row does not come again after it
pub none_behind : (e : ObjectId × Object) (es : List (ObjectId × Object)) (id : ObjectId) → AreApart (e ∷ es) → id_eq id e.0 ≡ true → lookup (id_eq id) es ≡ None
none_behind e es id apart is = ap (λ i. lookup (id_eq i) es) (id_same id e.0 is) ∙ none_under e.0 es (IsDistinct-head id_eq e.0 (keys_of es) apart)

tail : (e : ObjectId × Object) (es : List (ObjectId × Object)) → AreApart (e ∷ es) → AreApart es
tail e es apart = IsDistinct-tail id_eq e.0 (keys_of es) apart

-- ---- the newest of an id is what stands under it

newest_behind : (id : ObjectId) (entries : List (ObjectId × Object)) → Each IsOwn entries → lookup (id_eq id) entries ≡ None → filter (is_id id) (versions_of entries) ≡ []
newest_behind id [] own none = refl
newest_behind id (e ∷ es) own none = by (id_eq id e.0) refl none (newest_behind id es own.1)
  where
    test : (b : Bool) → id_eq id e.0 ≡ b → is_id id (opened e.1) ≡ b
    test b is = ap (λ i. id_eq i id) own.0 ∙ test_turned id_eq id_same id_self e.0 id ∙ is

    by : (b : Bool) → id_eq id e.0 ≡ b → cond b (Some e.1) (lookup (id_eq id) es) ≡ None → (lookup (id_eq id) es ≡ None → filter (is_id id) (versions_of es) ≡ []) → filter (is_id id) (versions_of (e ∷ es)) ≡ []
    by true is none more = absurd (cc)
    by false is none more = ap (λ b. cond b (opened e.1 ∷ filter (is_id id) (versions_of es)) (filter (is_id id) (versions_of es))) (test false is) ∙ more none

pub newest_under : (id : ObjectId) (entries : List (ObjectId × Object)) → Each IsOwn entries → AreApart entries → newest id (versions_of entries) ≡ lookup (id_eq id) entries
newest_under id [] own apart = refl
newest_under id (e ∷ es) own apart = by (id_eq id e.0) refl (newest_under id es own.1 (tail e es apart))
  where
    test : (b : Bool) → id_eq id e.0 ≡ b → is_id id (opened e.1) ≡ b
    test b is = ap (λ i. id_eq i id) own.0 ∙ test_turned id_eq id_same id_self e.0 id ∙ is

    by : (b : Bool) → id_eq id e.0 ≡ b → newest id (versions_of es) ≡ lookup (id_eq id) es → newest id (versions_of (e ∷ es)) ≡ cond b (Some e.1) (lookup (id_eq id) es)
    by true is more =
        ap (λ b. fold newer None (map object_in (cond b (opened e.1 ∷ filter (is_id id) (versions_of es)) (filter (is_id id) (versions_of es))))) (test true is)
        ∙ ap (λ vs. fold newer (Some e.1) (map object_in vs)) (newest_behind id es own.1 (none_behind e es id apart is))
    by false is more = ap (λ b. fold newer None (map object_in (cond b (opened e.1 ∷ filter (is_id id) (versions_of es)) (filter (is_id id) (versions_of es))))) (test false is) ∙ more

-- ---- a version is what stands under its id, if that has this version

pub version_under : (key : ObjectKey) (entries : List (ObjectId × Object)) → Each IsOwn entries → AreApart entries
    → version_at (versions_of entries) key ≡ option_map opened (at_version key.version (lookup (id_eq key.id) entries))
version_under key [] own apart = refl
version_under key (e ∷ es) own apart = by (id_eq key.id e.0) refl (version_under key es own.1 (tail e es apart))
  where
    test : (b : Bool) → id_eq key.id e.0 ≡ b → is_key key (opened e.1) ≡ (b && (e.1.version == key.version))
    test b is = ap (λ i. id_eq i key.id && (e.1.version == key.version)) own.0 ∙ ap (λ c. c && (e.1.version == key.version)) (test_turned id_eq id_same id_self e.0 key.id ∙ is)

    here : (c : Bool) → version_at (versions_of es) key ≡ None → cond c (Some (opened e.1)) (version_at (versions_of es) key) ≡ option_map opened (cond c (Some e.1) None)
    here true none = refl
    here false none = none

    by : (b : Bool) → id_eq key.id e.0 ≡ b → version_at (versions_of es) key ≡ option_map opened (at_version key.version (lookup (id_eq key.id) es))
        → version_at (versions_of (e ∷ es)) key ≡ option_map opened (at_version key.version (cond b (Some e.1) (lookup (id_eq key.id) es)))
    by true is more =
        ap (λ b. cond b (Some (opened e.1)) (version_at (versions_of es) key)) (test true is)
        ∙ here (e.1.version == key.version) (more ∙ ap (λ o. option_map opened (at_version key.version o)) (none_behind e es key.id apart is))
    by false is more = ap (λ b. cond b (Some (opened e.1)) (version_at (versions_of es) key)) (test false is) ∙ more

-- ---- rows stand under their ids if what a look-up finds has the id

pub own_from_lookups : (entries : List (ObjectId × Object)) → AreApart entries → ((id : ObjectId) → HasId id (lookup (id_eq id) entries)) → Each IsOwn entries
own_from_lookups [] apart has = tt
own_from_lookups (e ∷ es) apart has = (first, own_from_lookups es (tail e es apart) (λ id. rest id (id_eq id e.0) refl (has id)))
  where
    first : e.1.id ≡ e.0
    first = at (id_eq e.0 e.0) (id_self e.0) (has e.0)
      where
        at : (b : Bool) → b ≡ true → HasId e.0 (cond b (Some e.1) (lookup (id_eq e.0) es)) → e.1.id ≡ e.0
        at true is h = h
        at false is h = absurd (cc)

    rest : (id : ObjectId) (b : Bool) → id_eq id e.0 ≡ b → HasId id (cond b (Some e.1) (lookup (id_eq id) es)) → HasId id (lookup (id_eq id) es)
    rest id true is h = gone (lookup (id_eq id) es) (none_behind e es id apart is)
      where
        gone : (o : Option Object) → o ≡ None → HasId id o
        gone None none = tt
        gone (Some o) none = absurd (cc)
    rest id false is h = h
