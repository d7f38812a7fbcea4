-- The newest version of each id, the deleted ids, and the transactions that consumed keys.
use Rattle.std.proofs.Common.{◌≡◌, Bool, true, false, cond, ◌||◌, List, [], ◌∷◌, ◌++◌, Option, Some, None, is_some, map, refl, ap, sym, ◌∙◌, option_map, append_assoc, append-nil, nat_lt}
use Rattle.std.specs.Prelude.{filter, fold}
use Rattle.std.specs.List.{list_any}
use Rattle.std.specs.Map.{lookup}
use Rattle.std.proofs.lemmas.List.{map-append}
use Rattle.std.proofs.lemmas.List.Elements.{filter-append}
use Rattle.std.proofs.lemmas.List.Sums.{fold-append}
use Rattle.indexmap.specs.IndexMap.{insert_entry}
use Rattle.indexmap.specs.IndexSet.{insert_all}
use Rattle.digest_core.specs.declared.Digest.{Digest}
use Rattle.chain_types.specs.declared.objects.Object.{Object}
use Rattle.chain_types.specs.declared.objects.ObjectId.{ObjectId}
use Rattle.chain_types.specs.declared.objects.ObjectKey.{ObjectKey}
use Rattle.chain_types.specs.declared.objects.Producer.{Producer}
use Rattle.chain_types.specs.Equal.{id_eq, key_eq}
use Rattle.protocol_spec.proofs.Equality.{id_same, key_same, test_turned, id_self, key_self}
use Rattle.protocol_spec.proofs.ListLemmas.{find_last, any_last}
use Rattle.protocol_spec.proofs.Truth.{or_else}
use Rattle.protocol_spec.specs.Chain.Tests.{has_id, has_key}
use Rattle.protocol_spec.specs.Member.Versions.{Execution, Version, is_id, newer, newest, object_in, is_deleted, consumer_of}
use Rattle.version_store.specs.Steps.{newer_of, with_newer, with_all_newer, with_consumer, with_consumers}
use Rattle.version_store.proofs.Held.{made}
use Rattle.tables.proofs.Lookups.{lookup_insert}
use Rattle.version_store.proofs.Lists.{any_insert_all}

-- ---- the newest version

newest_push : (id : ObjectId) (held : List Version) (v : Version) → newest id (held ++ v ∷ []) ≡ cond (is_id id v) (newer (newest id held) v.object) (newest id held)
newest_push id held v =
    ap (λ vs. fold newer None (map object_in vs)) (filter-append (is_id id) held (v ∷ []))
    ∙ ap (fold newer None) (map-append object_in (filter (is_id id) held) (filter (is_id id) (v ∷ [])))
    ∙ fold-append newer None (map object_in (filter (is_id id) held)) (map object_in (filter (is_id id) (v ∷ [])))
    ∙ by (is_id id v)
  where
    by : (b : Bool) → fold newer (newest id held) (map object_in (cond b (v ∷ []) [])) ≡ cond b (newer (newest id held) v.object) (newest id held)
    by true = refl
    by false = refl

pub newer_some : (known : Option Object) (o : Object) → Some (newer_of known o) ≡ newer known o
newer_some None o = refl
newer_some (Some p) o = by (nat_lt p.version o.version)
  where
    by : (b : Bool) → Some (cond b o p) ≡ cond b (Some o) (Some p)
    by true = refl
    by false = refl

-- one more object
pub newest_step : (live : List (ObjectId × Object)) (held : List Version) (producer : Producer) (o : Object) → ((id : ObjectId) → lookup (id_eq id) live ≡ newest id held)
    → (id : ObjectId) → lookup (id_eq id) (with_newer live o) ≡ newest id (held ++ made producer o ∷ [])
newest_step live held producer o is id =
    lookup_insert id_eq id_same id_self live o.id (newer_of (lookup (id_eq o.id) live) o) id
    ∙ at (id_eq id o.id) refl
    ∙ ap (λ b. cond b (newer (newest id held) o) (newest id held)) (test_turned id_eq id_same id_self id o.id)
    ∙ sym (newest_push id held (made producer o))
  where
    at : (b : Bool) → id_eq id o.id ≡ b → cond (id_eq id o.id) (Some (newer_of (lookup (id_eq o.id) live) o)) (lookup (id_eq id) live) ≡ cond (id_eq id o.id) (newer (newest id held) o) (newest id held)
    at true h =
        ap (λ b. cond b (Some (newer_of (lookup (id_eq o.id) live) o)) (lookup (id_eq id) live)) h
        ∙ ap (λ (i : ObjectId). Some (newer_of (lookup (id_eq i) live) o)) (sym (id_same id o.id h))
        ∙ newer_some (lookup (id_eq id) live) o
        ∙ ap (λ known. newer known o) (is id)
        ∙ sym (ap (λ b. cond b (newer (newest id held) o) (newest id held)) h)
    at false h =
        ap (λ b. cond b (Some (newer_of (lookup (id_eq o.id) live) o)) (lookup (id_eq id) live)) h
        ∙ is id
        ∙ sym (ap (λ b. cond b (newer (newest id held) o) (newest id held)) h)

-- all objects of one producer
pub newest_more : (objects : List Object) (live : List (ObjectId × Object)) (held : List Version) (producer : Producer) → ((id : ObjectId) → lookup (id_eq id) live ≡ newest id held)
    → (id : ObjectId) → lookup (id_eq id) (with_all_newer live objects) ≡ newest id (held ++ map (made producer) objects)
newest_more [] live held producer is id = is id ∙ ap (newest id) (sym (append-nil held))
newest_more (o ∷ os) live held producer is id =
    newest_more os (with_newer live o) (held ++ made producer o ∷ []) producer (newest_step live held producer o is) id
    ∙ ap (newest id) (append_assoc held (made producer o ∷ []) (map (made producer) os))

-- ---- deleted ids

-- after one more execution
pub deleted_more : (ids : List ObjectId) (executed : List Execution) (x : Execution) → ((id : ObjectId) → list_any (id_eq id) ids ≡ is_deleted executed id)
    → (id : ObjectId) → list_any (id_eq id) (insert_all id_eq ids x.gave.effects.deleted) ≡ is_deleted (executed ++ x ∷ []) id
deleted_more ids executed x is id =
    any_insert_all id_eq id_same x.gave.effects.deleted ids id
    ∙ ap (λ b. b || has_id x.gave.effects.deleted id) (is id)
    ∙ sym (any_last (λ (y : Execution). has_id y.gave.effects.deleted id) executed x)

-- ---- the transaction that consumed a key

consumed_one : (tx : Digest) (consumers : List (ObjectKey × Digest)) (k key : ObjectKey)
    → lookup (key_eq key) (with_consumer tx consumers k) ≡ or_else (lookup (key_eq key) consumers) (cond (key_eq key k) (Some tx) None)
consumed_one tx consumers k key = by (lookup (key_eq k) consumers) refl
  where
    here : (known : Option Digest) (b : Bool) → (b ≡ true → is_some known ≡ true) → known ≡ or_else known (cond b (Some tx) None)
    here (Some d) b f = refl
    here None false f = refl
    here None true f = absurd (no (f refl))
      where
        no : false ≡ true → ⊥
        no h = cc

    anew : (known : Option Digest) (b : Bool) → (b ≡ true → known ≡ None) → cond b (Some tx) known ≡ or_else known (cond b (Some tx) None)
    anew None b f = refl
    anew (Some d) false f = refl
    anew (Some d) true f = absurd (no (f refl))
      where
        no : Some d ≡ None → ⊥
        no h = cc

    by : (o : Option Digest) → lookup (key_eq k) consumers ≡ o
        → lookup (key_eq key) (with_consumer tx consumers k) ≡ or_else (lookup (key_eq key) consumers) (cond (key_eq key k) (Some tx) None)
    by (Some d) is =
        ap (λ o. lookup (key_eq key) (cond (is_some o) consumers (insert_entry key_eq consumers k tx))) is
        ∙ here (lookup (key_eq key) consumers) (key_eq key k) (λ h. ap is_some (ap (λ q. lookup (key_eq q) consumers) (key_same key k h) ∙ is))
    by None is =
        ap (λ o. lookup (key_eq key) (cond (is_some o) consumers (insert_entry key_eq consumers k tx))) is
        ∙ lookup_insert key_eq key_same key_self consumers k tx key
        ∙ anew (lookup (key_eq key) consumers) (key_eq key k) (λ h. ap (λ q. lookup (key_eq q) consumers) (key_same key k h) ∙ is)

consumed_all : (tx : Digest) (keys : List ObjectKey) (consumers : List (ObjectKey × Digest)) (key : ObjectKey)
    → lookup (key_eq key) (with_consumers tx consumers keys) ≡ or_else (lookup (key_eq key) consumers) (cond (has_key keys key) (Some tx) None)
consumed_all tx [] consumers key = or_none (lookup (key_eq key) consumers)
  where
    or_none : (o : Option Digest) → o ≡ or_else o None
    or_none None = refl
    or_none (Some d) = refl
consumed_all tx (k ∷ ks) consumers key =
    consumed_all tx ks (with_consumer tx consumers k) key
    ∙ ap (λ o. or_else o (cond (has_key ks key) (Some tx) None)) (consumed_one tx consumers k key)
    ∙ joined (lookup (key_eq key) consumers) (key_eq key k) (has_key ks key)
  where
    joined : (o : Option Digest) (a b : Bool) → or_else (or_else o (cond a (Some tx) None)) (cond b (Some tx) None) ≡ or_else o (cond (a || b) (Some tx) None)
    joined (Some d) a b = refl
    joined None true b = refl
    joined None false b = refl

-- after one more execution
pub consumed_more : (consumers : List (ObjectKey × Digest)) (executed : List Execution) (x : Execution)
    → ((key : ObjectKey) → lookup (key_eq key) consumers ≡ option_map (λ (y : Execution). y.digest) (consumer_of executed key))
    → (key : ObjectKey) → lookup (key_eq key) (with_consumers x.digest consumers x.consumed) ≡ option_map (λ (y : Execution). y.digest) (consumer_of (executed ++ x ∷ []) key)
consumed_more consumers executed x is key =
    consumed_all x.digest x.consumed consumers key
    ∙ ap (λ o. or_else o (cond (has_key x.consumed key) (Some x.digest) None)) (is key)
    ∙ joined (consumer_of executed key) (has_key x.consumed key)
    ∙ sym (ap (option_map (λ (y : Execution). y.digest)) (find_last (λ (y : Execution). has_key y.consumed key) executed x))
  where
    joined : (o : Option Execution) (b : Bool) → or_else (option_map (λ (y : Execution). y.digest) o) (cond b (Some x.digest) None) ≡ option_map (λ (y : Execution). y.digest) (or_else o (cond b (Some x) None))
    joined (Some y) b = refl
    joined None true = refl
    joined None false = refl
