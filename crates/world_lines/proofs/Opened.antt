-- Objects without those whose id an earlier one has.
use Rattle.std.proofs.Common.{◌≡◌, Bool, true, false, cond, ◌||◌, List, [], ◌∷◌, ◌++◌, map, refl, ap, sym, ◌∙◌}
use Rattle.std.specs.Prelude.{fold}
use Rattle.std.specs.List.{list_any}
use Rattle.std.proofs.lemmas.List.{map-append}
use Rattle.chain_types.specs.declared.objects.Object.{Object}
use Rattle.chain_types.specs.declared.objects.ObjectId.{ObjectId}
use Rattle.chain_types.specs.Equal.{id_eq}
use Rattle.protocol_spec.proofs.Equality.{id_same, test_turned, id_self}
use Rattle.protocol_spec.proofs.ListLemmas.{any_last}
use Rattle.protocol_spec.proofs.Truth.{or_false}
use Rattle.protocol_spec.specs.Chain.Words.{repeats}
use Rattle.schedule_text.specs.declared.words.Setup.{Setup}
use Rattle.world_spec.specs.Setting.{objects_from, with_new}
use Rattle.world_lines.specs.Openings.{has_id, object_id}

-- an id is among those of the objects
seen_as : (objects : List Object) (o : Object) → has_id (map object_id objects) o.id ≡ list_any (λ (p : Object). id_eq p.id o.id) objects
seen_as [] o = refl
seen_as (p ∷ ps) o = ap (λ b. b || has_id (map object_id ps) o.id) (test_turned id_eq id_same id_self o.id p.id) ∙ ap (λ b. id_eq p.id o.id || b) (seen_as ps o)

new_if : (objects : List Object) (o : Object) (ids : List ObjectId) (b : Bool) → ids ≡ map object_id objects → has_id ids o.id ≡ b → with_new objects o ≡ cond b objects (objects ++ o ∷ [])
new_if objects o ids b same has = ap (λ c. cond c objects (objects ++ o ∷ [])) (sym (seen_as objects o) ∙ ap (λ xs. has_id xs o.id) (sym same) ∙ has)

pub left_out : (objects : List Object) (o : Object) (ids : List ObjectId) → ids ≡ map object_id objects → has_id ids o.id ≡ true → objects ≡ with_new objects o
left_out objects o ids same has = sym (new_if objects o ids true same has)

pub added : (objects new : List Object) (o : Object) (ids : List ObjectId) → ids ≡ map object_id objects → has_id ids o.id ≡ false → new ≡ objects ++ o ∷ [] → new ≡ with_new objects o
added objects new o ids same has is = is ∙ sym (new_if objects o ids false same has)

pub id_added : (objects new : List Object) (o : Object) (ids more : List ObjectId) → ids ≡ map object_id objects → more ≡ ids ++ o.id ∷ [] → new ≡ objects ++ o ∷ [] → more ≡ map object_id new
id_added objects new o ids more same is now = is ∙ ap (λ xs. xs ++ o.id ∷ []) same ∙ sym (ap (map object_id) now ∙ map-append object_id objects (o ∷ []))

-- ---- no id twice

repeats_push : (ids : List ObjectId) (k : ObjectId) → repeats id_eq ids ≡ false → list_any (λ q. id_eq q k) ids ≡ false → repeats id_eq (ids ++ k ∷ []) ≡ false
repeats_push [] k apart others = refl
repeats_push (q ∷ qs) k apart others =
    let n : (list_any (id_eq q) qs ≡ false) × (repeats id_eq qs ≡ false) = or_false (list_any (id_eq q) qs) (repeats id_eq qs) apart in
    let o : (id_eq q k ≡ false) × (list_any (λ p. id_eq p k) qs ≡ false) = or_false (id_eq q k) (list_any (λ p. id_eq p k) qs) others in
    ap (λ b. b || repeats id_eq (qs ++ k ∷ [])) (any_last (id_eq q) qs k ∙ ap (λ b. b || id_eq q k) n.0 ∙ o.0)
    ∙ repeats_push qs k n.1 o.1

among_ids : (objects : List Object) (o : Object) → list_any (λ q. id_eq q o.id) (map object_id objects) ≡ list_any (λ (p : Object). id_eq p.id o.id) objects
among_ids [] o = refl
among_ids (p ∷ ps) o = ap (λ b. id_eq p.id o.id || b) (among_ids ps o)

one_new : (objects : List Object) (o : Object) → repeats id_eq (map object_id objects) ≡ false → repeats id_eq (map object_id (with_new objects o)) ≡ false
one_new objects o apart = go (list_any (λ (p : Object). id_eq p.id o.id) objects) refl
  where
    go : (b : Bool) → list_any (λ (p : Object). id_eq p.id o.id) objects ≡ b → repeats id_eq (map object_id (with_new objects o)) ≡ false
    go true is = ap (λ b. repeats id_eq (map object_id (cond b objects (objects ++ o ∷ [])))) is ∙ apart
    go false is =
        ap (λ b. repeats id_eq (map object_id (cond b objects (objects ++ o ∷ [])))) is
        ∙ ap (repeats id_eq) (map-append object_id objects (o ∷ []))
        ∙ repeats_push (map object_id objects) o.id apart (among_ids objects o ∙ is)

all_new : (objects more : List Object) → repeats id_eq (map object_id objects) ≡ false → repeats id_eq (map object_id (fold with_new objects more)) ≡ false
all_new objects [] apart = apart
all_new objects (o ∷ os) apart = all_new (with_new objects o) os (one_new objects o apart)

-- the objects of a set-up have distinct ids
pub opening_apart : (lines : List Setup) (opening : List Object) → opening ≡ fold with_new [] (objects_from 0 lines) → repeats id_eq (map object_id opening) ≡ false
opening_apart lines opening is = ap (λ (os : List Object). repeats id_eq (map object_id os)) is ∙ all_new [] (objects_from 0 lines) refl
