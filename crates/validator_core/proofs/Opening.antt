-- Objects with distinct ids are versions of which none stands twice.
use Rattle.std.proofs.Common.{◌≡◌, true, false, ◌&&◌, ◌||◌, not, List, [], ◌∷◌, map, refl, ap, ◌∙◌}
use Rattle.std.specs.Prelude.{◌==◌}
use Rattle.std.specs.List.{list_any}
use Rattle.chain_types.specs.declared.objects.Object.{Object}
use Rattle.chain_types.specs.Equal.{id_eq, key_eq}
use Rattle.protocol_spec.proofs.Equality.{none_held}
use Rattle.protocol_spec.proofs.Truth.{or_false}
use Rattle.protocol_spec.specs.Chain.Words.{repeats}
use Rattle.protocol_spec.specs.Chain.Keys.{object_key}
use Rattle.version_store.specs.Stores.{are_new}
use Rattle.world_spec.specs.Starts.{AreApart}

other_keys : (objects : List Object) (o : Object) → list_any (id_eq o.id) (map (λ (p : Object). p.id) objects) ≡ false → list_any (key_eq (object_key o)) (map object_key objects) ≡ false
other_keys [] o e = refl
other_keys (p ∷ ps) o e =
    let h : (id_eq o.id p.id ≡ false) × (list_any (id_eq o.id) (map (λ (q : Object). q.id) ps) ≡ false) = or_false (id_eq o.id p.id) (list_any (id_eq o.id) (map (λ (q : Object). q.id) ps)) e in
    ap (λ b. (b && (o.version == p.version)) || list_any (key_eq (object_key o)) (map object_key ps)) h.0
    ∙ other_keys ps o h.1

keys_apart : (objects : List Object) → AreApart objects → repeats key_eq (map object_key objects) ≡ false
keys_apart [] e = refl
keys_apart (o ∷ os) e =
    let h : (list_any (id_eq o.id) (map (λ (q : Object). q.id) os) ≡ false) × AreApart os = or_false (list_any (id_eq o.id) (map (λ (q : Object). q.id) os)) (repeats id_eq (map (λ (q : Object). q.id) os)) e in
    ap (λ b. b || repeats key_eq (map object_key os)) (other_keys os o h.0) ∙ keys_apart os h.1

pub apart_new : (objects : List Object) → AreApart objects → are_new [] objects ≡ true
apart_new objects apart = ap (λ b. not b && not (repeats key_eq (map object_key objects))) (none_held (map object_key objects)) ∙ ap (λ b. not b) (keys_apart objects apart)
