-- A map whose objects stand under their own ids is that of its objects, by ascending id.
use Rattle.std.proofs.Common.{inl, inr, refl, sym, subst, ap, ◌∙◌}
use Rattle.std.specs.Prelude.{◌≡◌, ◌⊎◌, Bool, true, false, cond, ◌&&◌, T, List, [], ◌∷◌, map, fold, Option, Some, None}
use Rattle.std.specs.FinMap.{empty, entries, entries_sorted, get, get-empty, get-entries, get-insert, get-remove, same_map, values}
use Rattle.std.specs.FinMap.Entries.{below_all, find, is_sorted}
use Rattle.std.specs.Ordering.{eq_by_cmp, is_lt}
use Rattle.chain_types.specs.declared.objects.Object.{Object}
use Rattle.chain_types.specs.declared.objects.ObjectId.{ObjectId}
use Rattle.chain_types.specs.Equal.{id_eq}
use Rattle.protocol_spec.proofs.Equality.{id_same, ids_unique, id_self}
use Rattle.protocol_spec.specs.Chain.Words.{Each, Has}
use Rattle.protocol_spec.specs.Member.Versions.{id_cmp}
use Rattle.protocol_spec.specs.Member.Sequential.{Objects, map_after, map_of, with_object, without_id}
use Rattle.block_law.specs.Orderly.{Step, gave}
use Rattle.block_law.proofs.Standing.{elsewhere, here, ids-total, ids-tie, ids-same}
use Rattle.block_law.proofs.ReadingSteps.{after_steps}
use Rattle.safety_law.proofs.Lives.{less-tied}

-- each object stands under its own id
abbrev pub IsOwn : Objects → Type 0
IsOwn m = (id : ObjectId) (o : Object) → get m id ≡ Some o → o.id ≡ id

-- ---- what stands under its own id

same : (o p : Object) → Some o ≡ Some p → o ≡ p
same o p e = cc

own-empty : IsOwn empty
own-empty id o e = absurd (let none = get-empty id_cmp id in clash (sym none ∙ e))
  where
    clash : None ≡ Some o → ⊥
    clash q = cc

own-with : (m : Objects) (p : Object) → IsOwn m → IsOwn (with_object m p)
own-with m p own id o e = go (eq_by_cmp id_cmp id p.id) refl (sym (get-insert ids-total m p.id p id) ∙ e)
  where
    go : (b : Bool) → eq_by_cmp id_cmp id p.id ≡ b → cond b (Some p) (get m id) ≡ Some o → o.id ≡ id
    go true t q = ap (λ (x : Object). x.id) (sym (same p o q)) ∙ sym (ids-tie id p.id t)
    go false t q = own id o q

own-without : (m : Objects) (k : ObjectId) → IsOwn m → IsOwn (without_id m k)
own-without m k own id o e = go (eq_by_cmp id_cmp id k) (sym (get-remove ids-total m k id) ∙ e)
  where
    go : (b : Bool) → cond b None (get m id) ≡ Some o → o.id ≡ id
    go true q = absurd (cc)
    go false q = own id o q

own-all : (os : List Object) (m : Objects) → IsOwn m → IsOwn (fold with_object m os)
own-all [] m own = own
own-all (p ∷ os) m own = own-all os (with_object m p) (own-with m p own)

own-gone : (ids : List ObjectId) (m : Objects) → IsOwn m → IsOwn (fold without_id m ids)
own-gone [] m own = own
own-gone (k ∷ ids) m own = own-gone ids (without_id m k) (own-without m k own)

own-map : (opening : List Object) → IsOwn (map_of opening)
unfolding map_of
own-map opening = own-all opening empty own-empty

own-steps : (xs : List Step) (m : Objects) → IsOwn m → IsOwn (fold (λ (k : Objects) (y : Step). map_after k (gave y)) m xs)
own-steps [] m own = own
own-steps (x ∷ xs) m own = own-steps xs (map_after m (gave x)) (own-gone (gave x).effects.deleted (fold with_object m (gave x).objects) (own-all (gave x).objects m own))

-- what one thread leaves does
pub own-after : (opening : List Object) (steps : List Step) → IsOwn (after_steps opening steps)
own-after opening steps = own-steps steps (map_of opening) (own-map opening)

-- ---- what is found in a list in order

first : (a b : Bool) → T (a && b) → T a
first true b p = tt
first false b p = p

second : (a b : Bool) → T (a && b) → T b
second true b p = p
second false b p = absurd p

abbrev Entry : Type 0
Entry = ObjectId × Object

below : (k : ObjectId) (es : List Entry) (e : Entry) → T (below_all id_cmp k es) → Has es e → T (is_lt (id_cmp k e.0))
below k [] e p h = absurd h
below k (f ∷ es) e p (inl q) = subst (λ (g : Entry). T (is_lt (id_cmp k g.0))) q (first (is_lt (id_cmp k f.0)) (below_all id_cmp k es) p)
below k (f ∷ es) e p (inr h) = below k es e (second (is_lt (id_cmp k f.0)) (below_all id_cmp k es) p) h

-- each entry is found at its key
found : (es : List Entry) → T (is_sorted id_cmp es) → (e : Entry) → Has es e → find id_cmp e.0 es ≡ Some e.1
found [] sorted e h = absurd h
found (f ∷ es) sorted e (inl q) = subst (λ (g : Entry). find id_cmp g.0 (f ∷ es) ≡ Some g.1) q (rw (ids-same f.0) refl)
found (f ∷ es) sorted e (inr h) = go (eq_by_cmp id_cmp e.0 f.0) refl (found es (second (below_all id_cmp f.0 es) (is_sorted id_cmp es) sorted) e h)
  where
    less : T (is_lt (id_cmp f.0 e.0))
    less = below f.0 es e (first (below_all id_cmp f.0 es) (is_sorted id_cmp es) sorted) h

    go : (b : Bool) → eq_by_cmp id_cmp e.0 f.0 ≡ b → find id_cmp e.0 es ≡ Some e.1 → cond b (Some f.1) (find id_cmp e.0 es) ≡ Some e.1
    go true t rest = absurd (less-tied (id_cmp f.0 e.0) (ap (eq_by_cmp id_cmp f.0) (ids-tie e.0 f.0 t) ∙ ids-same f.0) less)
    go false t rest = rest

abbrev object_of : Entry → Object
object_of e = e.1

-- an object that is found is that of an entry
listed : (es : List Entry) (id : ObjectId) (o : Object) → find id_cmp id es ≡ Some o → Has (map object_of es) o
listed [] id o e = absurd (cc)
listed (f ∷ es) id o e = go (eq_by_cmp id_cmp id f.0) e (listed es id o)
  where
    go : (b : Bool) → cond b (Some f.1) (find id_cmp id es) ≡ Some o → (find id_cmp id es ≡ Some o → Has (map object_of es) o) → Has (map object_of (f ∷ es)) o
    go true q rest = inl (same f.1 o q)
    go false q rest = inr (rest q)

-- ---- the map of a map's objects

module _ (m : Objects) (own : IsOwn m) where
  abbrev Stands : Object → Type 0
  Stands o = get m o.id ≡ Some o

  stand : (es : List Entry) → ((e : Entry) → Has es e → get m e.0 ≡ Some e.1) → Each Stands (map object_of es)
  stand [] at = tt
  stand (e ∷ es) at = (ap (get m) (own e.0 e.1 (at e (inl refl))) ∙ at e (inl refl), stand es (λ f h. at f (inr h)))

  all-stand : Each Stands (values m)
  all-stand = stand (entries m) (λ e h. get-entries m e.0 ∙ found (entries m) (entries_sorted m) e h)

  module _ (id : ObjectId) where
    stays : (os : List Object) (n : Objects) → Each Stands os → get n id ≡ get m id → get (fold with_object n os) id ≡ get m id
    stays [] n each is = is
    stays (o ∷ os) n each is = stays os (with_object n o) each.1 (go (id_eq id o.id) refl)
      where
        go : (b : Bool) → id_eq id o.id ≡ b → get (with_object n o) id ≡ get m id
        go true e = ap (get (with_object n o)) (id_same id o.id e) ∙ here n o ∙ sym each.0 ∙ ap (get m) (sym (id_same id o.id e))
        go false e = elsewhere n o id e ∙ is

    -- an object of the id is in the list, or the map has none
    abbrev Comes : List Object → Type 0
    Comes os = ((o : Object) × Has os o × (o.id ≡ id)) ⊎ (get m id ≡ None)

    comes-in : (os : List Object) (n : Objects) → Each Stands os → get n id ≡ None → Comes os → get (fold with_object n os) id ≡ get m id
    comes-in [] n each none (inl (o, h, e)) = absurd h
    comes-in [] n each none (inr e) = none ∙ sym e
    comes-in (o ∷ os) n each none comes = go (id_eq id o.id) refl (comes-in os (with_object n o) each.1)
      where
        later : (o.id ≡ id → ⊥) → Comes (o ∷ os) → Comes os
        later other (inr e) = inr e
        later other (inl (p, inl q, e)) = absurd (other (ap (λ (x : Object). x.id) q ∙ e))
        later other (inl (p, inr h, e)) = inl (p, h, e)

        apart : id_eq id o.id ≡ false → o.id ≡ id → ⊥
        apart e q = let t : id_eq id o.id ≡ true = subst (λ (z : ObjectId). id_eq id z ≡ true) (sym q) (id_self id) in cc

        go : (b : Bool) → id_eq id o.id ≡ b → (get (with_object n o) id ≡ None → Comes os → get (fold with_object (with_object n o) os) id ≡ get m id) → get (fold with_object (with_object n o) os) id ≡ get m id
        go true e rest = stays os (with_object n o) each.1 (ap (get (with_object n o)) (id_same id o.id e) ∙ here n o ∙ sym each.0 ∙ ap (get m) (sym (id_same id o.id e)))
        go false e rest = rest (elsewhere n o id e ∙ none) (later (apart e) comes)

    comes : (o : Option Object) → get m id ≡ o → Comes (values m)
    comes None e = inr e
    comes (Some o) e = inl (o, listed (entries m) id o (sym (get-entries m id) ∙ e), own id o e)

  pub map-again : map_of (values m) ≡ m
  unfolding map_of
  map-again = same_map ids-total ids_unique (fold with_object empty (values m)) m (λ id. comes-in id (values m) empty all-stand (get-empty id_cmp id) (comes id (get m id) refl))
