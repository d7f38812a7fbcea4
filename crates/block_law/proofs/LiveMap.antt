-- The list of live objects is that of one thread's map.
use Rattle.std.proofs.Common.{inl, inr, refl, ap, subst, sym, ◌∙◌}
use Rattle.std.specs.Prelude.{◌≡◌, ◌⊎◌, Bool, true, false, List, [], ◌∷◌, map, fold, Option, Some, None}
use Rattle.std.specs.FinMap.{get, empty, entries, values, entries-insert, len-empty, len-entries, get-empty, same_map}
use Rattle.chain_types.specs.declared.objects.ObjectId.{ObjectId}
use Rattle.chain_types.specs.declared.objects.Object.{Object}
use Rattle.chain_types.specs.Equal.{id_eq}
use Rattle.protocol_spec.proofs.Equality.{id_same, ids_unique, id_self}
use Rattle.protocol_spec.proofs.ListLemmas.{nil_of}
use Rattle.protocol_spec.specs.Chain.Words.{Has}
use Rattle.protocol_spec.specs.Member.Versions.{Execution, Version, id_cmp, with_live, versions, live, live_list}
use Rattle.protocol_spec.specs.Member.Sequential.{Objects, with_object, map_of, fold_all}
use Rattle.block_law.specs.Orderly.{tx_of, Step, AreApart, AreOrderly}
use Rattle.block_law.specs.Leaving.{IsOfSteps}
use Rattle.block_law.proofs.Standing.{ids-total, here, elsewhere}
use Rattle.block_law.proofs.Live.{live-is-map, live-there}

-- ---- the list is the entries of a map

abbrev with_live_object : Objects → Option Object → Objects
with_live_object m None = m
with_live_object m (Some o) = with_object m o

pub entries-empty : entries (empty {X = Object} {R = id_cmp}) ≡ []
entries-empty = nil_of (entries (empty {X = Object} {R = id_cmp})) (sym (len-entries (empty {X = Object} {R = id_cmp})) ∙ len-empty id_cmp Object)

entries-with : (os : List (Option Object)) (m : Objects) → fold with_live (entries m) os ≡ entries (fold with_live_object m os)
entries-with [] m = refl
entries-with (None ∷ os) m = entries-with os m
entries-with (Some o ∷ os) m = ap (λ es. fold with_live es os) (sym (entries-insert ids-total m o.id o)) ∙ entries-with os (with_object m o)

-- ---- and that map has the live objects

module _ (alive : ObjectId → Option Object) (own : (id : ObjectId) (o : Object) → alive id ≡ Some o → o.id ≡ id) (id : ObjectId) where
  abbrev lives : List Version → List (Option Object)
  lives vs = map (λ (v : Version). alive v.object.id) vs

  -- an object that is put under its id
  put-in : (m : Objects) (o : Object) → (b : Bool) → id_eq id o.id ≡ b → alive o.id ≡ Some o → get m id ≡ alive id → get (with_object m o) id ≡ alive id
  put-in m o false e at same = elsewhere m o id e ∙ same
  put-in m o true e at same = ap (get (with_object m o)) (id_same id o.id e) ∙ here m o ∙ sym at ∙ ap alive (sym (id_same id o.id e))

  stays-put : (vs : List Version) (m : Objects) → get m id ≡ alive id → get (fold with_live_object m (lives vs)) id ≡ alive id
  stays-put [] m same = same
  stays-put (v ∷ vs) m same = go (alive v.object.id) refl (λ n k. stays-put vs n k)
    where
      go : (o : Option Object) → alive v.object.id ≡ o → ((n : Objects) → get n id ≡ alive id → get (fold with_live_object n (lives vs)) id ≡ alive id) → get (fold with_live_object (with_live_object m o) (lives vs)) id ≡ alive id
      go None e rest = rest m same
      go (Some o) e rest = rest (with_object m o) (put-in m o (id_eq id o.id) refl (ap alive (own v.object.id o e) ∙ e) same)

  -- one of the versions is of the id, or the id is not alive
  abbrev Comes : List Version → Type 0
  Comes vs = ((v : Version) × Has vs v × (v.object.id ≡ id)) ⊎ (alive id ≡ None)

  later : (v : Version) (vs : List Version) → (v.object.id ≡ id → alive id ≡ None) → Comes (v ∷ vs) → Comes vs
  later v vs none (inr e) = inr e
  later v vs none (inl (w, inl e, f)) = inr (none (ap (λ (z : Version). z.object.id) e ∙ f))
  later v vs none (inl (w, inr h, f)) = inl (w, h, f)

  comes-in : (vs : List Version) (m : Objects) → get m id ≡ None → Comes vs → get (fold with_live_object m (lives vs)) id ≡ alive id
  comes-in [] m none (inl (v, h, e)) = absurd h
  comes-in [] m none (inr e) = none ∙ sym e
  comes-in (v ∷ vs) m none comes = go (alive v.object.id) refl (λ n k c. comes-in vs n k c)
    where
      next : (o : Object) → (b : Bool) → id_eq id o.id ≡ b → o.id ≡ v.object.id → alive o.id ≡ Some o → ((n : Objects) → get n id ≡ None → Comes vs → get (fold with_live_object n (lives vs)) id ≡ alive id) → get (fold with_live_object (with_object m o) (lives vs)) id ≡ alive id
      next o true e f at rest = stays-put vs (with_object m o) (ap (get (with_object m o)) (id_same id o.id e) ∙ here m o ∙ sym at ∙ ap alive (sym (id_same id o.id e)))
      next o false e f at rest = rest (with_object m o) (elsewhere m o id e ∙ none) (later v vs (λ q. absurd (other (f ∙ q))) comes)
        where
          other : o.id ≡ id → ⊥
          other q = let t : id_eq id o.id ≡ true = subst (λ (z : ObjectId). id_eq id z ≡ true) (sym q) (id_self id) in cc

      go : (o : Option Object) → alive v.object.id ≡ o → ((n : Objects) → get n id ≡ None → Comes vs → get (fold with_live_object n (lives vs)) id ≡ alive id) → get (fold with_live_object (with_live_object m o) (lives vs)) id ≡ alive id
      go None e rest = rest m none (later v vs (λ q. ap alive (sym q) ∙ e) comes)
      go (Some o) e rest = next o (id_eq id o.id) refl (own v.object.id o e) (ap alive (own v.object.id o e) ∙ e) rest

-- ---- the live objects of executions

pub live-list-is-map : (opening : List Object) (steps : List Step) (executed : List Execution) → AreApart opening → AreOrderly opening steps → IsOfSteps steps executed
    → live_list opening executed ≡ values (fold_all (map_of opening) (map tx_of steps)).map
unfolding live_list
live-list-is-map opening steps executed distinct orderly of =
    ap (map (λ (e : ObjectId × Object). e.1)) (ap (λ es. fold with_live es all) (sym entries-empty) ∙ entries-with all empty ∙ ap entries whole)
  where
    all : List (Option Object)
    all = map (λ (v : Version). live opening executed v.object.id) (versions opening executed)

    comes : (id : ObjectId) (o : Option Object) → live opening executed id ≡ o → Comes (live opening executed) (λ id o e. (live-there opening steps executed distinct orderly of id o e).0) id (versions opening executed)
    comes id None e = inr e
    comes id (Some o) e = inl (live-there opening steps executed distinct orderly of id o e).1

    whole : fold with_live_object empty all ≡ (fold_all (map_of opening) (map tx_of steps)).map
    whole = same_map ids-total ids_unique (fold with_live_object empty all) (fold_all (map_of opening) (map tx_of steps)).map (λ id.
        comes-in (live opening executed) (λ id o e. (live-there opening steps executed distinct orderly of id o e).0) id (versions opening executed) empty (get-empty id_cmp id) (comes id (live opening executed id) refl)
        ∙ live-is-map opening steps executed distinct orderly of id)
