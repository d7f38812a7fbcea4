-- The next epoch opens with what this one changed.
use Rattle.std.proofs.Common.{◌≡◌, ◌∙◌, refl, ap, sym, subst, ◌+◌, Bool, true, false, cond, ◌||◌, List, [], ◌∷◌, ◌++◌, Option, Some, None, map, append_assoc, append-nil}
use Rattle.std.specs.List.{list_any}
use Rattle.chain_types.specs.declared.objects.Object.{Object}
use Rattle.chain_types.specs.declared.objects.ObjectId.{ObjectId}
use Rattle.chain_types.specs.Equal.{id_eq}
use Rattle.protocol_spec.proofs.Equality.{id_same}
use Rattle.protocol_spec.specs.Chain.Words.{Each}
use Rattle.protocol_spec.specs.Member.Admission.{opening_object}
use Rattle.protocol_spec.specs.Member.Versions.{live, live_list}
use Rattle.version_assign.proofs.Changing.{found_has}
use Rattle.version_assign.specs.declared.changes.Change.{Change}
use Rattle.version_assign.specs.Calls.{Admitting}
use Rattle.version_assign.specs.Changes.{HasId, IsOwn, Renews, changed_by}
use Rattle.version_assign.specs.Sharing.{if_shared}
use Rattle.version_store.specs.Changed.{AreChanged}
use Rattle.version_store.specs.Stores.{Stored}
use Rattle.version_store.proofs.Openings.{opening_live, single_live}
use Rattle.epoch_turn.specs.Openings.{Opens, change_in, changes_after}

changes_behind : (s : Stored) (changes : List Change) (ids : List ObjectId) → changes_after s changes ids ≡ changes ++ map (change_in s) ids
changes_behind s changes [] = sym (append-nil changes)
changes_behind s changes (id ∷ ids) = changes_behind s (changes ++ change_in s id ∷ []) ids ∙ append_assoc changes (change_in s id ∷ []) (map (change_in s) ids)

module _ (s : Stored) where
  abbrev lives : ObjectId → Option Object
  lives id = live s.opening s.executed id

  has_own : (id : ObjectId) → HasId id (lives id)
  has_own id = by (lives id) refl
    where
      by : (o : Option Object) → lives id ≡ o → HasId id o
      by None is = tt
      by (Some o) is = found_has (live_list s.opening s.executed) id o (opening_live s id ∙ is)

  all_own : (ids : List ObjectId) → Each IsOwn (map (change_in s) ids)
  all_own [] = tt
  all_own (id ∷ ids) = (has_own id, all_own ids)

  pub changes_own : (ids : List ObjectId) (changes : List Change) → changes ≡ changes_after s [] ids → Each IsOwn changes
  changes_own ids changes is = subst (Each IsOwn) (sym (is ∙ changes_behind s [] ids)) (all_own ids)

  changed_all : (ids : List ObjectId) (id : ObjectId) (o : Option Object) → changed_by (map (change_in s) ids) id o ≡ cond (list_any (id_eq id) ids) (if_shared (lives id)) o
  changed_all [] id o = refl
  changed_all (i ∷ is) id o = changed_all is id (cond (id_eq id i) (if_shared (lives i)) o) ∙ by (id_eq id i) refl (list_any (id_eq id) is)
    where
      by : (b : Bool) → id_eq id i ≡ b → (c : Bool) → cond c (if_shared (lives id)) (cond b (if_shared (lives i)) o) ≡ cond (b || c) (if_shared (lives id)) o
      by true same true = refl
      by true same false = ap (λ (x : ObjectId). if_shared (lives x)) (sym (id_same id i same))
      by false other true = refl
      by false other false = refl

  -- the admission has the shared objects with which the next epoch opens
  pub renewed : (old new : Admitting) (ids : List ObjectId) (changes : List Change) → Opens old.opening s.opening → AreChanged s ids → changes ≡ changes_after s [] ids → Renews old new changes → Opens new.opening (live_list s.opening s.executed)
  renewed old new ids changes opens changed is by = (shared, single_live s)
    where
      behind : (id : ObjectId) → opening_object new.opening id ≡ cond (list_any (id_eq id) ids) (if_shared (lives id)) (opening_object old.opening id)
      behind id = by.opening id ∙ ap (λ (cs : List Change). changed_by cs id (opening_object old.opening id)) (is ∙ changes_behind s [] ids) ∙ changed_all ids id (opening_object old.opening id)

      same : (id : ObjectId) (b : Bool) → list_any (id_eq id) ids ≡ b → cond b (if_shared (lives id)) (opening_object old.opening id) ≡ if_shared (lives id)
      same id true among = refl
      same id false among = opens.0 id ∙ ap if_shared (sym (opens.1 id) ∙ sym (changed id among))

      shared : (id : ObjectId) → opening_object new.opening id ≡ if_shared (opening_object (live_list s.opening s.executed) id)
      shared id = behind id ∙ same id (list_any (id_eq id) ids) refl ∙ ap if_shared (sym (opening_live s id))
