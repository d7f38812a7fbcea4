-- A store that opens, and one that executes or undoes transactions, beside the objects of its base.
use Rattle.std.proofs.Common.{◌≡◌, ℕ, ◌+◌, ◌-◌, ◌≤◌, Bool, true, false, cond, ◌&&◌, not, List, [], ◌∷◌, ◌++◌, is_some, length, map, take, drop, refl, ap, sym, subst, ◌∙◌, append_assoc, arith}
use Rattle.std.specs.List.{list_any}
use Rattle.std.specs.Map.{lookup}
use Rattle.std.proofs.lemmas.List.{length-append, length-drop, length-map, map-append}
use Rattle.std.proofs.Math.Seq.{take-length, drop-append_seam}
use Rattle.indexmap.specs.IndexSet.{insert_all}
use Rattle.digest_core.specs.declared.Digest.{Digest}
use Rattle.chain_types.specs.declared.objects.Object.{Object}
use Rattle.chain_types.specs.declared.objects.ObjectId.{ObjectId}
use Rattle.chain_types.specs.declared.objects.ObjectKey.{ObjectKey}
use Rattle.chain_types.specs.Equal.{digest_eq, id_eq, key_eq}
use Rattle.effects_core.specs.declared.effects.Effects.{Effects}
use Rattle.protocol_spec.proofs.Equality.{none_held}
use Rattle.protocol_spec.proofs.Truth.{or_false, and_true}
use Rattle.protocol_spec.specs.Chain.Words.{Each, repeats}
use Rattle.protocol_spec.specs.Chain.Keys.{object_key}
use Rattle.protocol_spec.specs.Member.Versions.{is_executed, opened}
use Rattle.protocol_spec.specs.Member.Rounds.{holds_key}
use Rattle.version_store.specs.declared.maps.Maps.{Maps}
use Rattle.version_store.specs.Stores.{Stored, are_new, executed_as, held_in, with_execution}
use Rattle.version_store.specs.Kept.{IsKept, stored}
use Rattle.version_store.specs.Bases.{IsHeld, based, front_entries, object_under, over, stored_over}
use Rattle.version_store.specs.Changes.{Adds, Keeps, Opens, SameEntries}
use Rattle.version_store.specs.Reverts.{reverted_to}
use Rattle.version_store.proofs.Based.{held_is, new_behind}
use Rattle.version_store.proofs.Kept.{opening_of, opens, written as written_in}
use Rattle.version_store.proofs.Lists.{not_true}
use Rattle.version_store.proofs.Reverted.{reverted}
use Rattle.version_store.proofs.Rows.{AreApart, IsOwn, newest_under, version_under}

-- ---- the prefix of the opening objects

record Front (done : List (ObjectId × Object)) (os : List Object) : Type 0 where
  own : Each IsOwn (front_entries done os)
  rest : List Object
  whole : map object_under (front_entries done os) ++ rest ≡ map object_under done ++ os

own_push : (done : List (ObjectId × Object)) (o : Object) → Each IsOwn done → Each IsOwn (done ++ (o.id, o) ∷ [])
own_push [] o own = (refl, tt)
own_push (e ∷ es) o own = (own.0, own_push es o own.1)

front : (done : List (ObjectId × Object)) (os : List Object) → Each IsOwn done → Front done os
front done [] own = record { own = own; rest = []; whole = refl }
front done (o ∷ os) own =
    let p = by (is_some (lookup (id_eq o.id) done)) (front (done ++ (o.id, o) ∷ []) os (own_push done o own)) in
    record { own = p.0; rest = p.1.0; whole = p.1.1 }
  where
    by : (b : Bool) → Front (done ++ (o.id, o) ∷ []) os
        → let entries : List (ObjectId × Object) = cond b done (front_entries (done ++ (o.id, o) ∷ []) os) in
        Each IsOwn entries × ((rest : List Object) × (map object_under entries ++ rest ≡ map object_under done ++ o ∷ os))
    by true more = (own, (o ∷ os, refl))
    by false more = (
      more.own,
      (
        more.rest,
        more.whole ∙ ap (λ xs. xs ++ os) (map-append object_under done ((o.id, o) ∷ [])) ∙ append_assoc (map object_under done) (o ∷ []) os,
      ),
    )

module _ (objects : List Object) where
  abbrev rows : List (ObjectId × Object)
  rows = front_entries [] objects

  pub front_own : Each IsOwn rows
  front_own = (front [] objects tt).own

  front_whole : map object_under rows ++ (front [] objects tt).rest ≡ objects
  front_whole = (front [] objects tt).whole

  pub front_fits : length rows ≤ length objects
  front_fits =
      let all : length (map object_under rows) + length (front [] objects tt).rest ≡ length objects = sym (length-append (map object_under rows) (front [] objects tt).rest) ∙ ap length front_whole in
      let same : length (map object_under rows) ≡ length rows = length-map rows object_under in
      omega arith

  -- what stands after it
  pub front_rest : map object_under rows ++ drop (length rows) objects ≡ objects
  front_rest =
      ap (λ n. map object_under rows ++ drop n objects) (sym (length-map rows object_under))
      ∙ ap (λ os. map object_under rows ++ drop (length (map object_under rows)) os) (sym front_whole)
      ∙ ap (λ os. map object_under rows ++ os) (drop-append_seam (map object_under rows) (front [] objects tt).rest)
      ∙ front_whole

pub fits : (objects : List Object) {first slice : List Object} {entries : List (ObjectId × Object)} {n : ℕ} → entries ≡ front_entries [] first → first ≡ objects → n ≡ length entries → slice ≡ objects → n ≤ length slice
fits objects {first} {slice} {entries} {n} is same count rest =
    let here : length (front_entries [] objects) ≤ length objects = front_fits objects in
    let there : length entries ≡ length (front_entries [] objects) = ap length (is ∙ ap (front_entries []) same) in
    let all : length slice ≡ length objects = ap length rest in
    omega arith

-- a slice from a place on is what stands after it
pub slice_rest : {A : Type 0} → (n : ℕ) (xs : List A) → take (length xs - n) (drop n xs) ≡ drop n xs
slice_rest n xs = ap (λ k. take k (drop n xs)) (sym (length-drop n xs)) ∙ take-length (drop n xs)

no_repeat_behind : (xs ys : List Object) → repeats key_eq (map object_key (xs ++ ys)) ≡ false → repeats key_eq (map object_key ys) ≡ false
no_repeat_behind [] ys h = h
no_repeat_behind (x ∷ xs) ys h = no_repeat_behind xs ys (or_false (list_any (key_eq (object_key x)) (map object_key (xs ++ ys))) (repeats key_eq (map object_key (xs ++ ys))) h).1

-- a part of new objects is new
new_part : (xs ys : List Object) → are_new [] (xs ++ ys) ≡ true → are_new [] ys ≡ true
new_part xs ys h =
    let keys : List ObjectKey = map object_key (xs ++ ys) in
    let p : (not (list_any (holds_key []) keys) ≡ true) × (not (repeats key_eq keys) ≡ true) = and_true (not (list_any (holds_key []) keys)) (not (repeats key_eq keys)) h in
    ap (λ b. not b && not (repeats key_eq (map object_key ys))) (none_held (map object_key ys))
    ∙ ap not (no_repeat_behind xs ys (not_true (repeats key_eq keys) p.1))

-- a store that opens
pub opens_over : (objects : List Object) {n : ℕ} {entries : List (ObjectId × Object)} {maps : Maps} {slice : List Object} → entries ≡ front_entries [] objects → AreApart entries → Opens maps slice → slice ≡ drop (length entries) objects
    → n ≡ length slice → are_new [] objects ≡ true
    → IsHeld false entries n maps × (stored_over false entries n maps ≡ opening_of objects)
opens_over objects {n} {entries} {maps} {slice} is apart opening rest count fresh =
    let own : Each IsOwn entries = subst (Each IsOwn) (sym is) (front_own objects) in
    let whole : map object_under entries ++ drop (length entries) objects ≡ objects = subst (λ (es : List (ObjectId × Object)). map object_under es ++ drop (length es) objects ≡ objects) (sym is) (front_rest objects) in
    let new_rest : are_new [] (drop (length entries) objects) ≡ true = new_part (map object_under entries) (drop (length entries) objects) (ap (are_new []) whole ∙ fresh) in
    let p : IsKept n maps × (stored n maps ≡ opening_of (drop (length entries) objects)) = opens (subst (Opens maps) rest opening) (count ∙ ap length rest) new_rest in (
      record { kept = p.0; newest = λ id. newest_under id entries own apart; at = λ key. version_under key entries own apart },
      ap (over (map object_under entries)) p.1 ∙ ap opening_of whole,
    )

-- ---- the maps change, and the base stays

module _ {turned : Bool} {entries : List (ObjectId × Object)} {opened_in : ℕ} {old : Maps} {s : Stored} (held : IsHeld turned entries opened_in old) (view : stored_over turned entries opened_in old ≡ s) where
  stays : (new : Maps) → IsKept opened_in new → IsHeld turned entries opened_in new
  stays new kept = record { kept = kept; newest = held.newest; at = held.at }

  -- after one more execution
  pub written_over : {mid new : Maps} {effects : Effects} {objects slice : List Object} {consumed copy : List ObjectKey} → SameEntries old mid → Adds mid new effects slice copy → slice ≡ objects → copy ≡ consumed
      → is_executed s.executed effects.tx ≡ false → are_new (held_in s) objects ≡ true
      → IsHeld turned entries opened_in new × (stored_over turned entries opened_in new ≡ with_execution s (executed_as effects objects consumed))
  written_over {mid} {new} {effects} {objects} {slice} {consumed} {copy} same adds os ks first fresh =
      let before : Stored = stored opened_in old in
      let p : IsKept opened_in new × (stored opened_in new ≡ with_execution before (executed_as effects objects consumed)) =
      written_in {s = before} held.kept refl same adds os ks (ap (λ (t : Stored). is_executed t.executed effects.tx) view ∙ first)
      (new_behind (map opened (based turned entries)) (held_in before) objects (ap (λ vs. are_new vs objects) (sym (held_is held view)) ∙ fresh)) in (
        stays new p.0,
        ap (over (based turned entries)) p.1 ∙ ap (λ t. with_execution t (executed_as effects objects consumed)) view,
      )

  -- if transactions are undone
  pub reverted_over : (kept : List Digest) {new : Maps} {set : List Digest} → Keeps old new set → set ≡ insert_all digest_eq [] kept
      → IsHeld turned entries opened_in new × (stored_over turned entries opened_in new ≡ reverted_to kept s)
  reverted_over kept {new} {set} does is =
      let p : IsKept opened_in new × (stored opened_in new ≡ reverted_to kept (stored opened_in old)) = reverted kept held.kept refl does is in
      (stays new p.0, ap (over (based turned entries)) p.1 ∙ ap (reverted_to kept) view)
