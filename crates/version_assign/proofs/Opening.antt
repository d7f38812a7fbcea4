-- The shared objects of an opening, each under its id.
use Rattle.std.proofs.Common.{◌≡◌, ℕ, Bool, true, false, cond, ◌||◌, List, [], ◌∷◌, ◌++◌, Option, Some, is_some, map, refl, ap, sym, subst, ◌∙◌, append_assoc, append-nil, zero, suc, ◌<◌, ◌^◌, arith}
use Rattle.std.specs.Prelude.{filter}
use Rattle.std.specs.List.{list_any}
use Rattle.std.specs.Map.{lookup}
use Rattle.std.proofs.lemmas.List.Folds.{list_any-append}
use Rattle.indexmap.specs.IndexMap.{insert_entry}
use Rattle.chain_types.specs.declared.objects.Object.{Object}
use Rattle.chain_types.specs.declared.objects.ObjectId.{ObjectId}
use Rattle.chain_types.specs.Equal.{id_eq}
use Rattle.protocol_spec.proofs.Equality.{id_turned}
use Rattle.protocol_spec.proofs.Truth.{or_false}
use Rattle.protocol_spec.specs.Chain.Words.{Each, repeats}
use Rattle.protocol_spec.specs.Member.Admission.{is_shared_object, nothing_admitted, opening_object}
use Rattle.tables.proofs.Lookups.{goes_last}
use Rattle.version_assign.specs.declared.book.AdmissionTables.{AdmissionTables}
use Rattle.version_assign.specs.declared.book.PendingCertificate.{PendingCertificate}
use Rattle.version_assign.specs.Books.{HasRoom, IsKept, IsOpening, object_in, row_at, shown}
use Rattle.version_assign.specs.Calls.{Admitting, id_of, is_shared_one, opened}
use Rattle.version_assign.specs.Steps.{with_all_shared}
use Rattle.version_assign.proofs.Parts.{AreKept, Has, Parts, kept_as, shown_as}

abbrev pub keyed : Object → ObjectId × Object
keyed o = (o.id, o)

-- an id that no object has, and a look-up of it
looked_up : (os : List Object) (id : ObjectId) → is_some (lookup (id_eq id) (map keyed os)) ≡ list_any (id_eq id) (map id_of os)
looked_up [] id = refl
looked_up (o ∷ os) id = by (id_eq id o.id) (looked_up os id)
  where
    by : (b : Bool) → is_some (lookup (id_eq id) (map keyed os)) ≡ list_any (id_eq id) (map id_of os) → is_some (cond b (Some o) (lookup (id_eq id) (map keyed os))) ≡ (b || list_any (id_eq id) (map id_of os))
    by true more = refl
    by false more = more

-- no id of the rest is among these
abbrev Apart : List Object → List Object → Type 0
Apart front rest = Each (λ (o : Object). list_any (id_eq o.id) (map id_of front) ≡ false) rest

apart_more : (front rest : List Object) (o : Object) → Apart front rest → list_any (id_eq o.id) (map id_of rest) ≡ false → Apart (front ++ o ∷ []) rest
apart_more front [] o apart off = tt
apart_more front (x ∷ xs) o apart off =
    let b : (id_eq o.id x.id ≡ false) × (list_any (id_eq o.id) (map id_of xs) ≡ false) = or_false (id_eq o.id x.id) (list_any (id_eq o.id) (map id_of xs)) off in (
      ap (list_any (id_eq x.id)) (maps front)
          ∙ list_any-append (id_eq x.id) (map id_of front) (o.id ∷ [])
          ∙ ap (λ c. c || (id_eq x.id o.id || false)) apart.0
          ∙ ap (λ c. c || false) (id_turned x.id o.id ∙ b.0),
      apart_more front xs o apart.1 b.1,
    )
  where
    maps : (os : List Object) → map id_of (os ++ o ∷ []) ≡ map id_of os ++ o.id ∷ []
    maps [] = refl
    maps (y ∷ ys) = ap (λ zs. y.id ∷ zs) (maps ys)

all_shared : (front rest : List Object) → Apart front rest → repeats id_eq (map id_of rest) ≡ false → with_all_shared (map keyed front) rest ≡ map keyed (front ++ filter is_shared_one rest)
all_shared front [] apart once = ap (map keyed) (sym (append-nil front))
all_shared front (o ∷ os) apart once =
    let b : (list_any (id_eq o.id) (map id_of os) ≡ false) × (repeats id_eq (map id_of os) ≡ false) = or_false (list_any (id_eq o.id) (map id_of os)) (repeats id_eq (map id_of os)) once in
    go (is_shared_one o) (all_shared front os apart.1 b.1) (all_shared (front ++ o ∷ []) os (apart_more front os o apart.1 b.0) b.1)
  where
    maps : (xs : List Object) → map keyed (xs ++ o ∷ []) ≡ map keyed xs ++ keyed o ∷ []
    maps [] = refl
    maps (y ∷ ys) = ap (λ zs. keyed y ∷ zs) (maps ys)

    put : insert_entry id_eq (map keyed front) o.id o ≡ map keyed (front ++ o ∷ [])
    put = goes_last id_eq (map keyed front) o.id o (looked_up front o.id ∙ apart.0) ∙ sym (maps front)

    go : (c : Bool) → with_all_shared (map keyed front) os ≡ map keyed (front ++ filter is_shared_one os) → with_all_shared (map keyed (front ++ o ∷ [])) os ≡ map keyed ((front ++ o ∷ []) ++ filter is_shared_one os)
        → with_all_shared (cond c (insert_entry id_eq (map keyed front) o.id o) (map keyed front)) os ≡ map keyed (front ++ cond c (o ∷ filter is_shared_one os) (filter is_shared_one os))
    go true less more = ap (λ es. with_all_shared es os) put ∙ more ∙ ap (map keyed) (append_assoc front (o ∷ []) (filter is_shared_one os))
    go false less more = less

none_apart : (rest : List Object) → Apart [] rest
none_apart [] = tt
none_apart (o ∷ os) = (refl, none_apart os)

entries_are : (objects : List Object) → repeats id_eq (map id_of objects) ≡ false → with_all_shared [] objects ≡ map keyed (filter is_shared_one objects)
entries_are objects once = all_shared [] objects (none_apart objects) once

values_are : (os : List Object) → map object_in (map keyed os) ≡ os
values_are [] = refl
values_are (o ∷ os) = ap (λ xs. o ∷ xs) (values_are os)

-- the objects are those of the opening that are shared
pub opening_shown : (entries : List (ObjectId × Object)) (objects : List Object) → entries ≡ with_all_shared [] objects → repeats id_eq (map id_of objects) ≡ false → map object_in entries ≡ filter is_shared_one objects
opening_shown entries objects is once = ap (map object_in) (is ∙ entries_are objects once) ∙ values_are (filter is_shared_one objects)

found_at : (os : List Object) (id : ObjectId) → lookup (id_eq id) (map keyed os) ≡ opening_object os id
found_at [] id = refl
found_at (o ∷ os) id = ap (λ x. cond (id_eq id o.id) (Some o) x) (found_at os id) ∙ ap (λ b. cond b (Some o) (opening_object os id)) (id_turned id o.id)

found_shared : (objects : List Object) (id : ObjectId) → is_shared_object (opening_object (filter is_shared_one objects) id) ≡ is_some (opening_object (filter is_shared_one objects) id)
found_shared [] id = refl
found_shared (o ∷ os) id = go (is_shared_one o) refl (found_shared os id)
  where
    at : (b : Bool) → is_shared_one o ≡ true → is_shared_object (opening_object (filter is_shared_one os) id) ≡ is_some (opening_object (filter is_shared_one os) id)
        → is_shared_object (cond b (Some o) (opening_object (filter is_shared_one os) id)) ≡ is_some (cond b (Some o) (opening_object (filter is_shared_one os) id))
    at true is more = is
    at false is more = more

    go : (b : Bool) → is_shared_one o ≡ b → is_shared_object (opening_object (filter is_shared_one os) id) ≡ is_some (opening_object (filter is_shared_one os) id)
        → is_shared_object (opening_object (cond b (o ∷ filter is_shared_one os) (filter is_shared_one os)) id) ≡ is_some (opening_object (cond b (o ∷ filter is_shared_one os) (filter is_shared_one os)) id)
    go true is more = at (id_eq o.id id) is more
    go false is more = more

keyed_opening : (objects : List Object) → IsOpening (map keyed (filter is_shared_one objects))
keyed_opening objects = record {
  at = λ id. found_at (filter is_shared_one objects) id ∙ ap (λ os. opening_object os id) (sym (values_are (filter is_shared_one objects)));
  shared = λ id.
      ap (λ os. is_shared_object (opening_object os id)) (values_are (filter is_shared_one objects))
      ∙ found_shared objects id
      ∙ ap is_some (sym (found_at (filter is_shared_one objects) id));
}

pub opening_kept : (entries : List (ObjectId × Object)) (objects : List Object) → entries ≡ with_all_shared [] objects → repeats id_eq (map id_of objects) ≡ false → IsOpening entries
opening_kept entries objects is once = subst IsOpening (sym (is ∙ entries_are objects once)) (keyed_opening objects)

-- ---- before the first entry

abbrev pub no_entries : List (ObjectId × Object) → Option ℕ → Parts
no_entries opening writers = record { opening = opening; writers = writers; lines = []; rows = []; admitted = []; dropped = []; known = []; marked = 0; waiting = 0 }

pub none_at : {A : Type 0} → (n : ℕ) (r : PendingCertificate) → row_at [] n ≡ Some r → A
none_at zero r at = absurd (cc)
none_at (suc n) r at = absurd (cc)

nothing_kept : (entries : List (ObjectId × Object)) (writers : Option ℕ) → IsOpening entries → ((n : ℕ) → writers ≡ Some n → n < 2 ^ 32) → AreKept (no_entries entries writers)
nothing_kept entries writers opening small = record {
  opening = opening;
  lines = record { standing = λ id. refl; writers = λ n limit id. refl };
  small = small;
  rows = record { at = λ n r at. none_at n r at };
  lets = tt;
  aligned = tt;
  apart = refl;
  known = λ tx. refl;
  new = tt;
  waiting = refl;
  within = omega arith;
}

pub starts : (b : AdmissionTables) (objects : List Object) (writers : Option ℕ) → Has b (no_entries b.opening.entries writers) → b.opening.entries ≡ with_all_shared [] objects → repeats id_eq (map id_of objects) ≡ false
    → ((n : ℕ) → writers ≡ Some n → n < 2 ^ 32) → HasRoom 0 b → b.low ≡ 0 → IsKept b × (shown b ≡ opened objects writers)
starts b objects writers has shared once small room low = (
  kept_as b (no_entries b.opening.entries writers) has (nothing_kept b.opening.entries writers (opening_kept b.opening.entries objects shared once) small) room 0 low
      (record { none = λ place below. absurd (omega (arith, below)); within = omega arith }),
  shown_as b (no_entries b.opening.entries writers) has
      ∙ ap (λ (os : List Object). let s : Admitting = record { opening = os; writers = writers; admission = nothing_admitted } in s) (opening_shown b.opening.entries objects shared once),
)
