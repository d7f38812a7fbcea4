-- Where a certificate names an object, as a shared input, and what it says of it.
use Rattle.std.proofs.Common.{◌≡◌, ℕ, Bool, true, false, ◌||◌, List, [], ◌∷◌, Option, Some, None, length, map, refl, ap, sym, ◌∙◌, inl, inr, arith}
use Rattle.std.specs.Prelude.{◌⊎◌, filter, filter_map, zip}
use Rattle.std.specs.List.{cons_option, list_any}
use Rattle.digest_core.specs.declared.Digest.{Digest}
use Rattle.chain_types.specs.declared.objects.Object.{Object}
use Rattle.chain_types.specs.declared.objects.ObjectId.{ObjectId}
use Rattle.chain_types.specs.declared.transactions.Input.{Input}
use Rattle.chain_types.specs.declared.transactions.Input.TheVariants as inputs
use Rattle.chain_types.specs.declared.transactions.Transaction.{Transaction}
use Rattle.chain_types.specs.Equal.{id_eq}
use Rattle.chain_types.specs.Digests.{is_object}
use Rattle.chain_messages.specs.declared.messages.Certificate.{Certificate}
use Rattle.protocol_spec.specs.declared.answers.Assigned.{Assigned}
use Rattle.protocol_spec.proofs.Equality.{id_turned, id_same, id_self}
use Rattle.protocol_spec.proofs.ListLemmas.{all_none}
use Rattle.protocol_spec.proofs.Truth.{or_false, where_false}
use Rattle.protocol_spec.specs.Chain.Words.{Each, first_of, first_some, repeats, where_true}
use Rattle.protocol_spec.specs.Chain.Tests.{has_id}
use Rattle.protocol_spec.specs.Chain.Keys.{mutable_id, named_id, named_ids, objects_of}
use Rattle.protocol_spec.specs.Chain.Shape.{shape_cases, shape_fault}
use Rattle.protocol_spec.specs.Member.Admission.{Standing, assigned_to, beginning, begins, joined_inputs, mutable_ids}
use Rattle.version_assign.specs.Lines.{begun}
use Rattle.version_assign.proofs.Freeing.{alone}

abbrev pub Joined : Type 0
Joined = List (Input × Option Digest)

abbrev pub input_in : (Input × Option Digest) → Input
input_in j = j.0

abbrev pub names_of : Joined → List ObjectId
names_of js = filter_map (λ (j : Input × Option Digest). named_id j.0) js

abbrev pub mutables_of : Joined → List ObjectId
mutables_of js = filter_map (λ (j : Input × Option Digest). mutable_id j.0) js

abbrev pub of_id : ObjectId → Assigned → Bool
of_id id x = id_eq id x.id

-- ---- it is not named

pub record Absent (opening : List Object) (id : ObjectId) (js : Joined) : Type 0 where
  pub begins : first_of (beginning opening id) js ≡ None
  pub writes : has_id (mutables_of js) id ≡ false
  pub assigned : list_any (of_id id) (filter_map (begun opening) js) ≡ false

module _ (opening : List Object) (id : ObjectId) where
  skip : (js : Joined) (i : Input) (o : Option Digest) → beginning opening id (i, o) ≡ None → first_of (beginning opening id) ((i, o) ∷ js) ≡ first_of (beginning opening id) js
  skip js i o none = ap (λ x. first_some (x ∷ first_of (beginning opening id) js ∷ [])) none ∙ alone (first_of (beginning opening id) js)

  other : (y : ObjectId) (n : ℕ) (m : Bool) (o : Option Digest) → id_eq id y ≡ false → beginning opening id (inputs.Shared y n m, o) ≡ None
  other y n m o off = ap (λ b. where_true b (begins opening y n o)) (id_turned y id ∙ off)

  shared_absent : (js : Joined) (y : ObjectId) (n : ℕ) (m : Bool) (o : Option Digest) → id_eq id y ≡ false → Absent opening id js → Absent opening id ((inputs.Shared y n m, o) ∷ js)
  shared_absent js y n true o off rest = record {
    begins = skip js (inputs.Shared y n true) o (other y n true o off) ∙ rest.begins;
    writes = ap (λ b. b || has_id (mutables_of js) id) off ∙ rest.writes;
    assigned = ap (λ b. b || list_any (of_id id) (filter_map (begun opening) js)) off ∙ rest.assigned;
  }
  shared_absent js y n false o off rest = record {
    begins = skip js (inputs.Shared y n false) o (other y n false o off) ∙ rest.begins;
    writes = rest.writes;
    assigned = ap (λ b. b || list_any (of_id id) (filter_map (begun opening) js)) off ∙ rest.assigned;
  }

  plain_absent : (js : Joined) (i : Input) (o : Option Digest) → beginning opening id (i, o) ≡ None → mutable_id i ≡ None → begun opening (i, o) ≡ None → Absent opening id js → Absent opening id ((i, o) ∷ js)
  plain_absent js (inputs.Pure bytes) o b m a rest = record { begins = skip js (inputs.Pure bytes) o b ∙ rest.begins; writes = rest.writes; assigned = rest.assigned }
  plain_absent js (inputs.Owned r) o b m a rest = record { begins = skip js (inputs.Owned r) o b ∙ rest.begins; writes = rest.writes; assigned = rest.assigned }
  plain_absent js (inputs.Immutable r) o b m a rest = record { begins = skip js (inputs.Immutable r) o b ∙ rest.begins; writes = rest.writes; assigned = rest.assigned }
  plain_absent js (inputs.Shared y n m) o b w a rest = absurd (cc)

  pub absent : (js : Joined) → has_id (names_of js) id ≡ false → Absent opening id js
  absent [] off = record { begins = refl; writes = refl; assigned = refl }
  absent ((inputs.Pure bytes, o) ∷ js) off = plain_absent js (inputs.Pure bytes) o refl refl refl (absent js off)
  absent ((inputs.Owned r, o) ∷ js) off = plain_absent js (inputs.Owned r) o refl refl refl (absent js (or_false (id_eq id r.id) (has_id (names_of js) id) off).1)
  absent ((inputs.Immutable r, o) ∷ js) off = plain_absent js (inputs.Immutable r) o refl refl refl (absent js (or_false (id_eq id r.id) (has_id (names_of js) id) off).1)
  absent ((inputs.Shared y n m, o) ∷ js) off = shared_absent js y n m o (or_false (id_eq id y) (has_id (names_of js) id) off).0 (absent js (or_false (id_eq id y) (has_id (names_of js) id) off).1)

-- ---- it is named once

-- the one of this id
abbrev pub Only : ObjectId → Assigned → List Assigned → Type 0
Only id x [] = ⊥
Only id x (y ∷ ys) = ((y ≡ x) × (list_any (of_id id) ys ≡ false)) ⊎ ((id_eq id y.id ≡ false) × Only id x ys)

abbrev pub standing_in : Assigned → Standing
standing_in x = (x.version, x.writer)

pub record There (opening : List Object) (id : ObjectId) (js : Joined) (x : Assigned) : Type 0 where
  pub begins : first_of (beginning opening id) js ≡ Some (standing_in x)
  pub writes : has_id (mutables_of js) id ≡ x.mutable
  pub same : x.id ≡ id
  pub only : Only id x (filter_map (begun opening) js)

pub data Spot (opening : List Object) (id : ObjectId) (js : Joined) : Type 0 where
  is_absent : Absent opening id js → Spot opening id js
  is_there : (x : Assigned) → There opening id js x → Spot opening id js

module _ (opening : List Object) (id : ObjectId) where
  plain_spot : (js : Joined) (i : Input) (o : Option Digest) → beginning opening id (i, o) ≡ None → mutable_id i ≡ None → begun opening (i, o) ≡ None → Spot opening id js → Spot opening id ((i, o) ∷ js)
  plain_spot js i o b m a (is_absent rest) = is_absent (plain_absent opening id js i o b m a rest)
  plain_spot js (inputs.Pure bytes) o b m a (is_there x t) = is_there x (record { begins = skip opening id js (inputs.Pure bytes) o b ∙ t.begins; writes = t.writes; same = t.same; only = t.only })
  plain_spot js (inputs.Owned r) o b m a (is_there x t) = is_there x (record { begins = skip opening id js (inputs.Owned r) o b ∙ t.begins; writes = t.writes; same = t.same; only = t.only })
  plain_spot js (inputs.Immutable r) o b m a (is_there x t) = is_there x (record { begins = skip opening id js (inputs.Immutable r) o b ∙ t.begins; writes = t.writes; same = t.same; only = t.only })
  plain_spot js (inputs.Shared y n w) o b m a (is_there x t) = absurd (cc)

  other_spot : (js : Joined) (y : ObjectId) (n : ℕ) (m : Bool) (o : Option Digest) → id_eq id y ≡ false → Spot opening id js → Spot opening id ((inputs.Shared y n m, o) ∷ js)
  other_spot js y n m o off (is_absent rest) = is_absent (shared_absent opening id js y n m o off rest)
  other_spot js y n true o off (is_there x t) = is_there x (record {
    begins = skip opening id js (inputs.Shared y n true) o (other opening id y n true o off) ∙ t.begins;
    writes = ap (λ b. b || has_id (mutables_of js) id) off ∙ t.writes;
    same = t.same;
    only = inr (off, t.only);
  })
  other_spot js y n false o off (is_there x t) = is_there x (record {
    begins = skip opening id js (inputs.Shared y n false) o (other opening id y n false o off) ∙ t.begins;
    writes = t.writes;
    same = t.same;
    only = inr (off, t.only);
  })

  here_spot : (js : Joined) (y : ObjectId) (n : ℕ) (m : Bool) (o : Option Digest) → y ≡ id → Absent opening id js → Spot opening id ((inputs.Shared y n m, o) ∷ js)
  here_spot js y n true o is rest = is_there (assigned_to (begins opening y n o) y true) (record {
    begins = ap (λ b. first_some (where_true b (begins opening y n o) ∷ first_of (beginning opening id) js ∷ [])) (ap (id_eq y) (sym is) ∙ id_self y);
    writes = ap (λ b. b || has_id (mutables_of js) id) (ap (id_eq id) is ∙ id_self id);
    same = is;
    only = inl (refl, rest.assigned);
  })
  here_spot js y n false o is rest = is_there (assigned_to (begins opening y n o) y false) (record {
    begins = ap (λ b. first_some (where_true b (begins opening y n o) ∷ first_of (beginning opening id) js ∷ [])) (ap (id_eq y) (sym is) ∙ id_self y);
    writes = rest.writes;
    same = is;
    only = inl (refl, rest.assigned);
  })

  pub spot : (js : Joined) → repeats id_eq (names_of js) ≡ false → Spot opening id js
  spot [] once = is_absent (record { begins = refl; writes = refl; assigned = refl })
  spot ((inputs.Pure bytes, o) ∷ js) once = plain_spot js (inputs.Pure bytes) o refl refl refl (spot js once)
  spot ((inputs.Owned r, o) ∷ js) once = plain_spot js (inputs.Owned r) o refl refl refl (spot js (or_false (has_id (names_of js) r.id) (repeats id_eq (names_of js)) once).1)
  spot ((inputs.Immutable r, o) ∷ js) once = plain_spot js (inputs.Immutable r) o refl refl refl (spot js (or_false (has_id (names_of js) r.id) (repeats id_eq (names_of js)) once).1)
  spot ((inputs.Shared y n m, o) ∷ js) once =
      go (id_eq id y) refl (or_false (has_id (names_of js) y) (repeats id_eq (names_of js)) once).0 (spot js (or_false (has_id (names_of js) y) (repeats id_eq (names_of js)) once).1)
    where
      go : (b : Bool) → id_eq id y ≡ b → has_id (names_of js) y ≡ false → Spot opening id js → Spot opening id ((inputs.Shared y n m, o) ∷ js)
      go true is first rest = here_spot js y n m o (sym (id_same id y is)) (absent opening id js (ap (has_id (names_of js)) (id_same id y is) ∙ first))
      go false off first rest = other_spot js y n m o off rest

-- ---- each begins as it says itself

abbrev pub Begins : List Object → Joined → Assigned → Type 0
Begins opening js x = first_of (beginning opening x.id) js ≡ Some (standing_in x)

module _ (opening : List Object) where
  plain_begins : (js : Joined) (i : Input) (o : Option Digest) → ((id : ObjectId) → beginning opening id (i, o) ≡ None) → (xs : List Assigned) → Each (Begins opening js) xs → Each (Begins opening ((i, o) ∷ js)) xs
  plain_begins js i o none [] all = tt
  plain_begins js i o none (x ∷ xs) all = (skip opening x.id js i o (none x.id) ∙ all.0, plain_begins js i o none xs all.1)

  shared_begins : (js : Joined) (y : ObjectId) (n : ℕ) (m : Bool) (o : Option Digest) (xs : List Assigned) → list_any (of_id y) xs ≡ false → Each (Begins opening js) xs → Each (Begins opening ((inputs.Shared y n m, o) ∷ js)) xs
  shared_begins js y n m o [] off all = tt
  shared_begins js y n m o (x ∷ xs) off all =
      let b : (id_eq y x.id ≡ false) × (list_any (of_id y) xs ≡ false) = or_false (id_eq y x.id) (list_any (of_id y) xs) off in
      (skip opening x.id js (inputs.Shared y n m) o (other opening x.id y n m o (id_turned x.id y ∙ b.0)) ∙ all.0, shared_begins js y n m o xs b.1 all.1)

  pub each_begins : (js : Joined) → repeats id_eq (names_of js) ≡ false → Each (Begins opening js) (filter_map (begun opening) js)
  each_begins [] once = tt
  each_begins ((inputs.Pure bytes, o) ∷ js) once = plain_begins js (inputs.Pure bytes) o (λ id. refl) (filter_map (begun opening) js) (each_begins js once)
  each_begins ((inputs.Owned r, o) ∷ js) once =
      plain_begins js (inputs.Owned r) o (λ id. refl) (filter_map (begun opening) js) (each_begins js (or_false (has_id (names_of js) r.id) (repeats id_eq (names_of js)) once).1)
  each_begins ((inputs.Immutable r, o) ∷ js) once =
      plain_begins js (inputs.Immutable r) o (λ id. refl) (filter_map (begun opening) js) (each_begins js (or_false (has_id (names_of js) r.id) (repeats id_eq (names_of js)) once).1)
  each_begins ((inputs.Shared y n m, o) ∷ js) once =
      let b : (has_id (names_of js) y ≡ false) × (repeats id_eq (names_of js) ≡ false) = or_false (has_id (names_of js) y) (repeats id_eq (names_of js)) once in (
        ap (λ c. first_some (where_true c (begins opening y n o) ∷ first_of (beginning opening y) js ∷ [])) (id_self y),
        shared_begins js y n m o (filter_map (begun opening) js) (absent opening y js b.0).assigned (each_begins js b.1),
      )

-- ---- a certificate's inputs

pub firsts : (is : List Input) (os : List (Option Digest)) → length os ≡ length is → map input_in (zip is os) ≡ is
firsts [] os e = nothing os
  where
    nothing : (os : List (Option Digest)) → map input_in (zip [] os) ≡ []
    nothing [] = refl
    nothing (o ∷ os) = refl
firsts (i ∷ is) [] e = absurd (omega (arith, e))
firsts (i ∷ is) (o ∷ os) e = ap (λ xs. i ∷ xs) (firsts is os (omega arith))

through : {A : Type 0} → (f : Input → Option A) (js : Joined) → filter_map (λ (j : Input × Option Digest). f j.0) js ≡ filter_map f (map input_in js)
through f [] = refl
through f ((i, o) ∷ js) = ap (λ xs. cons_option (f i) xs) (through f js)

objects_write : (is : List Input) → filter_map mutable_id (filter is_object is) ≡ filter_map mutable_id is
objects_write [] = refl
objects_write (inputs.Pure bytes ∷ is) = objects_write is
objects_write (inputs.Owned r ∷ is) = objects_write is
objects_write (inputs.Immutable r ∷ is) = objects_write is
objects_write (inputs.Shared y n true ∷ is) = ap (λ xs. y ∷ xs) (objects_write is)
objects_write (inputs.Shared y n false ∷ is) = objects_write is

names_once : (t : Transaction) → shape_fault t ≡ None → repeats id_eq (named_ids t) ≡ false
unfolding shape_fault
names_once t shaped =
    let each : Each (λ (x : Option ℕ). x ≡ None) (shape_cases t) = all_none (shape_cases t) shaped in
    where_false (repeats id_eq (named_ids t)) 5 each.1.1.1.1.0

-- a certificate of valid shape, with one origin for each object
module _ (c : Certificate) (origins : length c.origins ≡ length (objects_of c.tx)) where
  pub inputs_are : map input_in (joined_inputs c) ≡ objects_of c.tx
  inputs_are = firsts (objects_of c.tx) c.origins origins

  pub once : shape_fault c.tx ≡ None → repeats id_eq (names_of (joined_inputs c)) ≡ false
  once shaped =
      ap (repeats id_eq) (through named_id (joined_inputs c) ∙ ap (filter_map named_id) inputs_are) ∙ names_once c.tx shaped

  pub writes_are : mutables_of (joined_inputs c) ≡ mutable_ids c
  writes_are = through mutable_id (joined_inputs c) ∙ ap (filter_map mutable_id) inputs_are ∙ objects_write c.tx.inputs
