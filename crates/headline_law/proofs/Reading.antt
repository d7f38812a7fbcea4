-- What a runnable certificate reads: objects that are there, and of a shared object the version that was assigned.
use Rattle.std.proofs.Common.{inl, inr, refl, sym, subst, ap, ◌∙◌}
use Rattle.std.specs.Prelude.{◌≡◌, ◌⊎◌, ℕ, Bool, true, false, not, ◌||◌, List, [], ◌∷◌, ◌++◌, map, zip, filter, Option, Some}
use Rattle.std.specs.List.{list_any}
use Rattle.digest_core.specs.declared.Digest.{Digest}
use Rattle.chain_types.specs.declared.objects.ObjectId.{ObjectId}
use Rattle.chain_types.specs.declared.objects.Object.{Object}
use Rattle.chain_types.specs.declared.transactions.Input.{Input}
use Rattle.chain_types.specs.declared.transactions.Input.TheVariants as inputs
use Rattle.chain_types.specs.declared.transactions.Transaction.{Transaction}
use Rattle.chain_types.specs.Equal.{digest_eq}
use Rattle.chain_types.specs.Digests.{is_object}
use Rattle.protocol_spec.specs.declared.answers.Assigned.{Assigned}
use Rattle.protocol_spec.specs.declared.answers.Held.{Held}
use Rattle.protocol_spec.proofs.Equality.{digest_same}
use Rattle.protocol_spec.specs.Chain.Words.{Has, Along, IsFront, all_some}
use Rattle.protocol_spec.specs.Chain.Keys.{objects_of, is_shared_input, has_shared_input, fits_input, fits}
use Rattle.protocol_spec.proofs.ListLemmas.{find_has}
use Rattle.protocol_spec.specs.Member.Versions.{Execution, Version, versions, object_in}
use Rattle.protocol_spec.specs.Member.Admission.{Admitted, Admission, is_admitted, assigned_of, assignments, current}
use Rattle.protocol_spec.specs.Member.Rounds.{Wanted, is_wanted, wanted_by, wants_of, found, present, may_run, executes_as}
use Rattle.protocol_spec.specs.Member.Member.{Member, books}
use Rattle.block_law.proofs.Live.{any-has}
use Rattle.block_law.specs.Admitted.{held_again, IsInOrder}
use Rattle.safety_law.proofs.Executed.{same-wants}
use Rattle.safety_law.specs.Explained.{IsExplained}
use Rattle.safety_law.proofs.Executing.{wants-same, explained-more}
use Rattle.block_law.specs.Orderly.{Step, gave}
use Rattle.block_law.proofs.ReadingSteps.{has-zip}
use Rattle.safety_law.proofs.Lists.{along-split}
use Rattle.safety_law.proofs.Wants.{found-as, version-found, wanted-at, assigned-is, shared-wanted}
use Rattle.headline_law.proofs.Present.{IsOpened, IsWrote, version-from}
use Rattle.block_law.proofs.Written.{fit-at, fits-first}

-- a held certificate whose inputs are present and fit, and that is admitted if it has a shared input
pub record IsRunnable (m : Member) (x : Step) : Type 0 where
  pub of : Held
  pub is_held : Has m.held of
  pub may : may_run (books m) of ≡ true
  pub tx : of.cert.tx ≡ x.tx
  pub there : present (books m) m.executed of ≡ Some x.inputs
  pub fit : fits x.tx x.inputs ≡ true

pub fits-it : (x : Step) (i : Input) (o : Object) → fits x.tx x.inputs ≡ true → Has (zip (objects_of x.tx) x.inputs) (i, o) → fits_input x.tx i o ≡ true
fits-it x i o fit h = fit-at x.tx (objects_of x.tx) x.inputs i o (fits-first x.tx x.inputs fit) h

-- ---- wants

pub same-present : (m : Member) (h k : Held) → h.digest ≡ k.digest → h.cert.tx ≡ k.cert.tx → h.cert.origins ≡ k.cert.origins → present (books m) m.executed h ≡ present (books m) m.executed k
unfolding present
same-present m h k d t o = ap (λ (ws : List Wanted). all_some (map (found (versions m.opening m.executed)) ws)) (same-wants m.sequence.admission h k d t o)

-- ---- an execution is of a runnable certificate

pub record IsExecutionOf (m : Member) (y : Execution) (x : Step) : Type 0 where
  pub runs : IsRunnable m x
  pub is : y ≡ executes_as runs.of (gave x)

pub execution-of : (m : Member) → Along (IsExplained (books m)) [] m.executed → (y : Execution) → Has m.executed y → (x : Step) × IsExecutionOf m y x
execution-of m along y h =
    let r = along-split (IsExplained (books m)) [] m.executed y along h in
    step-of (subst (λ (xs : List Execution). IsExplained (books m) xs y) (sym r.2) (explained-more (books m) r.0 (y ∷ r.1) y r.3))
  where
    step-of : IsExplained (books m) m.executed y → (x : Step) × IsExecutionOf m y x
    step-of it = (
      record { tx = it.of.cert.tx; inputs = it.inputs },
      record { runs = record { of = it.of; is_held = it.is_held; may = it.may; tx = refl; there = it.were_there; fit = it.fit }; is = it.is },
    )

module _ (m : Member) (x : Step) (it : IsRunnable m x) where
  wanted-of : (i : Input) (o : Object) → Has (zip (objects_of x.tx) x.inputs) (i, o) → (d : Option Digest) × Has (zip (objects_of it.of.cert.tx) it.of.cert.origins) (i, d) × (found (versions m.opening m.executed) (wanted_by (assigned_of m.sequence.admission it.of.digest) (i, d)) ≡ Some o)
  unfolding present wants_of
  wanted-of i o h = wanted-at (found (versions m.opening m.executed)) (wanted_by (assigned_of m.sequence.admission it.of.digest)) (objects_of it.of.cert.tx) it.of.cert.origins x.inputs i o it.there
      (subst (λ (t : Transaction). Has (zip (objects_of t) x.inputs) (i, o)) (sym it.tx) h)

  -- what it reads is an opening object, or an executed transaction wrote it
  pub read-from : (i : Input) (o : Object) → Has (zip (objects_of x.tx) x.inputs) (i, o) → Has m.opening o ⊎ ((y : Execution) × Has m.executed y × Has y.gave.objects o)
  read-from i o h =
      let w = wanted-of i o h in
      let want = wanted_by (assigned_of m.sequence.admission it.of.digest) (i, w.0) in
      let v = found-as (versions m.opening m.executed) want o w.2 in
      go v.0 v.2 (version-from m.opening m.executed v.0 (find_has (is_wanted want.key want.producer) (versions m.opening m.executed) v.0 v.1))
    where
      go : (v : Version) → v.object ≡ o → IsOpened m.opening v ⊎ IsWrote m.executed v → Has m.opening o ⊎ ((y : Execution) × Has m.executed y × Has y.gave.objects o)
      go v e (inl (p, there, q)) = inl (subst (Has m.opening) (ap object_in q ∙ e) there)
      go v e (inr (y, there, p, wrote, q)) = inr (y, there, subst (Has y.gave.objects) (ap object_in q ∙ e) wrote)

  -- ---- shared inputs

  -- with a shared input it was admitted
  pub admitted-as : (id : ObjectId) (initial : ℕ) (mutable : Bool) → Has (objects_of x.tx) (inputs.Shared id initial mutable) → (a : Admitted) × Has m.sequence.admission.admitted a × (a.digest ≡ it.of.digest)
  admitted-as id initial mutable h =
      let a = any-has (λ (a : Admitted). digest_eq a.digest it.of.digest) m.sequence.admission.admitted
      (go (has_shared_input it.of.cert.tx) (shared (subst (λ (t : Transaction). Has (objects_of t) (inputs.Shared id initial mutable)) (sym it.tx) h)) it.may) in
      (a.0, a.1, digest_same a.0.digest it.of.digest a.2)
    where
      go : (b : Bool) → b ≡ true → (not b || is_admitted m.sequence.admission.admitted it.of.digest) ≡ true → is_admitted m.sequence.admission.admitted it.of.digest ≡ true
      go true e may = may
      go false e may = absurd (cc)

      any-shared : (is : List Input) → Has (filter is_object is) (inputs.Shared id initial mutable) → list_any is_shared_input is ≡ true
      any-shared [] h = absurd h
      any-shared (inputs.Pure bytes ∷ is) h = any-shared is h
      any-shared (inputs.Owned r ∷ is) (inl e) = absurd (cc)
      any-shared (inputs.Owned r ∷ is) (inr h) = any-shared is h
      any-shared (inputs.Immutable r ∷ is) (inl e) = absurd (cc)
      any-shared (inputs.Immutable r ∷ is) (inr h) = any-shared is h
      any-shared (inputs.Shared z n b ∷ is) h = refl

      shared : Has (objects_of it.of.cert.tx) (inputs.Shared id initial mutable) → has_shared_input it.of.cert.tx ≡ true
      shared (inl e) = absurd (cc)
      shared (inr h) = any-shared it.of.cert.tx.inputs h

  -- of a longer admission, in which its certificate stands after these, it reads the version that is assigned there
  module _ (adm : Admission) (more : IsFront m.sequence.admission.admitted adm.admitted) (front back : List Admitted) (a : Admitted) (split : adm.admitted ≡ front ++ (a ∷ back)) (next : IsInOrder m.opening front a)
      (digest : it.of.digest ≡ a.digest) (tx : it.of.cert.tx ≡ a.cert.tx) (origins : it.of.cert.origins ≡ a.cert.origins) where
    there-as : all_some (map (found (versions m.opening m.executed)) (map (wanted_by (Some (assignments m.opening front a.cert))) (zip (objects_of a.cert.tx) a.cert.origins))) ≡ Some x.inputs
    unfolding present wants_of
    there-as = subst (λ (asg : Option (List Assigned)). all_some (map (found (versions m.opening m.executed)) (map (wanted_by asg) (zip (objects_of a.cert.tx) a.cert.origins))) ≡ Some x.inputs)
        (assigned-is m.opening front back adm a split next)
        (subst (λ (ws : List Wanted). all_some (map (found (versions m.opening m.executed)) ws) ≡ Some x.inputs)
        (sym (wants-same m.sequence.admission adm it.of more it.may) ∙ same-wants adm it.of (held_again a) digest tx origins) it.there)

    pub shared-read : (id : ObjectId) (initial : ℕ) (mutable : Bool) (o : Object) → Has (zip (objects_of x.tx) x.inputs) (inputs.Shared id initial mutable, o) → o.version ≡ (current m.opening front a.cert id).0
    shared-read id initial mutable o h =
        let named = subst (λ (t : Transaction). Has (zip (objects_of t) x.inputs) (inputs.Shared id initial mutable, o)) (sym it.tx ∙ tx) h in
        let w = wanted-at (found (versions m.opening m.executed)) (wanted_by (Some (assignments m.opening front a.cert))) (objects_of a.cert.tx) a.cert.origins x.inputs (inputs.Shared id initial mutable) o there-as named in
        version-found (versions m.opening m.executed) (wanted_by (Some (assignments m.opening front a.cert)) (inputs.Shared id initial mutable, w.0)) o w.2
        ∙ ap (λ (want : Wanted). want.key.version) (shared-wanted m.opening front back adm a split next id initial mutable w.0 (has-zip (objects_of a.cert.tx) x.inputs (inputs.Shared id initial mutable) o named))
