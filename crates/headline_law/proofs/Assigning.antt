-- In every sequence what is assigned to a transaction is above what was assigned to those before it that write the object.
use Rattle.std.proofs.Common.{refl, sym, subst, ap, ◌∙◌, append_assoc}
use Rattle.std.specs.Prelude.{◌≡◌, ◌<◌, ℕ, Bool, true, false, List, [], ◌∷◌, ◌++◌, Some}
use Rattle.chain_types.specs.declared.objects.ObjectId.{ObjectId}
use Rattle.chain_types.specs.declared.objects.Object.{Object}
use Rattle.chain_types.specs.declared.transactions.Input.{Input}
use Rattle.chain_types.specs.declared.transactions.Input.TheVariants as inputs
use Rattle.protocol_spec.specs.declared.answers.Assigned.{Assigned}
use Rattle.protocol_spec.specs.Chain.Words.{Has, Along}
use Rattle.protocol_spec.specs.Chain.Certificates.{Rules}
use Rattle.protocol_spec.specs.Chain.Keys.{objects_of}
use Rattle.protocol_spec.proofs.ListLemmas.{along-push}
use Rattle.protocol_spec.specs.Member.Admission.{Admitted, writes, assigned_to, assignment, current, admit}
use Rattle.protocol_spec.specs.Member.Sequence.{seen}
use Rattle.block_law.specs.Admitted.{IsInOrder}
use Rattle.block_law.proofs.Tidy.{tidy-seen}
use Rattle.safety_law.proofs.Lists.{along-split}
use Rattle.headline_law.specs.Assigned.{IsAssignedAbove}
use Rattle.headline_law.proofs.Rising.{writes-it, rising}
use Rattle.block_law.proofs.Written.{chosen-from}

module _ (opening : List Object) where
  -- what is assigned is the current version, of an input that may write it if the assignment says so
  record IsCurrent (before : List Admitted) (a : Admitted) (u : Assigned) : Type 0 where
    version_is : u.version ≡ (current opening before a.cert u.id).0
    written : u.mutable ≡ true → writes u.id a ≡ true

  is-current : (before : List Admitted) (a : Admitted) (u : Assigned) (i : Input) → Has (objects_of a.cert.tx) i → assignment opening before a.cert i ≡ Some u → IsCurrent before a u
  is-current before a u (inputs.Pure bytes) h e = absurd (cc)
  is-current before a u (inputs.Owned r) h e = absurd (cc)
  is-current before a u (inputs.Immutable r) h e = absurd (cc)
  is-current before a u (inputs.Shared id initial mutable) h e = subst (IsCurrent before a) (same (assigned_to (current opening before a.cert id) id mutable) e) (record { version_is = refl; written = at mutable h })
    where
      same : (x : Assigned) → Some x ≡ Some u → x ≡ u
      same x e = cc

      at : (b : Bool) → Has (objects_of a.cert.tx) (inputs.Shared id initial b) → b ≡ true → writes id a ≡ true
      at true h e = writes-it a id initial h
      at false h e = absurd (cc)

  assigned-current : (before : List Admitted) (a : Admitted) → IsInOrder opening before a → (u : Assigned) → Has a.assigned u → IsCurrent before a u
  unfolding admit
  assigned-current before a next u h =
      let i = chosen-from (assignment opening before a.cert) (objects_of a.cert.tx) u (subst (λ (us : List Assigned). Has us u) (ap (λ (x : Admitted). x.assigned) next.versions) h) in
      is-current before a u i.0 i.1 i.2

  -- ---- one after those in order

  assigned-above : (before : List Admitted) (b : Admitted) → Along (IsInOrder opening) [] before → IsInOrder opening before b → IsAssignedAbove before b
  assigned-above before b along next a h u v one two same mutable =
      let r = along-split (IsInOrder opening) [] before a along h in
      let first = assigned-current r.0 a r.3 u one in
      let second = assigned-current before b next v two in
      let split = ap (λ (zs : List Admitted). zs ++ b ∷ []) r.2 ∙ append_assoc r.0 (a ∷ r.1) (b ∷ []) in
      let rise = rising opening u.id r.0 r.1 [] a b (subst (λ (zs : List Admitted). Along (IsInOrder opening) [] zs) split (along-push (IsInOrder opening) [] before b along next)) (first.written mutable) in
      subst (λ (n : ℕ). n < v.version) (sym first.version_is)
      (subst (λ (n : ℕ). (current opening r.0 a.cert u.id).0 < n) (sym second.version_is)
      (subst (λ (z : ObjectId). (current opening r.0 a.cert u.id).0 < (current opening before b.cert z).0) same
      (subst (λ (zs : List Admitted). (current opening r.0 a.cert u.id).0 < (current opening zs b.cert u.id).0) (sym r.2) rise)))

  all-above : (xs before : List Admitted) → Along (IsInOrder opening) [] before → Along (IsInOrder opening) before xs → Along IsAssignedAbove before xs
  all-above [] before done along = tt
  all-above (b ∷ xs) before done along = (assigned-above before b done along.0, all-above xs (before ++ b ∷ []) (along-push (IsInOrder opening) [] before b done along.0) along.1)

pub assigned-versions-rise : (r : Rules) (opening : List Object) (epoch : ℕ) (entries : List (List ℕ)) → Along IsAssignedAbove [] (seen r opening epoch entries).admission.admitted
assigned-versions-rise r opening epoch entries = all-above opening (seen r opening epoch entries).admission.admitted [] tt (tidy-seen r opening epoch entries)
