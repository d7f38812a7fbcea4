-- What an admitted transaction wants: the versions that its certificate names, and those that admission assigned.
use Rattle.std.proofs.Common.{inl, inr, refl, sym, subst, ap, ◌∙◌}
use Rattle.std.proofs.lemmas.Bool.{eqb-true}
use Rattle.std.specs.Prelude.{◌≡◌, ℕ, Bool, true, false, cond, ◌==◌, List, [], ◌∷◌, ◌++◌, map, zip, filter_map, find, Option, Some, None, option_map}
use Rattle.digest_core.specs.declared.Digest.{Digest}
use Rattle.chain_types.specs.declared.objects.ObjectId.{ObjectId}
use Rattle.chain_types.specs.declared.objects.ObjectKey.{ObjectKey}
use Rattle.chain_types.specs.declared.objects.Object.{Object}
use Rattle.chain_types.specs.declared.objects.Producer.{Producer}
use Rattle.chain_types.specs.declared.objects.Producer.TheVariants as producers
use Rattle.chain_types.specs.declared.transactions.Input.{Input}
use Rattle.chain_types.specs.declared.transactions.Input.TheVariants as inputs
use Rattle.chain_types.specs.Equal.{id_eq, key_eq, digest_eq}
use Rattle.chain_messages.specs.declared.messages.Certificate.{Certificate}
use Rattle.protocol_spec.specs.declared.answers.Assigned.{Assigned}
use Rattle.protocol_spec.proofs.Equality.{id_same, digest_self, id_self}
use Rattle.protocol_spec.specs.Chain.Words.{Has, all_some}
use Rattle.protocol_spec.specs.Chain.Tests.{producer_eq}
use Rattle.protocol_spec.specs.Chain.Keys.{object_key, objects_of}
use Rattle.protocol_spec.proofs.ListLemmas.{find-test, and-first, and-second, find_has, has_mapped}
use Rattle.protocol_spec.proofs.Truth.{some_same}
use Rattle.protocol_spec.specs.Member.Versions.{Execution, Version, opened, versions, object_in}
use Rattle.protocol_spec.specs.Member.Admission.{Admitted, Admission, assigned_in, assigned_of, assigned_to, assignment, assignments, current, admit}
use Rattle.protocol_spec.specs.Member.Rounds.{Wanted, wanted_by, wanted_as, is_of_id, is_wanted, found}
use Rattle.block_law.specs.Admitted.{IsInOrder}
use Rattle.safety_law.proofs.Executing.{some-parts}
use Rattle.safety_law.proofs.Agreeing.{IsFrom, never-found, among-opening, among-written}
use Rattle.safety_law.proofs.Lists.{find-past}

-- ---- where a found version comes from

pub found-as : (vs : List Version) (w : Wanted) (o : Object) → found vs w ≡ Some o → (v : Version) × (find (is_wanted w.key w.producer) vs ≡ Some v) × (v.object ≡ o)
found-as vs w o e = go (find (is_wanted w.key w.producer) vs) refl e
  where
    go : (f : Option Version) → find (is_wanted w.key w.producer) vs ≡ f → option_map object_in f ≡ Some o → (v : Version) × (find (is_wanted w.key w.producer) vs ≡ Some v) × (v.object ≡ o)
    go None h e = absurd (cc)
    go (Some v) h e = (v, h, some_same v.object o e)

pub nobody : (vs : List Version) (key : ObjectKey) (o : Object) → found vs (record { key = key; producer = None }) ≡ Some o → ⊥
nobody vs key o e =
    let f = found-as vs (record { key = key; producer = None }) o e in
    let n = never-found key vs in
    absurd (cc)

pub from-opening : (opening : List Object) (executed : List Execution) (key : ObjectKey) (o : Object) → found (versions opening executed) (record { key = key; producer = Some producers.Opening }) ≡ Some o → Has opening o
from-opening opening executed key o e =
    let f = found-as (versions opening executed) (record { key = key; producer = Some producers.Opening }) o e in
    let h = find_has (is_wanted key (Some producers.Opening)) (map opened opening) f.0 (among-opening opening executed key f.0 f.1) in
    let p = has_mapped opened opening f.0 h in
    subst (Has opening) (ap (λ (v : Version). v.object) p.2 ∙ f.2) p.1

pub from-writer : (opening : List Object) (executed : List Execution) (key : ObjectKey) (tx : Digest) (o : Object) → found (versions opening executed) (record { key = key; producer = Some (producers.Tx tx) }) ≡ Some o → IsFrom executed tx o
from-writer opening executed key tx o e =
    let f = found-as (versions opening executed) (record { key = key; producer = Some (producers.Tx tx) }) o e in
    subst (IsFrom executed tx) f.2 (among-written opening executed key tx f.0 f.1)

key-of : (key : ObjectKey) (maker : Option Producer) (v : Version) → is_wanted key maker v ≡ true → (v.object.version == key.version) ≡ true
key-of key None v e = absurd (cc)
key-of key (Some p) v e = and-second (id_eq v.object.id key.id) (v.object.version == key.version) (and-first (key_eq (object_key v.object) key) (producer_eq v.producer p) e)

pub version-found : (vs : List Version) (w : Wanted) (o : Object) → found vs w ≡ Some o → o.version ≡ w.key.version
version-found vs w o e =
    let f = found-as vs w o e in
    sym (ap (λ (p : Object). p.version) f.2) ∙ eqb-true f.0.object.version w.key.version (key-of w.key w.producer f.0 (find-test (is_wanted w.key w.producer) vs f.0 f.1))

-- ---- what is wanted of each input

pub wanted-at : (get : Wanted → Option Object) (asks : (Input × Option Digest) → Wanted) (is : List Input) (ds : List (Option Digest)) (os : List Object) (i : Input) (o : Object) → all_some (map get (map asks (zip is ds))) ≡ Some os → Has (zip is os) (i, o) → (d : Option Digest) × Has (zip is ds) (i, d) × (get (asks (i, d)) ≡ Some o)
wanted-at get asks [] ds os i o e h = absurd h
wanted-at get asks (j ∷ is) ds [] i o e h = absurd h
wanted-at get asks (j ∷ is) [] (p ∷ os) i o e h = absurd (cc)
wanted-at get asks (j ∷ is) (d ∷ ds) (p ∷ os) i o e h = go (some-parts (get (asks (j, d))) (map get (map asks (zip is ds))) (p ∷ os) e) h (wanted-at get asks is ds os i o)
  where
    head : (q : Object) (rest : List Object) → Some (q ∷ rest) ≡ Some (p ∷ os) → q ≡ p
    head q rest e = cc

    tail : (q : Object) (rest : List Object) → Some (q ∷ rest) ≡ Some (p ∷ os) → rest ≡ os
    tail q rest e = cc

    go : (q : Object) × (rest : List Object) × (get (asks (j, d)) ≡ Some q) × (all_some (map get (map asks (zip is ds))) ≡ Some rest) × (Some (q ∷ rest) ≡ Some (p ∷ os)) → Has ((j, p) ∷ zip is os) (i, o) → (all_some (map get (map asks (zip is ds))) ≡ Some os → Has (zip is os) (i, o) → (c : Option Digest) × Has (zip is ds) (i, c) × (get (asks (i, c)) ≡ Some o)) → (c : Option Digest) × Has ((j, d) ∷ zip is ds) (i, c) × (get (asks (i, c)) ≡ Some o)
    go (q, rest, at, all, same) (inl r) back = (d, inl (ap (λ (z : Input × Object). (z.0, d)) r), subst (λ (z : Input × Object). get (asks (z.0, d)) ≡ Some z.1) r (at ∙ ap Some (head q rest same)))
    go (q, rest, at, all, same) (inr r) back = let w = back (all ∙ ap Some (tail q rest same)) r in (w.0, inr w.1, w.2)

-- ---- assigned versions

module _ (opening : List Object) (before : List Admitted) (c : Certificate) (id : ObjectId) where
  -- the version that is assigned to the first shared input of this id
  abbrev IsAssigned : Option Assigned → Type 0
  IsAssigned f = (b : Bool) × (f ≡ Some (assigned_to (current opening before c id) id b))

  pub assigned-first : (is : List Input) (initial : ℕ) (mutable : Bool) → Has is (inputs.Shared id initial mutable) → IsAssigned (find (is_of_id id) (filter_map (assignment opening before c) is))
  assigned-first [] initial mutable h = absurd h
  assigned-first (inputs.Pure bytes ∷ is) initial mutable (inl e) = absurd (cc)
  assigned-first (inputs.Pure bytes ∷ is) initial mutable (inr h) = assigned-first is initial mutable h
  assigned-first (inputs.Owned r ∷ is) initial mutable (inl e) = absurd (cc)
  assigned-first (inputs.Owned r ∷ is) initial mutable (inr h) = assigned-first is initial mutable h
  assigned-first (inputs.Immutable r ∷ is) initial mutable (inl e) = absurd (cc)
  assigned-first (inputs.Immutable r ∷ is) initial mutable (inr h) = assigned-first is initial mutable h
  assigned-first (inputs.Shared x n b ∷ is) initial mutable h = go (id_eq x id) refl h (assigned-first is initial mutable)
    where
      same-id : inputs.Shared x n b ≡ inputs.Shared id initial mutable → x ≡ id
      same-id e = cc

      go : (t : Bool) → id_eq x id ≡ t → Has (inputs.Shared x n b ∷ is) (inputs.Shared id initial mutable) → (Has is (inputs.Shared id initial mutable) → IsAssigned (find (is_of_id id) (filter_map (assignment opening before c) is)))
          → IsAssigned (cond t (Some (assigned_to (current opening before c x) x b)) (find (is_of_id id) (filter_map (assignment opening before c) is)))
      go true t h rest = (b, ap (λ (z : ObjectId). Some (assigned_to (current opening before c z) z b)) (id_same x id t))
      go false t (inr h) rest = rest h
      go false t (inl e) rest = absurd (let s = subst (λ (z : ObjectId). id_eq z id ≡ true) (sym (same-id e)) (id_self id) in cc)

module _ (opening : List Object) (front back : List Admitted) (adm : Admission) (a : Admitted) (split : adm.admitted ≡ front ++ (a ∷ back)) (next : IsInOrder opening front a) where
  -- what is assigned to an admitted transaction is what admission assigned after those before it
  pub assigned-is : assigned_of adm a.digest ≡ Some (assignments opening front a.cert)
  unfolding assigned_of admit
  assigned-is =
      ap (λ (admitted : List Admitted). option_map assigned_in (find (λ (x : Admitted). digest_eq x.digest a.digest) admitted)) split
      ∙ ap (option_map assigned_in) (find-past (λ (x : Admitted). digest_eq x.digest a.digest) front a back next.new (digest_self a.digest))
      ∙ ap (λ (x : Admitted). Some x.assigned) next.versions

  pub shared-wanted : (id : ObjectId) (initial : ℕ) (mutable : Bool) (d : Option Digest) → Has (objects_of a.cert.tx) (inputs.Shared id initial mutable)
      → wanted_by (Some (assignments opening front a.cert)) (inputs.Shared id initial mutable, d) ≡ record { key = record { id = id; version = (current opening front a.cert id).0 }; producer = Some (current opening front a.cert id).1 }
  shared-wanted id initial mutable d h =
      let f = assigned-first opening front a.cert id (objects_of a.cert.tx) initial mutable h in
      ap (wanted_as id initial) f.1
