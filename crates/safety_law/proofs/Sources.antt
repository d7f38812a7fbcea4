-- Where the objects of an admitted transaction come from.
use Rattle.std.proofs.Common.{inl, inr, refl, sym, subst, ap, ◌∙◌}
use Rattle.std.specs.Prelude.{◌≡◌, ◌⊎◌, ℕ, Bool, true, false, List, [], ◌∷◌, ◌++◌, map, zip, Option, Some, None, option_map}
use Rattle.digest_core.specs.declared.Digest.{Digest}
use Rattle.chain_types.specs.declared.objects.ObjectId.{ObjectId}
use Rattle.chain_types.specs.declared.objects.ObjectKey.{ObjectKey}
use Rattle.chain_types.specs.declared.objects.Object.{Object}
use Rattle.chain_types.specs.declared.objects.Producer.{Producer}
use Rattle.chain_types.specs.declared.objects.Producer.TheVariants as producers
use Rattle.chain_types.specs.declared.transactions.Input.{Input}
use Rattle.chain_types.specs.declared.transactions.Input.TheVariants as inputs
use Rattle.chain_types.specs.Equal.{id_eq, digest_eq}
use Rattle.chain_types.specs.Digests.{key_of}
use Rattle.chain_messages.specs.declared.messages.Certificate.{Certificate}
use Rattle.protocol_spec.specs.declared.pieces.Executed.{Executed}
use Rattle.protocol_spec.specs.declared.answers.Assigned.{Assigned}
use Rattle.protocol_spec.proofs.Equality.{digest_same}
use Rattle.protocol_spec.proofs.ListLemmas.{has_left, has_parts, has_mapped}
use Rattle.protocol_spec.proofs.Truth.{some_same}
use Rattle.protocol_spec.specs.Chain.Words.{Has, Each, Along, all_some, first_some, first_of, where_true, last_where}
use Rattle.protocol_spec.specs.Chain.Keys.{objects_of}
use Rattle.protocol_spec.specs.Member.Versions.{Execution, versions}
use Rattle.protocol_spec.specs.Member.Admission.{Admitted, Standing, is_admitted, joined_inputs, writes, cert_of, begins, beginning, beginning_by, standing_after, standing_or, current, assignments}
use Rattle.protocol_spec.specs.Member.Rounds.{Wanted, wanted_by, wanted_version, wants_of, found, present, producer_of, executes_as}
use Rattle.protocol_spec.specs.Member.Votes.{shared_key}
use Rattle.protocol_spec.specs.Member.Member.{Member}
use Rattle.block_law.proofs.Live.{any-has, has-any}
use Rattle.block_law.specs.Admitted.{held_again, is_origin_in, IsInOrder}
use Rattle.block_law.proofs.Steps.{map-append}
use Rattle.block_law.proofs.Written.{second}
use Rattle.safety_law.proofs.Agreeing.{IsFrom}
use Rattle.block_law.specs.Orderly.{Step, gave, MutatesNot, IsLeftAlone, IsWritten, IsSource}
use Rattle.block_law.proofs.ReadingSteps.{has-zip}
use Rattle.safety_law.specs.Steps.{step_of, IsStepOf}
use Rattle.safety_law.proofs.Lists.{has-split, has-middle, each-mapped, along-split, all-has, first-says, last-none, last-split}
use Rattle.safety_law.proofs.Wants.{nobody, from-opening, from-writer, wanted-at, assigned-is, shared-wanted}
use Rattle.safety_law.proofs.Totals.{each-all}

-- ---- where a shared object begins

begun-at : (opening : List Object) (id : ObjectId) (st : Standing) (i : Input) (d : Option Digest) → beginning opening id (i, d) ≡ Some st → st.1 ≡ producer_of d
begun-at opening id st (inputs.Pure bytes) d e = absurd (cc)
begun-at opening id st (inputs.Owned r) d e = absurd (cc)
begun-at opening id st (inputs.Immutable r) d e = absurd (cc)
begun-at opening id st (inputs.Shared x initial mutable) d e = go (id_eq x id) e
  where
    stands : (d : Option Digest) → (begins opening x initial d).1 ≡ producer_of d
    stands None = refl
    stands (Some tx) = refl

    go : (b : Bool) → where_true b (begins opening x initial d) ≡ Some st → st.1 ≡ producer_of d
    go false e = absurd (cc)
    go true e = ap (λ (z : Standing). z.1) (sym (some_same (begins opening x initial d) st e)) ∙ stands d

-- a certificate that names the origin of a shared object
record IsNamer (certs : List Certificate) (origin : Digest) : Type 0 where
  cert : Certificate
  among : Has certs cert
  names : Has cert.origins (Some origin)

begun-by : (opening : List Object) (id : ObjectId) (certs : List Certificate) (st : Standing) → first_of (beginning_by opening id) certs ≡ Some st → (st.1 ≡ producers.Opening) ⊎ ((origin : Digest) × (st.1 ≡ producers.Tx origin) × IsNamer certs origin)
begun-by opening id certs st e =
    let c = first-says (beginning_by opening id) certs st e in
    let x = first-says (beginning opening id) (joined_inputs c.0) st c.2 in
    go c.0 c.1 x.0.0 x.0.1 x.1 (begun-at opening id st x.0.0 x.0.1 x.2)
  where
    go : (c : Certificate) → Has certs c → (i : Input) (d : Option Digest) → Has (zip (objects_of c.tx) c.origins) (i, d) → st.1 ≡ producer_of d → (st.1 ≡ producers.Opening) ⊎ ((origin : Digest) × (st.1 ≡ producers.Tx origin) × IsNamer certs origin)
    go c h i None k e = inl e
    go c h i (Some origin) k e = inr (origin, e, record { cert = c; among = h; names = second (objects_of c.tx) c.origins i (Some origin) k })

-- what each of its objects was found for
module _ (m : Member) (before back : List Admitted) (a : Admitted) (split : m.sequence.admission.admitted ≡ before ++ (a ∷ back))
    (next : IsInOrder m.opening before a) (step : IsStepOf m a) where
  pub wanted-of : (i : Input) (o : Object) → Has (zip (objects_of a.cert.tx) (step_of m a).inputs) (i, o) → (d : Option Digest) × Has (zip (objects_of a.cert.tx) a.cert.origins) (i, d) × (found (versions m.opening m.executed) (wanted_by (Some (assignments m.opening before a.cert)) (i, d)) ≡ Some o)
  unfolding present wants_of
  wanted-of i o h = wanted-at (found (versions m.opening m.executed)) (wanted_by (Some (assignments m.opening before a.cert))) (objects_of a.cert.tx) a.cert.origins (step_of m a).inputs i o
      (subst (λ (asg : Option (List Assigned)). all_some (map (found (versions m.opening m.executed)) (map (wanted_by asg) (zip (objects_of a.cert.tx) a.cert.origins))) ≡ Some (step_of m a).inputs)
      (assigned-is m.opening before back m.sequence.admission a split next) step.there) h

module _ (m : Member) (agree : (x y : Execution) → Has m.executed x → Has m.executed y → x.digest ≡ y.digest → x.gave ≡ y.gave)
    (before back : List Admitted) (a : Admitted) (split : m.sequence.admission.admitted ≡ before ++ (a ∷ back))
    (ordered : Along (IsInOrder m.opening) [] before) (next : IsInOrder m.opening before a)
    (done : (b : Admitted) → Has before b → IsStepOf m b) (step : IsStepOf m a) where
  abbrev earlier : List Step
  earlier = map (step_of m) before

  -- ---- an object that an earlier transaction wrote

  written-by : (b : Admitted) (p q : List Admitted) → before ≡ p ++ (b ∷ q) → (o : Object) → IsFrom m.executed b.digest o → (i : Input) → IsLeftAlone i (map (step_of m) q) → IsWritten earlier i o
  written-by b p q e o from i alone = record {
    front = map (step_of m) p;
    writer = step_of m b;
    back = map (step_of m) q;
    split = ap (map (step_of m)) e ∙ map-append (step_of m) p (b ∷ q);
    written = subst (λ (g : Executed). Has g.objects o)
        (agree from.by (executes_as (held_again b) (gave (step_of m b))) from.there (done b (subst (λ (zs : List Admitted). Has zs b) (sym e) (has-middle p b q))).executed from.named) from.written;
    alone = alone;
  }

  by-admitted : (tx : Digest) → is_admitted before tx ≡ true → (o : Object) → IsFrom m.executed tx o → (i : Input) → ((q : List Admitted) → ((b : Admitted) → Has q b → Has before b) → IsLeftAlone i (map (step_of m) q)) → IsWritten earlier i o
  by-admitted tx there o from i alone =
      let b = any-has (λ (x : Admitted). digest_eq x.digest tx) before there in
      let r = has-split before b.0 b.1 in
      written-by b.0 r.0 r.1 r.2 o (subst (λ (d : Digest). IsFrom m.executed d o) (sym (digest_same b.0.digest tx b.2)) from) i
      (alone r.1 (λ z h. subst (λ (zs : List Admitted). Has zs z) (sym r.2) (behind r.0 b.0 r.1 z h)))
    where
      behind : (p : List Admitted) (b : Admitted) (q : List Admitted) (z : Admitted) → Has q z → Has (p ++ (b ∷ q)) z
      behind [] b q z h = inr h
      behind (y ∷ p) b q z h = inr (behind p b q z h)

  own-origin : (tx : Digest) → Has a.cert.origins (Some tx) → is_admitted before tx ≡ true
  own-origin tx h = all-has (is_origin_in before) a.cert.origins (Some tx) next.origins h

  earlier-origin : (b : Admitted) → Has before b → (tx : Digest) → Has b.cert.origins (Some tx) → is_admitted before tx ≡ true
  earlier-origin b h tx k =
      let r = along-split (IsInOrder m.opening) [] before b ordered h in
      let x = any-has (λ (y : Admitted). digest_eq y.digest tx) r.0 (all-has (is_origin_in r.0) b.cert.origins (Some tx) r.3.origins k) in
      has-any (λ (y : Admitted). digest_eq y.digest tx) before x.0 (subst (λ (zs : List Admitted). Has zs x.0) (sym r.2) (has_left r.0 (b ∷ r.1) x.0 x.1)) x.2

  -- ---- a version that the certificate names

  named-source : (i : Input) (key : ObjectKey) (d : Option Digest) (o : Object) → ((ys : List Step) → IsLeftAlone i ys) → Has (zip (objects_of a.cert.tx) a.cert.origins) (i, d) → found (versions m.opening m.executed) (wanted_version key d) ≡ Some o → IsSource m.opening earlier i o
  named-source i key None o alone h e = inl (record { opened = from-opening m.opening m.executed key o e; alone = alone earlier })
  named-source i key (Some tx) o alone h e = inr (by-admitted tx (own-origin tx (second (objects_of a.cert.tx) a.cert.origins i (Some tx) h)) o (from-writer m.opening m.executed key tx o e) i (λ q inside. alone (map (step_of m) q)))

  -- ---- a version that was assigned

  abbrev standing : Option Admitted → Option Standing → Standing
  standing l f = standing_or (first_some (option_map standing_after l ∷ f ∷ []))

  abbrev certs : List Certificate
  certs = map cert_of before ++ a.cert ∷ []

  namer-admitted : (origin : Digest) → IsNamer certs origin → is_admitted before origin ≡ true
  namer-admitted origin it = go (has_parts (map cert_of before) (a.cert ∷ []) it.cert it.among)
    where
      go : Has (map cert_of before) it.cert ⊎ Has (a.cert ∷ []) it.cert → is_admitted before origin ≡ true
      go (inl h) =
          let b = has_mapped cert_of before it.cert h in
          earlier-origin b.0 b.1 origin (subst (λ (c : Certificate). Has c.origins (Some origin)) (sym b.2) it.names)
      go (inr (inl e)) = own-origin origin (subst (λ (c : Certificate). Has c.origins (Some origin)) (sym e) it.names)
      go (inr (inr h)) = absurd h

  module _ (id : ObjectId) (initial : ℕ) (mutable : Bool) (key : ObjectKey) (o : Object) where
    abbrev finds : Producer → Type 0
    finds p = found (versions m.opening m.executed) (record { key = key; producer = Some p }) ≡ Some o

    abbrev Source : Type 0
    Source = IsSource m.opening earlier (inputs.Shared id initial mutable) o

    alone-all : Each (λ (z : Admitted). writes id z ≡ false) before → (q : List Admitted) → ((b : Admitted) → Has q b → Has before b) → Each (MutatesNot id) (map (step_of m) q)
    alone-all none q inside = each-mapped (MutatesNot id) (step_of m) q (each-all (λ (z : Admitted). MutatesNot id (step_of m z)) q (λ z h. each-at before none z (inside z h)))
      where
        each-at : (zs : List Admitted) → Each (λ (z : Admitted). writes id z ≡ false) zs → (z : Admitted) → Has zs z → writes id z ≡ false
        each-at [] each z h = absurd h
        each-at (y ∷ zs) each z (inl e) = subst (λ (x : Admitted). writes id x ≡ false) e each.0
        each-at (y ∷ zs) each z (inr h) = each-at zs each.1 z h

    of-opening : Each (λ (z : Admitted). writes id z ≡ false) before → finds producers.Opening → Source
    of-opening none e = inl (record { opened = from-opening m.opening m.executed key o e; alone = alone-all none before (λ b h. h) })

    shared-source : (l : Option Admitted) → last_where (writes id) before ≡ l → (f : Option Standing) → first_of (beginning_by m.opening id) certs ≡ f → finds (standing l f).1 → Source
    shared-source (Some w) h f k e =
        let r = last-split (writes id) before w h in
        inr (written-by w r.0 r.1 r.2 o (from-writer m.opening m.executed key w.digest o e) (inputs.Shared id initial mutable) (each-mapped (MutatesNot id) (step_of m) r.1 r.3))
    shared-source None h None k e = of-opening (last-none (writes id) before h) e
    shared-source None h (Some st) k e = go (begun-by m.opening id certs st k)
      where
        go : (st.1 ≡ producers.Opening) ⊎ ((origin : Digest) × (st.1 ≡ producers.Tx origin) × IsNamer certs origin) → Source
        go (inl q) = of-opening (last-none (writes id) before h) (subst finds q e)
        go (inr (origin, q, it)) = inr (by-admitted origin (namer-admitted origin it) o (from-writer m.opening m.executed key origin o (subst finds q e)) (inputs.Shared id initial mutable) (alone-all (last-none (writes id) before h)))

  -- ---- all of them

  source-at : (i : Input) (d : Option Digest) (o : Object) → Has (zip (objects_of a.cert.tx) a.cert.origins) (i, d) → found (versions m.opening m.executed) (wanted_by (Some (assignments m.opening before a.cert)) (i, d)) ≡ Some o → IsSource m.opening earlier i o
  unfolding current
  source-at (inputs.Pure bytes) d o h e = absurd (nobody (versions m.opening m.executed) (shared_key (record { 0 = record { 0 = [] } }) 0) o e)
  source-at (inputs.Owned r) d o h e = named-source (inputs.Owned r) (key_of r) d o (λ ys. tt) h e
  source-at (inputs.Immutable r) d o h e = named-source (inputs.Immutable r) (key_of r) d o (λ ys. tt) h e
  source-at (inputs.Shared id initial mutable) d o h e =
      shared-source id initial mutable (record { id = id; version = (current m.opening before a.cert id).0 }) o (last_where (writes id) before) refl (first_of (beginning_by m.opening id) certs) refl
      (subst (λ (w : Wanted). found (versions m.opening m.executed) w ≡ Some o) (shared-wanted m.opening before back m.sequence.admission a split next id initial mutable d (has-zip (objects_of a.cert.tx) a.cert.origins (inputs.Shared id initial mutable) d h)) e)

  pub sources : (i : Input) (o : Object) → Has (zip (objects_of a.cert.tx) (step_of m a).inputs) (i, o) → IsSource m.opening earlier i o
  sources i o h = let w = wanted-of m before back a split next step i o h in source-at i w.0 o w.1 w.2
