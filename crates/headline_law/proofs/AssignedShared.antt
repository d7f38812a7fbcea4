-- The version that admission assigned to a shared input is there, once its writer was executed.
use Rattle.std.proofs.Common.{inl, inr, refl, sym, subst, ap, ◌∙◌}
use Rattle.std.proofs.lemmas.Bool.{eq-eqb}
use Rattle.std.specs.Prelude.{◌≡◌, ◌⊎◌, ℕ, Bool, true, false, not, ◌==◌, nat_le, List, [], ◌∷◌, ◌++◌, map, zip, find, slice_get, Option, Some, None, option_map, is_some}
use Rattle.std.specs.List.{list_any}
use Rattle.digest_core.specs.declared.Digest.{Digest}
use Rattle.chain_types.specs.declared.objects.ObjectId.{ObjectId}
use Rattle.chain_types.specs.declared.objects.Object.{Object}
use Rattle.chain_types.specs.declared.objects.Producer.TheVariants as producers
use Rattle.chain_types.specs.declared.transactions.Input.{Input}
use Rattle.chain_types.specs.declared.transactions.Input.TheVariants as inputs
use Rattle.chain_types.specs.declared.transactions.Transaction.{Transaction}
use Rattle.chain_types.specs.Equal.{digest_eq, id_eq, key_eq}
use Rattle.chain_types.specs.Digests.{is_object}
use Rattle.chain_messages.specs.declared.messages.Certificate.{Certificate}
use Rattle.protocol_spec.specs.declared.answers.Held.{Held}
use Rattle.schedule_text.specs.declared.words.Event.{Event}
use Rattle.protocol_spec.proofs.Equality.{digest_same, id_same, digest_self, id_self}
use Rattle.protocol_spec.specs.Chain.Words.{Has, Along, first_some, first_of, where_true, last_where}
use Rattle.protocol_spec.specs.Chain.Keys.{object_key, objects_of, mutable_id, is_shared_since, is_shared_input, version_limit, fits_input, fit_inputs}
use Rattle.protocol_spec.proofs.ListLemmas.{find-test, and-first, and-second, each_has, has_left, find_has, has_parts, has_mapped}
use Rattle.protocol_spec.proofs.Truth.{or_false_right, where_false, some_same}
use Rattle.protocol_spec.specs.Member.Versions.{Execution, Version, opened, written, versions, version_at, object_in, is_executed}
use Rattle.protocol_spec.specs.Member.Votes.{Ballot, shared_key, made_by}
use Rattle.protocol_spec.specs.Member.Admission.{Admitted, Standing, is_admitted, writes, mutable_ids, cert_of, joined_inputs, opening_object, begins, beginning, beginning_by, standing_after, standing_or, current, is_shared_object, lacks_shared, version_at_admission, assigned_of}
use Rattle.protocol_spec.specs.Member.Rounds.{Wanted, wanted_by, is_wanted, found, is_maker_done, executes_as}
use Rattle.protocol_spec.specs.Member.Member.{Member}
use Rattle.world_spec.specs.Setting.{Setting}
use Rattle.world_spec.specs.World.{Seat, member_in}
use Rattle.world_spec.specs.Run.{world_after}
use Rattle.world_spec.specs.Assumptions.{IsHonestRun, all_delivered}
use Rattle.safety_law.proofs.Apart.{none-of}
use Rattle.block_law.proofs.Live.{passed-has, any-has}
use Rattle.block_law.specs.Admitted.{held_again, IsInOrder}
use Rattle.block_law.proofs.Places.{shared-written}
use Rattle.block_law.proofs.Written.{chosen-from, fits-first}
use Rattle.safety_law.specs.Agreed.{IsHeldAsGiven}
use Rattle.safety_law.proofs.Supply.{every-held, every-admission}
use Rattle.block_law.specs.Orderly.{AreApart, gave}
use Rattle.block_law.proofs.ReadingSteps.{has-zip}
use Rattle.safety_law.specs.Steps.{step_of}
use Rattle.safety_law.proofs.Lists.{has-middle, along-split, first-says}
use Rattle.safety_law.proofs.SameSteps.{given-alike}
use Rattle.safety_law.proofs.Executed.{admitted-given, executed-is-step}
use Rattle.safety_law.proofs.Versions.{versions-same, effects-version}
use Rattle.safety_law.proofs.Wants.{assigned-is, shared-wanted}
use Rattle.headline_law.proofs.Present.{has-find, some-mapped, opened-in, written-in, held-found, seen-in, voted-given}
use Rattle.headline_law.proofs.Whole.{any-none}
use Rattle.headline_law.specs.Ready.{wanted_of}
use Rattle.headline_law.proofs.Undropped.{IsKept, none-dropped}

-- ---- lists

pub along-both : {A : Type 0} (P Q : List A → A → Type 0) (before xs : List A) → Along P before xs → Along Q before xs → Along (λ (b : List A) (x : A). P b x × Q b x) before xs
along-both P Q before [] p q = tt
along-both P Q before (x ∷ xs) p q = ((p.0, q.0), along-both P Q (before ++ x ∷ []) xs p.1 q.1)

pub last-has : {A : Type 0} (test : A → Bool) (xs : List A) (y : A) → last_where test xs ≡ Some y → Has xs y × (test y ≡ true)
last-has test [] y e = absurd (cc)
last-has {A = A} test (x ∷ xs) y e = go (last_where test xs) refl (test x) refl e (last-has test xs y)
  where
    go : (o : Option A) → last_where test xs ≡ o → (b : Bool) → test x ≡ b → first_some (o ∷ where_true b x ∷ []) ≡ Some y → (last_where test xs ≡ Some y → Has xs y × (test y ≡ true)) → Has (x ∷ xs) y × (test y ≡ true)
    go (Some z) h b t e rest = let r = rest (h ∙ e) in (inr r.0, r.1)
    go None h true t e rest = let same = some_same x y e in (inl same, subst (λ (z : A). test z ≡ true) same t)
    go None h false t e rest = absurd (cc)

-- the object of each input
fitting-object : (t : Transaction) (is : List Input) (os : List Object) (i : Input) → fit_inputs t is os ≡ true → Has is i → (o : Object) × Has (zip is os) (i, o) × (fits_input t i o ≡ true)
fitting-object t [] os i fit h = absurd h
fitting-object t (j ∷ is) [] i fit h = absurd (cc)
fitting-object t (j ∷ is) (o ∷ os) i fit (inl e) = (o, inl (ap (λ (z : Input). (z, o)) e), subst (λ (z : Input). fits_input t z o ≡ true) e (and-first (fits_input t j o) (fit_inputs t is os) fit))
fitting-object t (j ∷ is) (o ∷ os) i fit (inr h) = let r = fitting-object t is os i (and-second (fits_input t j o) (fit_inputs t is os) fit) h in (r.0, inr r.1, r.2)

-- ---- a version that is there

module _ (m : Member) where
  abbrev there : List Version
  there = versions m.opening m.executed

  abbrev Finds : ObjectId → Standing → Type 0
  Finds id st = is_some (found there (record { key = shared_key id st.0; producer = Some st.1 })) ≡ true

  key-same : (o : Object) (id : ObjectId) (version : ℕ) → o.id ≡ id → o.version ≡ version → key_eq (object_key o) (shared_key id version) ≡ true
  key-same o id version e f =
      let ids : id_eq o.id id ≡ true = subst (λ (i : ObjectId). id_eq o.id i ≡ true) e (id_self o.id) in
      let versions : (o.version == version) ≡ true = eq-eqb o.version version f in
      rw (ids, versions) refl

  opening-there : (id : ObjectId) (o : Object) → opening_object m.opening id ≡ Some o → Finds id (o.version, producers.Opening)
  opening-there id o e =
      let key = key-same o id o.version (id_same o.id id (find-test (λ (z : Object). id_eq z.id id) m.opening o e)) refl in
      some-mapped object_in (find (is_wanted (shared_key id o.version) (Some producers.Opening)) there)
      (has-find (is_wanted (shared_key id o.version) (Some producers.Opening)) there (opened o) (opened-in m.opening m.executed o (find_has (λ (z : Object). id_eq z.id id) m.opening o e)) (rw key refl))

  written-there : (id : ObjectId) (version : ℕ) (x : Execution) (o : Object) → Has m.executed x → Has x.gave.objects o → o.id ≡ id → o.version ≡ version → Finds id (version, producers.Tx x.digest)
  written-there id version x o h w e f =
      let key = key-same o id version e f in
      some-mapped object_in (find (is_wanted (shared_key id version) (Some (producers.Tx x.digest))) there)
      (has-find (is_wanted (shared_key id version) (Some (producers.Tx x.digest))) there (written x.digest o) (written-in m.opening m.executed x o h w) (rw (key, digest_self x.digest) refl))

-- ---- in a run

module _ (s : Setting) (events : List Event) (honest : IsHonestRun s events) (distinct : AreApart s.opening) (n : ℕ) (seat : Seat) (at : slice_get (world_after s events).seats n ≡ Some seat) where
  abbrev m : Member
  m = member_in s seat

  abbrev admitted : List Admitted
  admitted = m.sequence.admission.admitted

  -- ---- the last that wrote it

  mutable-named : (id : ObjectId) (w : Admitted) → writes id w ≡ true → (initial : ℕ) × Has (objects_of w.cert.tx) (inputs.Shared id initial true)
  mutable-named id w e =
      let x = any-has (id_eq id) (mutable_ids w.cert) e in
      let i = chosen-from mutable_id w.cert.tx.inputs x.0 x.1 in
      go i.0 i.1 (i.2 ∙ ap Some (sym (id_same id x.0 x.2)))
    where
      same : (x : ObjectId) → Some x ≡ Some id → x ≡ id
      same x e = cc

      go : (i : Input) → Has w.cert.tx.inputs i → mutable_id i ≡ Some id → (initial : ℕ) × Has (objects_of w.cert.tx) (inputs.Shared id initial true)
      go (inputs.Pure bytes) h e = absurd (cc)
      go (inputs.Owned r) h e = absurd (cc)
      go (inputs.Immutable r) h e = absurd (cc)
      go (inputs.Shared x k false) h e = absurd (cc)
      go (inputs.Shared x k true) h e = (k, inr (passed-has is_object w.cert.tx.inputs (inputs.Shared id k true) (subst (λ (z : ObjectId). Has w.cert.tx.inputs (inputs.Shared z k true)) (same x e) h) refl))

  writer-there : (id : ObjectId) (w : Admitted) → Has admitted w → writes id w ≡ true → is_executed m.executed w.digest ≡ true → Finds m id (w.version, producers.Tx w.digest)
  writer-there id w h e done =
      let step = executed-is-step s events honest n seat at w h done in
      let i = mutable-named id w e in
      let o = fitting-object w.cert.tx (objects_of w.cert.tx) (step_of m w).inputs (inputs.Shared id i.0 true) (fits-first w.cert.tx (step_of m w).inputs step.fit) i.1 in
      let now = shared-written w.cert.tx (step_of m w).inputs id i.0 o.0 o.1 in
      let version = versions-same s events honest n seat at w h (executes_as (held_again w) (gave (step_of m w))) step.executed refl in
      written-there m id w.version (executes_as (held_again w) (gave (step_of m w))) now.now step.executed now.written
      (now.id ∙ id_same o.0.id id (and-first (id_eq o.0.id id) (is_shared_since i.0 o.0.owner) o.2))
      (now.version_is ∙ sym (effects-version w.cert.tx (step_of m w).inputs) ∙ version)

  -- ---- as the first that names it says

  origin-there : (b : Admitted) → Has admitted b → (id : ObjectId) (initial : ℕ) (mutable : Bool) (origin : Digest) → Has (joined_inputs b.cert) (inputs.Shared id initial mutable, Some origin) → is_executed m.executed origin ≡ true → Finds m id (initial, producers.Tx origin)
  origin-there b h id initial mutable origin joined done =
      let v = voted-given s events honest distinct n seat at b.digest b.cert (admitted-given s events honest n seat at b h) in
      let seen = seen-in m b.cert.tx b.cert.origins v (inputs.Shared id initial mutable) (Some origin) joined in
      held-found seen.voter m seen.openings seen.same (shared_key id initial) (is-held seen.voter (version_at (versions seen.voter.opening seen.voter.executed) (shared_key id initial)) seen.origin) (Some origin) seen.origin done
    where
      is-held : (b : Ballot) (v : Option Version) → made_by v ≡ Some origin → is_some (option_map object_in v) ≡ true
      is-held b None e = absurd (cc)
      is-held b (Some u) e = refl

  -- a shared input without an origin was shared as the epoch opened
  none-lacks : (b : Admitted) → Has admitted b → list_any (lacks_shared m.opening) (joined_inputs b.cert) ≡ false
  none-lacks b h =
      let r = along-split (IsKept m.opening) [] admitted b (none-dropped s events n seat at) h in
      or_false_right (nat_le version_limit (version_at_admission m.opening r.0 b.cert)) (list_any (lacks_shared m.opening) (joined_inputs b.cert)) r.3

  begun-open : (b : Admitted) → Has admitted b → (id : ObjectId) (initial : ℕ) (mutable : Bool) → Has (joined_inputs b.cert) (inputs.Shared id initial mutable, None) → Finds m id (begins m.opening id initial None)
  begun-open b h id initial mutable joined =
      go (opening_object m.opening id) refl (any-none (lacks_shared m.opening) (joined_inputs b.cert) (inputs.Shared id initial mutable, None) (none-lacks b h) joined)
    where
      go : (o : Option Object) → opening_object m.opening id ≡ o → not (is_shared_object o) ≡ false → Finds m id (begins m.opening id initial None)
      go None e f = absurd (cc)
      go (Some o) e f = subst (λ (z : Option Object). Finds m id (version z, producers.Opening)) (sym e) (opening-there m id o e)
        where
          version : Option Object → ℕ
          version None = 0
          version (Some o) = o.version

  begun-there : (b : Admitted) → Has admitted b → (id : ObjectId) (i : Input) (d : Option Digest) → Has (joined_inputs b.cert) (i, d) → (st : Standing) → beginning m.opening id (i, d) ≡ Some st → is_maker_done m.executed (Some st.1) ≡ true → Finds m id st
  begun-there b h id (inputs.Pure bytes) d joined st e done = absurd (cc)
  begun-there b h id (inputs.Owned r) d joined st e done = absurd (cc)
  begun-there b h id (inputs.Immutable r) d joined st e done = absurd (cc)
  begun-there b h id (inputs.Shared x initial mutable) d joined st e done = go (id_eq x id) refl e
    where
      by-origin : (d : Option Digest) → Has (joined_inputs b.cert) (inputs.Shared id initial mutable, d) → is_maker_done m.executed (Some (begins m.opening id initial d).1) ≡ true → Finds m id (begins m.opening id initial d)
      by-origin None joined done = begun-open b h id initial mutable joined
      by-origin (Some origin) joined done = origin-there b h id initial mutable origin joined done

      go : (t : Bool) → id_eq x id ≡ t → where_true t (begins m.opening x initial d) ≡ Some st → Finds m id st
      go false t e = absurd (cc)
      go true t e =
          let same : begins m.opening id initial d ≡ st = ap (λ (z : ObjectId). begins m.opening z initial d) (sym (id_same x id t)) ∙ some_same (begins m.opening x initial d) st e in
          subst (Finds m id) same
          (by-origin d (subst (λ (z : ObjectId). Has (joined_inputs b.cert) (inputs.Shared z initial mutable, d)) (id_same x id t) joined)
          (subst (λ (z : Standing). is_maker_done m.executed (Some z.1) ≡ true) (sym same) done))

  -- ---- an admitted certificate

  module _ (front back : List Admitted) (a : Admitted) (split : admitted ≡ front ++ (a ∷ back)) (next : IsInOrder m.opening front a) where
    abbrev certs : List Certificate
    certs = map cert_of front ++ a.cert ∷ []

    a-there : Has admitted a
    a-there = subst (λ (zs : List Admitted). Has zs a) (sym split) (has-middle front a back)

    front-there : (b : Admitted) → Has front b → Has admitted b
    front-there b h = subst (λ (zs : List Admitted). Has zs b) (sym split) (has_left front (a ∷ back) b h)

    cert-there : (c : Certificate) → Has certs c → (b : Admitted) × Has admitted b × (b.cert ≡ c)
    cert-there c h = go (has_parts (map cert_of front) (a.cert ∷ []) c h)
      where
        go : Has (map cert_of front) c ⊎ Has (a.cert ∷ []) c → (b : Admitted) × Has admitted b × (b.cert ≡ c)
        go (inl k) = let b = has_mapped cert_of front c k in (b.0, front-there b.0 b.1, b.2)
        go (inr (inl e)) = (a, a-there, e)
        go (inr (inr k)) = absurd k

    abbrev standing : Option Admitted → Option Standing → Standing
    standing l f = standing_or (first_some (option_map standing_after l ∷ f ∷ []))

    -- this certificate names the object itself
    named-first : (id : ObjectId) (initial : ℕ) (mutable : Bool) (d : Option Digest) → Has (joined_inputs a.cert) (inputs.Shared id initial mutable, d) → first_of (beginning_by m.opening id) certs ≡ None → ⊥
    named-first id initial mutable d joined none =
        let here : beginning_by m.opening id a.cert ≡ None = none-of (beginning_by m.opening id) certs a.cert none (last-there (map cert_of front)) in
        let says : beginning m.opening id (inputs.Shared id initial mutable, d) ≡ None = none-of (beginning m.opening id) (joined_inputs a.cert) (inputs.Shared id initial mutable, d) here joined in
        let apart = where_false (id_eq id id) (begins m.opening id initial d) says in
        let same = id_self id in
        cc
      where
        last-there : (cs : List Certificate) → Has (cs ++ a.cert ∷ []) a.cert
        last-there [] = inl refl
        last-there (c ∷ cs) = inr (last-there cs)

    stands : (id : ObjectId) (initial : ℕ) (mutable : Bool) (d : Option Digest) → Has (joined_inputs a.cert) (inputs.Shared id initial mutable, d)
        → (l : Option Admitted) → last_where (writes id) front ≡ l → (f : Option Standing) → first_of (beginning_by m.opening id) certs ≡ f → is_maker_done m.executed (Some (standing l f).1) ≡ true → Finds m id (standing l f)
    stands id initial mutable d joined (Some w) h f k done = let r = last-has (writes id) front w h in writer-there id w (front-there w r.0) r.1 done
    stands id initial mutable d joined None h None k done = absurd (named-first id initial mutable d joined k)
    stands id initial mutable d joined None h (Some st) k done =
        let c = first-says (beginning_by m.opening id) certs st k in
        let x = first-says (beginning m.opening id) (joined_inputs c.0) st c.2 in
        let b = cert-there c.0 c.1 in
        begun-there b.0 b.1 id x.0.0 x.0.1 (subst (λ (z : Certificate). Has (joined_inputs z) x.0) (sym b.2) x.1) st x.2 done

    current-there : (id : ObjectId) (initial : ℕ) (mutable : Bool) (d : Option Digest) → Has (joined_inputs a.cert) (inputs.Shared id initial mutable, d) → is_maker_done m.executed (Some (current m.opening front a.cert id).1) ≡ true → Finds m id (current m.opening front a.cert id)
    unfolding current
    current-there id initial mutable d joined done = stands id initial mutable d joined (last_where (writes id) front) refl (first_of (beginning_by m.opening id) certs) refl done

  -- ---- a held certificate

  -- the admitted certificate of a held one, which has its transaction and its origins
  pub record IsAdmittedAs (h : Held) : Type 0 where
    pub front : List Admitted
    pub back : List Admitted
    pub of : Admitted
    pub split : admitted ≡ front ++ (of ∷ back)
    pub next : IsInOrder m.opening front of
    pub undropped : IsKept m.opening front of
    pub digest : of.digest ≡ h.digest
    pub tx : of.cert.tx ≡ h.cert.tx
    pub origins : of.cert.origins ≡ h.cert.origins

  pub admitted-as : (h : Held) → Has m.held h → is_admitted admitted h.digest ≡ true → IsAdmittedAs h
  admitted-as h held e =
      let a = any-has (λ (x : Admitted). digest_eq x.digest h.digest) admitted e in
      let same = digest_same a.0.digest h.digest a.2 in
      let r = along-split (λ (b : List Admitted) (x : Admitted). IsInOrder m.opening b x × IsKept m.opening b x) [] admitted a.0 (along-both (IsInOrder m.opening) (IsKept m.opening) [] admitted (every-admission s events n seat at).order (none-dropped s events n seat at)) a.1 in
      let alike = given-alike s events honest m.epoch m.epoch a.0.digest h.digest a.0.cert h.cert (admitted-given s events honest n seat at a.0 a.1)
      (each_has (IsHeldAsGiven s.rules (all_delivered s events) m.epoch) m.held h (every-held s events n seat at) held) same in
      record { front = r.0; back = r.1; of = a.0; split = r.2; next = r.3.0; undropped = r.3.1; digest = same; tx = alike.0; origins = alike.1 }

  pub joined-as : (h : Held) → (it : IsAdmittedAs h) → (i : Input) (d : Option Digest) → Has (joined_inputs h.cert) (i, d) → Has (joined_inputs it.of.cert) (i, d)
  joined-as h it i d joined =
      subst (λ (t : Transaction). Has (zip (objects_of t) it.of.cert.origins) (i, d)) (sym it.tx)
      (subst (λ (os : List (Option Digest)). Has (zip (objects_of h.cert.tx) os) (i, d)) (sym it.origins) joined)

  -- what is wanted of a shared input is the current version of its object
  pub wanted-current : (h : Held) → (it : IsAdmittedAs h) → (id : ObjectId) (initial : ℕ) (mutable : Bool) (d : Option Digest) → Has (joined_inputs h.cert) (inputs.Shared id initial mutable, d)
      → wanted_of m h (inputs.Shared id initial mutable) d ≡ record { key = shared_key id (current m.opening it.front it.of.cert id).0; producer = Some (current m.opening it.front it.of.cert id).1 }
  wanted-current h it id initial mutable d joined =
      ap (λ (z : Digest). wanted_by (assigned_of m.sequence.admission z) (inputs.Shared id initial mutable, d)) (sym it.digest)
      ∙ ap (λ (z : _). wanted_by z (inputs.Shared id initial mutable, d)) (assigned-is m.opening it.front it.back m.sequence.admission it.of it.split it.next)
      ∙ shared-wanted m.opening it.front it.back m.sequence.admission it.of it.split it.next id initial mutable d
      (has-zip (objects_of it.of.cert.tx) it.of.cert.origins (inputs.Shared id initial mutable) d (joined-as h it (inputs.Shared id initial mutable) d joined))

  pub shared-present : (h : Held) → Has m.held h → is_admitted admitted h.digest ≡ true → (i : Input) (d : Option Digest) → Has (joined_inputs h.cert) (i, d) → is_shared_input i ≡ true
      → is_maker_done m.executed (wanted_of m h i d).producer ≡ true → is_some (found (versions m.opening m.executed) (wanted_of m h i d)) ≡ true
  shared-present h held e (inputs.Pure bytes) d joined shared done = absurd (cc)
  shared-present h held e (inputs.Owned r) d joined shared done = absurd (cc)
  shared-present h held e (inputs.Immutable r) d joined shared done = absurd (cc)
  shared-present h held e (inputs.Shared id initial mutable) d joined shared done =
      let it = admitted-as h held e in
      let wanted = wanted-current h it id initial mutable d joined in
      subst (λ (w : Wanted). is_some (found (versions m.opening m.executed) w) ≡ true) (sym wanted)
      (current-there it.front it.back it.of it.split it.next id initial mutable d (joined-as h it (inputs.Shared id initial mutable) d joined)
      (subst (λ (w : Wanted). is_maker_done m.executed w.producer ≡ true) wanted done))
