-- What two members of one epoch may run: no two different transactions may write one object, and the ids that they
-- draw are new and apart.
use Rattle.std.proofs.Common.{inl, inr, refl, sym, subst, ap, ◌∙◌, arith, append_assoc, append-nil}
use Rattle.std.specs.Prelude.{◌≡◌, ◌⊎◌, ◌<◌, ◌≤◌, ℕ, zero, suc, Bool, true, false, List, [], ◌∷◌, ◌++◌, zip}
use Rattle.digest_core.specs.declared.Digest.{Digest}
use Rattle.chain_types.specs.declared.objects.ObjectId.{ObjectId}
use Rattle.chain_types.specs.declared.objects.ObjectKey.{ObjectKey}
use Rattle.chain_types.specs.declared.objects.Object.{Object}
use Rattle.chain_types.specs.declared.objects.ObjectRef.{ObjectRef}
use Rattle.chain_types.specs.declared.transactions.Input.{Input}
use Rattle.chain_types.specs.declared.transactions.Input.TheVariants as inputs
use Rattle.chain_types.specs.declared.transactions.Transaction.{Transaction}
use Rattle.chain_types.specs.Equal.{id_eq, digest_eq}
use Rattle.chain_types.specs.Digests.{transaction_digest, consumed_keys}
use Rattle.chain_messages.specs.declared.messages.Certificate.{Certificate}
use Rattle.protocol_spec.specs.declared.answers.Held.{Held}
use Rattle.schedule_text.specs.declared.words.Event.{Event}
use Rattle.protocol_spec.proofs.Equality.{digest_same, id_same, digest_self}
use Rattle.protocol_spec.specs.Chain.Words.{Has, Along, IsFront, numbers_below, repeats}
use Rattle.protocol_spec.specs.Chain.Keys.{objects_of, is_shared_since, named_ids, fits_input}
use Rattle.protocol_spec.proofs.ListLemmas.{and-first, has_mapped}
use Rattle.protocol_spec.specs.Block.Execution.{is_written}
use Rattle.protocol_spec.specs.Member.Admission.{Admitted, Admission, current}
use Rattle.protocol_spec.specs.Member.Member.{Member}
use Rattle.world_spec.specs.Setting.{Setting}
use Rattle.world_spec.specs.Names.{draws}
use Rattle.world_spec.specs.Assumptions.{IsHonestRun, all_delivered, all_transactions}
use Rattle.block_law.specs.Admitted.{IsInOrder}
use Rattle.block_law.specs.Names.{drawn_id, drawn_ids}
use Rattle.block_law.proofs.Steps.{map-append}
use Rattle.block_law.proofs.Written.{below}
use Rattle.safety_law.specs.Agreed.{IsGiven}
use Rattle.safety_law.proofs.Same.{of-run}
use Rattle.safety_law.proofs.Owner.{owner}
use Rattle.block_law.specs.Orderly.{Step, gave, Makes, IsOpening}
use Rattle.block_law.proofs.ReadingSteps.{has-zip, not-both}
use Rattle.safety_law.specs.Orderly.{OpensApart}
use Rattle.safety_law.proofs.Ordered.{repeats-append, names-once}
use Rattle.safety_law.proofs.SameSteps.{was-formed, given-alike}
use Rattle.safety_law.proofs.Drawn.{created-most}
use Rattle.headline_law.specs.Chained.{MayWrite}
use Rattle.headline_law.proofs.Rising.{IsAhead, two-places, writes-it, rising, in-order}
use Rattle.headline_law.proofs.Settled.{IsSettled, ArePeers}
use Rattle.headline_law.proofs.Reading.{IsRunnable, fits-it, admitted-as, shared-read}
use Rattle.headline_law.proofs.Standing.{front-has}

few-made : (x : Step) (k : ℕ) → k < (gave x).effects.created → k < draws x.tx.commands
few-made x k less = let most = created-most x.tx x.inputs in omega (arith, less, most)

shared-it : (t : Transaction) (o : Object) (id : ObjectId) (initial : ℕ) (mutable : Bool) → fits_input t (inputs.Shared id initial mutable) o ≡ true → o.id ≡ id
shared-it t o id initial mutable e = id_same o.id id (and-first (id_eq o.id id) (is_shared_since initial o.owner) e)

-- ---- admitted certificates that may write one shared object

-- the certificate stands among the admitted ones
record IsPlaced (adm : Admission) (h : Held) (a : Admitted) : Type 0 where
  there : Has adm.admitted a
  digest : h.digest ≡ a.digest
  tx : h.cert.tx ≡ a.cert.tx
  origins : h.cert.origins ≡ a.cert.origins

module _ (opening : List Object) (adm : Admission) where
  -- a runnable certificate of an epoch that opened with these, and what this admission admitted first
  record IsPlacedAt (m : Member) (x : Step) (it : IsRunnable m x) (a : Admitted) : Type 0 where
    same : m.opening ≡ opening
    more : IsFront m.sequence.admission.admitted adm.admitted
    placed : IsPlaced adm it.of a

  read-at : (m : Member) (x : Step) (it : IsRunnable m x) (a : Admitted) → IsPlacedAt m x it a → (front back : List Admitted) → adm.admitted ≡ front ++ (a ∷ back) → IsInOrder opening front a
      → (id : ObjectId) (initial : ℕ) (o : Object) → Has (zip (objects_of x.tx) x.inputs) (inputs.Shared id initial true, o) → o.version ≡ (current opening front a.cert id).0
  read-at m x it a at front back split next id initial o h =
      subst (λ (os : List Object). o.version ≡ (current os front a.cert id).0) at.same
      (shared-read m x it adm at.more front back a split (subst (λ (os : List Object). IsInOrder os front a) (sym at.same) next) at.placed.digest at.placed.tx at.placed.origins id initial true o h)

  module _ (order : Along (IsInOrder opening) [] adm.admitted) (m n : Member) (x y : Step) (it : IsRunnable m x) (also : IsRunnable n y) (a b : Admitted) (at : IsPlacedAt m x it a) (by : IsPlacedAt n y also b)
      (id : ObjectId) (o : Object) (i k : ℕ) (h : Has (zip (objects_of x.tx) x.inputs) (inputs.Shared id i true, o)) (g : Has (zip (objects_of y.tx) y.inputs) (inputs.Shared id k true, o)) where
    ahead-apart : IsAhead adm.admitted a b → ⊥
    ahead-apart ahead =
        let along = subst (λ (zs : List Admitted). Along (IsInOrder opening) [] zs) ahead.split order in
        let stand = in-order opening id ahead.front ahead.mid ahead.rest a b along in
        let w = writes-it a id i (subst (λ (t : Transaction). Has (objects_of t) (inputs.Shared id i true)) (sym it.tx ∙ at.placed.tx) (has-zip (objects_of x.tx) x.inputs (inputs.Shared id i true) o h)) in
        let low = read-at m x it a at ahead.front (ahead.mid ++ (b ∷ ahead.rest)) ahead.split stand.0 id i o h in
        let high = read-at n y also b by (ahead.front ++ (a ∷ ahead.mid)) ahead.rest (ahead.split ∙ sym (append_assoc ahead.front (a ∷ ahead.mid) (b ∷ ahead.rest))) stand.1 id k o g in
        let rise = rising opening id ahead.front ahead.mid ahead.rest a b along w in
        omega (arith, low, high, rise)

module _ (s : Setting) (events : List Event) (honest : IsHonestRun s events) where
  abbrev IsGivenTo : Member → Digest → Certificate → Type 0
  IsGivenTo m = IsGiven s.rules (all_delivered s events) m.epoch

  module _ (m : Member) (settled : IsSettled s events m) (x : Step) (it : IsRunnable m x) where
    given : IsGivenTo m it.of.digest it.of.cert
    given = settled.held it.of it.is_held

    pub digest-of : it.of.digest ≡ transaction_digest x.tx
    digest-of = given.digest_is ∙ ap transaction_digest it.tx

    pub in-run : Has (all_transactions s events) x.tx
    in-run = subst (Has (all_transactions s events)) it.tx (of-run s events it.of.cert given.comes)

    epoch-of : x.tx.epoch ≡ m.epoch
    epoch-of = ap (λ (t : Transaction). t.epoch) (sym it.tx) ∙ given.epoch_is

    pub names : repeats id_eq (named_ids x.tx) ≡ false
    names = subst (λ (t : Transaction). repeats id_eq (named_ids t) ≡ false) it.tx (names-once s.rules it.of.cert given.valid)

    first-drawn : (k : ℕ) → k ≤ draws x.tx.commands → repeats id_eq (drawn_ids (transaction_digest x.tx) k) ≡ false
    first-drawn zero low = refl
    first-drawn (suc k) low =
        subst (λ (ids : List ObjectId). repeats id_eq ids ≡ false) (sym (map-append (drawn_id (transaction_digest x.tx)) (numbers_below k) (k ∷ [])))
        (repeats-append (drawn_ids (transaction_digest x.tx) k) (drawn_id (transaction_digest x.tx) k ∷ []) (first-drawn k (omega (arith, low))) refl apart)
      where
        differ : (j : ℕ) → j < k → drawn_id (transaction_digest x.tx) j ≡ drawn_id (transaction_digest x.tx) k → ⊥
        differ j less e = let same = (honest.ids.drawn x.tx x.tx in-run in-run j k (omega (arith, low, less)) (omega (arith, low)) e).1 in omega (arith, same, less)

        apart : (a b : ObjectId) → Has (drawn_ids (transaction_digest x.tx) k) a → Has (drawn_id (transaction_digest x.tx) k ∷ []) b → a ≡ b → ⊥
        apart a b one (inl two) e = let j = has_mapped (drawn_id (transaction_digest x.tx)) (numbers_below k) a one in differ j.0 (below k j.0 j.1) (j.2 ∙ e ∙ sym two)
        apart a b one (inr two) e = two

    pub draws-apart : repeats id_eq (drawn_ids (transaction_digest x.tx) (gave x).effects.created) ≡ false
    draws-apart = first-drawn (gave x).effects.created (created-most x.tx x.inputs)

    pub draws-new : OpensApart s events m → (id : ObjectId) → Makes x id → IsOpening m.opening id → ⊥
    draws-new opens id (k, less, e) (o, h, q) = opens.new x.tx in-run epoch-of k (few-made x k less) o h (q ∙ sym e)

  module _ (p q : Member) (peers : ArePeers s events p q) (x y : Step) (it : IsRunnable p x) (also : IsRunnable q y) where
    pub one-maker : (id : ObjectId) → Makes x id → Makes y id → transaction_digest x.tx ≡ transaction_digest y.tx
    one-maker id (j, low, e) (k, less, f) = (honest.ids.drawn x.tx y.tx (in-run p peers.first x it) (in-run q peers.second y also) j k (few-made x j low) (few-made y k less) (e ∙ sym f)).0

    module _ (differ : transaction_digest x.tx ≡ transaction_digest y.tx → ⊥) where
      no-key : (key : ObjectKey) → Has (consumed_keys x.tx) key → Has (consumed_keys y.tx) key → ⊥
      no-key key h k =
          let one = given p peers.first x it in
          let two = given q peers.second y also in
          differ (ap transaction_digest (sym it.tx ∙ owner s events honest it.of.cert also.of.cert (was-formed s events honest p.epoch it.of.digest it.of.cert one) (was-formed s events honest q.epoch also.of.digest also.of.cert two)
          (one.epoch_is ∙ peers.epochs ∙ sym two.epoch_is) key (subst (λ (t : Transaction). Has (consumed_keys t) key) (sym it.tx) h) (subst (λ (t : Transaction). Has (consumed_keys t) key) (sym also.tx) k) ∙ also.tx))

      -- ---- a shared object that both may write

      module _ (adm : Admission) (more : IsFront p.sequence.admission.admitted adm.admitted) (longer : IsFront q.sequence.admission.admitted adm.admitted)
          (order : Along (IsInOrder p.opening) [] adm.admitted) (admitted : (a : Admitted) → Has adm.admitted a → IsGivenTo p a.digest a.cert)
          (id : ObjectId) (o : Object) (i k : ℕ) (h : Has (zip (objects_of x.tx) x.inputs) (inputs.Shared id i true, o)) (g : Has (zip (objects_of y.tx) y.inputs) (inputs.Shared id k true, o)) where
        first-there : (a : Admitted) × IsPlacedAt p.opening adm p x it a
        first-there =
            let a = admitted-as p x it id i true (has-zip (objects_of x.tx) x.inputs (inputs.Shared id i true) o h) in
            let there = front-has p.sequence.admission.admitted adm.admitted a.0 more a.1 in
            let alike = given-alike s events honest p.epoch p.epoch it.of.digest a.0.digest it.of.cert a.0.cert (given p peers.first x it) (admitted a.0 there) (sym a.2) in
            (a.0, record { same = refl; more = more; placed = record { there = there; digest = sym a.2; tx = alike.0; origins = alike.1 } })

        second-there : (b : Admitted) × IsPlacedAt p.opening adm q y also b
        second-there =
            let b = admitted-as q y also id k true (has-zip (objects_of y.tx) y.inputs (inputs.Shared id k true) o g) in
            let there = front-has q.sequence.admission.admitted adm.admitted b.0 longer b.1 in
            let alike = given-alike s events honest q.epoch p.epoch also.of.digest b.0.digest also.of.cert b.0.cert (given q peers.second y also) (admitted b.0 there) (sym b.2) in
            (b.0, record { same = sym peers.openings; more = longer; placed = record { there = there; digest = sym b.2; tx = alike.0; origins = alike.1 } })

        shared-apart : ⊥
        shared-apart = go first-there.0 first-there.1 second-there.0 second-there.1
          where
            go : (a : Admitted) → IsPlacedAt p.opening adm p x it a → (b : Admitted) → IsPlacedAt p.opening adm q y also b → ⊥
            go a at b by = pick (two-places adm.admitted a b at.placed.there by.placed.there)
              where
                pick : (a ≡ b) ⊎ (IsAhead adm.admitted a b ⊎ IsAhead adm.admitted b a) → ⊥
                pick (inl e) = differ (sym (digest-of p peers.first x it) ∙ at.placed.digest ∙ ap (λ (z : Admitted). z.digest) e ∙ sym by.placed.digest ∙ digest-of q peers.second y also)
                pick (inr (inl ahead)) = ahead-apart p.opening adm order p q x y it also a b at by id o i k h g ahead
                pick (inr (inr ahead)) = ahead-apart p.opening adm order q p y x also it b a by at id o k i g h ahead

      longer-apart : (id : ObjectId) (o : Object) (i k : ℕ) → Has (zip (objects_of x.tx) x.inputs) (inputs.Shared id i true, o) → Has (zip (objects_of y.tx) y.inputs) (inputs.Shared id k true, o) → ⊥
      longer-apart id o i k h g = go peers.admitted
        where
          go : IsFront p.sequence.admission.admitted q.sequence.admission.admitted ⊎ IsFront q.sequence.admission.admitted p.sequence.admission.admitted → ⊥
          go (inl front) = shared-apart q.sequence.admission front ([], sym (append-nil q.sequence.admission.admitted))
              (subst (λ (os : List Object). Along (IsInOrder os) [] q.sequence.admission.admitted) (sym peers.openings) peers.second.order)
              (λ a there. subst (λ (e : ℕ). IsGiven s.rules (all_delivered s events) e a.digest a.cert) (sym peers.epochs) (peers.second.admitted a there)) id o i k h g
          go (inr front) = shared-apart p.sequence.admission ([], sym (append-nil p.sequence.admission.admitted)) front peers.first.order peers.first.admitted id o i k h g

      -- ---- any object that both may write

      module _ (o : Object) where
        abbrev First : Input → Type 0
        First i = Has (zip (objects_of x.tx) x.inputs) (i, o)

        abbrev Second : Input → Type 0
        Second j = Has (zip (objects_of y.tx) y.inputs) (j, o)

        fit-first : (i : Input) → First i → fits_input x.tx i o ≡ true
        fit-first i h = fits-it x i o it.fit h

        fit-second : (j : Input) → Second j → fits_input y.tx j o ≡ true
        fit-second j g = fits-it y j o also.fit g

        needs-first : (i : Input) → First i → Has (objects_of x.tx) i
        needs-first i h = has-zip (objects_of x.tx) x.inputs i o h

        needs-second : (j : Input) → Second j → Has (objects_of y.tx) j
        needs-second j g = has-zip (objects_of y.tx) y.inputs j o g

        -- an owned one is consumed by both
        owned-first : (r : ObjectRef) (j : Input) → First (inputs.Owned r) → Second j → is_written j ≡ true → ⊥
        owned-first r j h g may = not-both y x j (inputs.Owned r) o (λ key l k. no-key key k l) (fit-second j g) (fit-first (inputs.Owned r) h) (needs-second j g) (needs-first (inputs.Owned r) h) may tt

        owned-second : (i : Input) (r : ObjectRef) → First i → is_written i ≡ true → Second (inputs.Owned r) → ⊥
        owned-second i r h may g = not-both x y i (inputs.Owned r) o no-key (fit-first i h) (fit-second (inputs.Owned r) g) (needs-first i h) (needs-second (inputs.Owned r) g) may tt

        shared-both : (id other : ObjectId) (n k : ℕ) → First (inputs.Shared id n true) → Second (inputs.Shared other k true) → ⊥
        shared-both id other n k h g =
            let same = sym (shared-it y.tx o other k true (fit-second (inputs.Shared other k true) g)) ∙ shared-it x.tx o id n true (fit-first (inputs.Shared id n true) h) in
            longer-apart id o n k h (subst (λ (z : ObjectId). Second (inputs.Shared z k true)) same g)

        apart : (i j : Input) → First i → is_written i ≡ true → Second j → is_written j ≡ true → ⊥
        apart (inputs.Pure bytes) j h may g also_may = absurd (cc)
        apart (inputs.Owned r) j h may g also_may = owned-first r j h g also_may
        apart (inputs.Immutable r) j h may g also_may = absurd (cc)
        apart (inputs.Shared id n false) j h may g also_may = absurd (cc)
        apart (inputs.Shared id n true) (inputs.Pure bytes) h may g also_may = absurd (cc)
        apart (inputs.Shared id n true) (inputs.Owned r) h may g also_may = owned-second (inputs.Shared id n true) r h may g
        apart (inputs.Shared id n true) (inputs.Immutable r) h may g also_may = absurd (cc)
        apart (inputs.Shared id n true) (inputs.Shared other k false) h may g also_may = absurd (cc)
        apart (inputs.Shared id n true) (inputs.Shared other k true) h may g also_may = shared-both id other n k h g

    -- two transactions that may write one object are one
    pub one-taker : (o : Object) → MayWrite x o → MayWrite y o → transaction_digest x.tx ≡ transaction_digest y.tx
    one-taker o (i, h, may) (j, g, also_may) = go (digest_eq (transaction_digest x.tx) (transaction_digest y.tx)) refl
      where
        other : digest_eq (transaction_digest x.tx) (transaction_digest y.tx) ≡ false → transaction_digest x.tx ≡ transaction_digest y.tx → ⊥
        other e same = let is = subst (λ (d : Digest). digest_eq (transaction_digest x.tx) d ≡ true) same (digest_self (transaction_digest x.tx)) in cc

        go : (b : Bool) → digest_eq (transaction_digest x.tx) (transaction_digest y.tx) ≡ b → transaction_digest x.tx ≡ transaction_digest y.tx
        go true e = digest_same (transaction_digest x.tx) (transaction_digest y.tx) e
        go false e = absurd (apart (other e) o i j h may g also_may)
