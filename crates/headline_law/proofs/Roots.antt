-- Each version that a member has is shared as the object that first had its id in the epoch: an opening object, or one
-- that an executed transaction created.
use Rattle.std.proofs.Common.{inl, inr, refl, sym, subst, ap, ◌∙◌, arith, append_assoc, append-nil}
use Rattle.std.specs.Prelude.{◌≡◌, ◌⊎◌, ◌<◌, ◌≤◌, ℕ, zero, suc, Bool, true, false, List, [], ◌∷◌, ◌++◌, slice_get, Some}
use Rattle.digest_core.specs.declared.Digest.{Digest}
use Rattle.chain_types.specs.declared.objects.ObjectId.{ObjectId}
use Rattle.chain_types.specs.declared.objects.Object.{Object}
use Rattle.chain_types.specs.declared.transactions.Transaction.{Transaction}
use Rattle.chain_types.specs.Equal.{digest_eq, id_eq}
use Rattle.chain_types.specs.Digests.{transaction_digest}
use Rattle.chain_messages.specs.declared.messages.Certificate.{Certificate}
use Rattle.protocol_spec.specs.declared.pieces.Executed.{Executed}
use Rattle.protocol_spec.specs.declared.answers.Held.{Held}
use Rattle.schedule_text.specs.declared.words.Event.{Event}
use Rattle.protocol_spec.proofs.Equality.{digest_self}
use Rattle.protocol_spec.proofs.Executions.{effects_tx}
use Rattle.protocol_spec.proofs.ListLemmas.{each_has, has_left, has_parts, has_mapped, has_right}
use Rattle.protocol_spec.specs.Chain.Words.{Has, Along, numbers_below, repeats}
use Rattle.protocol_spec.specs.Chain.Keys.{objects_of, named_ids}
use Rattle.protocol_spec.specs.Block.Execution.{execution}
use Rattle.protocol_spec.specs.Member.Versions.{Execution, Version, versions, is_executed}
use Rattle.protocol_spec.specs.Member.Rounds.{wants_of, present}
use Rattle.protocol_spec.specs.Member.Member.{Member, books}
use Rattle.world_spec.specs.Setting.{Setting}
use Rattle.world_spec.specs.World.{Seat, member_in}
use Rattle.world_spec.specs.Names.{draws}
use Rattle.world_spec.specs.Run.{world_after}
use Rattle.world_spec.specs.Assumptions.{IsHonestRun, all_delivered, all_transactions}
use Rattle.block_law.specs.Names.{drawn_id, drawn_ids, touched_ids}
use Rattle.block_law.proofs.Steps.{map-append}
use Rattle.block_law.proofs.Effects.{objects-ids}
use Rattle.block_law.specs.Shared.{shared_since, IsAsNamed, IsNew}
use Rattle.block_law.proofs.Written.{stay-shared, below, second}
use Rattle.safety_law.specs.Agreed.{IsGiven, IsHeldAsGiven}
use Rattle.safety_law.specs.Explained.{IsExplained}
use Rattle.safety_law.proofs.Supply.{every-held}
use Rattle.safety_law.proofs.Executing.{executions-explained}
use Rattle.safety_law.proofs.Same.{of-run}
use Rattle.block_law.specs.Orderly.{Step, id_of}
use Rattle.block_law.proofs.Touched.{written-version}
use Rattle.safety_law.specs.Orderly.{OpensApart}
use Rattle.safety_law.proofs.Lists.{along-split}
use Rattle.safety_law.proofs.Lives.{IsThere, version-there}
use Rattle.safety_law.proofs.Executed.{one-gave, execution-there}
use Rattle.safety_law.proofs.Ordered.{repeats-append, names-once}
use Rattle.safety_law.proofs.Drawn.{created-most}
use Rattle.safety_law.proofs.Known.{each-found}
use Rattle.headline_law.proofs.Present.{has-find}

-- ---- where an id comes from

-- an opening object of this id, which is shared as this one
pub record IsOpenedFirst (opening : List Object) (o : Object) : Type 0 where
  pub first : Object
  pub there : Has opening first
  pub id : first.id ≡ o.id
  pub share : shared_since first.owner ≡ shared_since o.owner

-- an executed transaction that created this id
pub record IsMadeFirst (executed : List Execution) (o : Object) : Type 0 where
  pub by : Execution
  pub there : Has executed by
  pub first : Object
  pub written : Has by.gave.objects first
  pub id : first.id ≡ o.id
  pub share : shared_since first.owner ≡ shared_since o.owner
  pub number : ℕ
  pub drew : number < by.gave.effects.created
  pub drawn : drawn_id by.digest number ≡ o.id

abbrev pub HasFirst : List Object → List Execution → Object → Type 0
HasFirst opening executed o = IsOpenedFirst opening o ⊎ IsMadeFirst executed o

first-like : (opening : List Object) (executed : List Execution) (p o : Object) → p.id ≡ o.id → shared_since p.owner ≡ shared_since o.owner → HasFirst opening executed p → HasFirst opening executed o
first-like opening executed p o id share (inl r) = inl (record { first = r.first; there = r.there; id = r.id ∙ id; share = r.share ∙ share })
first-like opening executed p o id share (inr r) = inr (record { by = r.by; there = r.there; first = r.first; written = r.written; id = r.id ∙ id; share = r.share ∙ share; number = r.number; drew = r.drew; drawn = r.drawn ∙ id })

first-more : (opening : List Object) (executed more : List Execution) (o : Object) → HasFirst opening executed o → HasFirst opening (executed ++ more) o
first-more opening executed more o (inl r) = inl r
first-more opening executed more o (inr r) = inr (record { by = r.by; there = has_left executed more r.by r.there; first = r.first; written = r.written; id = r.id; share = r.share; number = r.number; drew = r.drew; drawn = r.drawn })

-- ---- what the shape of a certificate says

-- ---- at a member

-- an execution of a certificate of the run
pub record IsOfRun (s : Setting) (events : List Event) (m : Member) (x : Execution) : Type 0 where
  pub cert : Certificate
  pub comes : Has (all_delivered s events) cert
  pub digest : x.digest ≡ transaction_digest cert.tx
  pub epoch : cert.tx.epoch ≡ m.epoch
  pub most : x.gave.effects.created ≤ draws cert.tx.commands
  pub one_version : (o p : Object) → Has x.gave.objects o → Has x.gave.objects p → o.version ≡ p.version

module _ (s : Setting) (events : List Event) (honest : IsHonestRun s events) (n : ℕ) (seat : Seat) (at : slice_get (world_after s events).seats n ≡ Some seat) (opens : OpensApart s events (member_in s seat)) where
  abbrev m : Member
  m = member_in s seat

  given-of : (h : Held) → Has m.held h → IsGiven s.rules (all_delivered s events) m.epoch h.digest h.cert
  given-of h there = each_has (IsHeldAsGiven s.rules (all_delivered s events) m.epoch) m.held h (every-held s events n seat at) there

  explained-of-run : (before : List Execution) (x : Execution) → IsExplained (books m) before x → IsOfRun s events m x
  explained-of-run before x it =
      let g = given-of it.of it.is_held in
      let step : Step = record { tx = it.of.cert.tx; inputs = it.inputs } in
      let gave : x.gave ≡ execution it.of.cert.tx it.inputs = ap (λ (z : Execution). z.gave) it.is in
      record {
        cert = it.of.cert;
        comes = g.comes;
        digest = ap (λ (z : Execution). z.digest) it.is ∙ g.digest_is;
        epoch = g.epoch_is;
        most = subst (λ (e : Executed). e.effects.created ≤ draws it.of.cert.tx.commands) (sym gave) (created-most it.of.cert.tx it.inputs);
        one_version = λ o p h k.
            written-version step o (subst (λ (e : Executed). Has e.objects o) gave h) ∙ sym (written-version step p (subst (λ (e : Executed). Has e.objects p) gave k));
      }

  pub of-this-run : (x : Execution) → Has m.executed x → IsOfRun s events m x
  of-this-run x h =
      let r = along-split (IsExplained (books m)) [] m.executed x (executions-explained s events n seat at) h in
      explained-of-run r.0 x r.3

  -- the ids that one transaction of the run can draw are apart
  draws-apart : (t : Transaction) → Has (all_transactions s events) t → (k : ℕ) → k ≤ draws t.commands → repeats id_eq (drawn_ids (transaction_digest t) k) ≡ false
  draws-apart t h zero low = refl
  draws-apart t h (suc k) low =
      subst (λ (ids : List ObjectId). repeats id_eq ids ≡ false) (sym (map-append (drawn_id (transaction_digest t)) (numbers_below k) (k ∷ [])))
      (repeats-append (drawn_ids (transaction_digest t) k) (drawn_id (transaction_digest t) k ∷ []) (draws-apart t h k (omega (arith, low))) refl apart)
    where
      differ : (j : ℕ) → j < k → drawn_id (transaction_digest t) j ≡ drawn_id (transaction_digest t) k → ⊥
      differ j less e = let same = (honest.ids.drawn t t h h j k (omega (arith, low, less)) (omega (arith, low)) e).1 in omega (arith, same, less)

      apart : (x y : ObjectId) → Has (drawn_ids (transaction_digest t) k) x → Has (drawn_id (transaction_digest t) k ∷ []) y → x ≡ y → ⊥
      apart x y one (inl two) e = let j = has_mapped (drawn_id (transaction_digest t)) (numbers_below k) x one in differ j.0 (below k j.0 j.1) (j.2 ∙ e ∙ sym two)
      apart x y one (inr two) e = two

  -- all that these executions wrote is shared as what had its id first, and no id that they named was one that they drew
  record AreRooted (before : List Execution) : Type 0 where
    rooted : (x : Execution) → Has before x → (o : Object) → Has x.gave.objects o → HasFirst m.opening before o
    once : (x : Execution) → Has before x → (t : Transaction) → Has (all_transactions s events) t → x.digest ≡ transaction_digest t → repeats id_eq (named_ids t ++ drawn_ids (transaction_digest t) x.gave.effects.created) ≡ false

  module _ (before : List Execution) (are : AreRooted before) (inside : (z : Execution) → Has before z → Has m.executed z) (y : Execution) (there : Has m.executed y) (it : IsExplained (books m) before y) where
    abbrev t : Transaction
    t = it.of.cert.tx

    gives : IsGiven s.rules (all_delivered s events) m.epoch it.of.digest it.of.cert
    gives = given-of it.of it.is_held

    in-run : Has (all_transactions s events) t
    in-run = of-run s events it.of.cert gives.comes

    y-digest : y.digest ≡ transaction_digest t
    y-digest = ap (λ (z : Execution). z.digest) it.is ∙ gives.digest_is

    y-gave : y.gave ≡ execution t it.inputs
    y-gave = ap (λ (z : Execution). z.gave) it.is

    object-first : (o : Object) → IsThere m.opening before o → HasFirst m.opening before o
    object-first o (inl h) = inl (record { first = o; there = h; id = refl; share = refl })
    object-first o (inr (x, h, w)) = are.rooted x h o w

    input-first : (o : Object) → Has it.inputs o → HasFirst m.opening before o
    unfolding present
    input-first o h =
        let v = each-found (versions m.opening before) (wants_of m.sequence.admission it.of) it.inputs it.were_there o h in
        subst (HasFirst m.opening before) v.2 (object-first v.0.object (version-there m.opening before v.0 v.1))

    few : (k : ℕ) → k < (execution t it.inputs).effects.created → k < draws t.commands
    few k less = let most = created-most t it.inputs in omega (arith, less, most)

    -- a named object has an id that an earlier transaction drew, or none did
    named-first : is_executed before y.digest ≡ false → (o : Object) → HasFirst m.opening before o → (k : ℕ) → k < (execution t it.inputs).effects.created → o.id ≡ drawn_id (transaction_digest t) k → ⊥
    named-first new o (inl r) k less e = opens.new t in-run gives.epoch_is k (few k less) r.first r.there (r.id ∙ e)
    named-first new o (inr r) k less e =
        let x = of-this-run r.by (inside r.by r.there) in
        let drew = r.drew in
        let most = x.most in
        let same = (honest.ids.drawn x.cert.tx t (of-run s events x.cert x.comes) in-run r.number k (omega (arith, drew, most)) (few k less)
        (ap (λ (d : Digest). drawn_id d r.number) (sym x.digest) ∙ r.drawn ∙ e)).0 in
        let digests : r.by.digest ≡ y.digest = x.digest ∙ same ∙ sym y-digest in
        not-new (has-find (λ (z : Execution). digest_eq z.digest y.digest) before r.by r.there (subst (λ (d : Digest). digest_eq r.by.digest d ≡ true) digests (digest_self r.by.digest))) new
      where
        not-new : is_executed before y.digest ≡ true → is_executed before y.digest ≡ false → ⊥
        not-new e f = cc

    abbrev IsOnce : ℕ → Type 0
    IsOnce created = repeats id_eq (named_ids t ++ drawn_ids (transaction_digest t) created) ≡ false

    once-again : is_executed before y.digest ≡ true → IsOnce (execution t it.inputs).effects.created
    once-again e =
        let x = execution-there before y.digest e in
        subst (λ (g : Executed). IsOnce g.effects.created) (one-gave s events honest n seat at x.0 y (inside x.0 x.1) there x.2 ∙ y-gave)
        (are.once x.0 x.1 t in-run (x.2 ∙ y-digest))

    once-new : is_executed before y.digest ≡ false → IsOnce (execution t it.inputs).effects.created
    once-new new = repeats-append (named_ids t) (drawn_ids (transaction_digest t) (execution t it.inputs).effects.created) (names-once s.rules it.of.cert gives.valid)
        (draws-apart t in-run (execution t it.inputs).effects.created (created-most t it.inputs)) apart
      where
        apart : (a b : ObjectId) → Has (named_ids t) a → Has (drawn_ids (transaction_digest t) (execution t it.inputs).effects.created) b → a ≡ b → ⊥
        apart a b named drawn e =
            let o = has_mapped id_of it.inputs a (subst (λ (ids : List ObjectId). Has ids a) (sym (objects-ids t it.inputs it.fit)) named) in
            let k = has_mapped (drawn_id (transaction_digest t)) (numbers_below (execution t it.inputs).effects.created) b drawn in
            named-first new o.0 (input-first o.0 o.1) k.0 (below (execution t it.inputs).effects.created k.0 k.1) (o.2 ∙ e ∙ sym k.2)

    once-here : IsOnce (execution t it.inputs).effects.created
    once-here = go (is_executed before y.digest) refl
      where
        go : (b : Bool) → is_executed before y.digest ≡ b → IsOnce (execution t it.inputs).effects.created
        go true e = once-again e
        go false e = once-new e

    touched-once : repeats id_eq (touched_ids t (execution t it.inputs).effects) ≡ false
    touched-once = subst (λ (d : Digest). repeats id_eq (named_ids t ++ drawn_ids d (execution t it.inputs).effects.created) ≡ false) (sym (effects_tx t it.inputs)) once-here

    object-rooted : (o : Object) → Has (execution t it.inputs).objects o → HasFirst m.opening (before ++ y ∷ []) o
    object-rooted o h = go (stay-shared t it.inputs it.fit touched-once o h)
      where
        go : IsAsNamed t it.inputs o ⊎ IsNew t it.inputs o → HasFirst m.opening (before ++ y ∷ []) o
        go (inl a) = first-more m.opening before (y ∷ []) o (first-like m.opening before a.before o a.id a.share (input-first a.before (second (objects_of t) it.inputs a.of a.before a.named)))
        go (inr a) = inr (record {
          by = y;
          there = has_right before (y ∷ []) y (inl refl);
          first = o;
          written = subst (λ (g : Executed). Has g.objects o) (sym y-gave) h;
          id = refl;
          share = refl;
          number = a.number;
          drew = subst (λ (g : Executed). a.number < g.effects.created) (sym y-gave) a.drew;
          drawn = ap (λ (d : Digest). drawn_id d a.number) y-digest ∙ a.id;
        })

    next-rooted : AreRooted (before ++ y ∷ [])
    next-rooted = record { rooted = rooted; once = once }
      where
        rooted : (x : Execution) → Has (before ++ y ∷ []) x → (o : Object) → Has x.gave.objects o → HasFirst m.opening (before ++ y ∷ []) o
        rooted x h o w = go (has_parts before (y ∷ []) x h)
          where
            go : Has before x ⊎ Has (y ∷ []) x → HasFirst m.opening (before ++ y ∷ []) o
            go (inl k) = first-more m.opening before (y ∷ []) o (are.rooted x k o w)
            go (inr (inl e)) = object-rooted o (subst (λ (g : Executed). Has g.objects o) (ap (λ (z : Execution). z.gave) (sym e) ∙ y-gave) w)
            go (inr (inr k)) = absurd k

        once : (x : Execution) → Has (before ++ y ∷ []) x → (u : Transaction) → Has (all_transactions s events) u → x.digest ≡ transaction_digest u → repeats id_eq (named_ids u ++ drawn_ids (transaction_digest u) x.gave.effects.created) ≡ false
        once x h u among e = go (has_parts before (y ∷ []) x h)
          where
            go : Has before x ⊎ Has (y ∷ []) x → repeats id_eq (named_ids u ++ drawn_ids (transaction_digest u) x.gave.effects.created) ≡ false
            go (inl k) = are.once x k u among e
            go (inr (inl q)) =
                let same : t ≡ u = honest.transactions t u in-run among (sym y-digest ∙ ap (λ (z : Execution). z.digest) q ∙ e) in
                let gave : execution t it.inputs ≡ x.gave = sym y-gave ∙ ap (λ (z : Execution). z.gave) q in
                subst (λ (z : Transaction). repeats id_eq (named_ids z ++ drawn_ids (transaction_digest z) x.gave.effects.created) ≡ false) same
                (subst (λ (g : Executed). repeats id_eq (named_ids t ++ drawn_ids (transaction_digest t) g.effects.created) ≡ false) gave once-here)
            go (inr (inr k)) = absurd k

  all-rooted : (xs before : List Execution) → ((z : Execution) → Has before z → Has m.executed z) → ((z : Execution) → Has xs z → Has m.executed z) → AreRooted before → Along (IsExplained (books m)) before xs → AreRooted (before ++ xs)
  all-rooted [] before inside rest are along = subst AreRooted (sym (append-nil before)) are
  all-rooted (x ∷ xs) before inside rest are along =
      subst AreRooted (append_assoc before (x ∷ []) xs) (all-rooted xs (before ++ x ∷ []) both (λ z h. rest z (inr h)) (next-rooted before are inside x (rest x (inl refl)) along.0) along.1)
    where
      both : (z : Execution) → Has (before ++ x ∷ []) z → Has m.executed z
      both z h = go (has_parts before (x ∷ []) z h)
        where
          go : Has before z ⊎ Has (x ∷ []) z → Has m.executed z
          go (inl k) = inside z k
          go (inr (inl e)) = rest z (inl e)
          go (inr (inr k)) = absurd k

  rooted-here : AreRooted m.executed
  rooted-here = all-rooted m.executed [] (λ z none. absurd none) (λ z h. h) (record { rooted = λ x none. absurd none; once = λ x none. absurd none }) (executions-explained s events n seat at)

  pub version-first : (v : Version) → Has (versions m.opening m.executed) v → HasFirst m.opening m.executed v.object
  version-first v h = go (version-there m.opening m.executed v h)
    where
      go : IsThere m.opening m.executed v.object → HasFirst m.opening m.executed v.object
      go (inl k) = inl (record { first = v.object; there = k; id = refl; share = refl })
      go (inr (x, k, w)) = rooted-here.rooted x k v.object w
