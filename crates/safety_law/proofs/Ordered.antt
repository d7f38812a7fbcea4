-- The steps of an executed prefix are orderly.
use Rattle.std.proofs.Common.{inl, inr, refl, sym, subst, ap, ◌∙◌, append_assoc, arith}
use Rattle.std.specs.Prelude.{◌≡◌, ◌⊎◌, ◌<◌, ◌≤◌, ℕ, zero, suc, Bool, true, false, ◌||◌, List, [], ◌∷◌, ◌++◌, map, zip, slice_get, Some, None}
use Rattle.std.specs.List.{list_any}
use Rattle.digest_core.specs.declared.Digest.{Digest}
use Rattle.chain_types.specs.declared.objects.ObjectId.{ObjectId}
use Rattle.chain_types.specs.declared.objects.ObjectKey.{ObjectKey}
use Rattle.chain_types.specs.declared.objects.Object.{Object}
use Rattle.chain_types.specs.declared.transactions.Input.{Input}
use Rattle.chain_types.specs.declared.transactions.Transaction.{Transaction}
use Rattle.chain_types.specs.Equal.{id_eq, digest_eq}
use Rattle.chain_types.specs.Digests.{transaction_digest, consumed_keys}
use Rattle.chain_messages.specs.declared.messages.Certificate.{Certificate}
use Rattle.schedule_text.specs.declared.words.Event.{Event}
use Rattle.protocol_spec.proofs.Equality.{id_same, digest_self}
use Rattle.protocol_spec.proofs.Executions.{effects_tx}
use Rattle.protocol_spec.specs.Chain.Words.{Has, Along, numbers_below, repeats}
use Rattle.protocol_spec.specs.Chain.Keys.{objects_of, named_ids, fits_input, fit_inputs}
use Rattle.protocol_spec.specs.Chain.Shape.{shape_cases, shape_fault}
use Rattle.protocol_spec.specs.Chain.Certificates.{Rules, cert_cases, cert_refusal}
use Rattle.protocol_spec.proofs.ListLemmas.{along-push, each_has, has_left, has_parts, has_mapped, and-second}
use Rattle.protocol_spec.proofs.Truth.{or_false_left, or_false_right, map_none, where_false}
use Rattle.protocol_spec.specs.Member.Versions.{is_executed}
use Rattle.protocol_spec.specs.Member.Admission.{Admitted}
use Rattle.protocol_spec.specs.Member.Member.{Member}
use Rattle.world_spec.specs.Setting.{Setting}
use Rattle.world_spec.specs.World.{Seat, member_in}
use Rattle.world_spec.specs.Names.{draws}
use Rattle.world_spec.specs.Run.{world_after}
use Rattle.world_spec.specs.Assumptions.{IsHonestRun, all_delivered, all_transactions}
use Rattle.safety_law.proofs.Apart.{none-each}
use Rattle.block_law.proofs.Live.{has-any}
use Rattle.block_law.specs.Admitted.{IsInOrder}
use Rattle.block_law.specs.Names.{drawn_id, drawn_ids, touched_ids}
use Rattle.block_law.proofs.Effects.{objects-ids}
use Rattle.block_law.proofs.Steps.{map-append}
use Rattle.block_law.proofs.Written.{fits-first, below}
use Rattle.safety_law.specs.Agreed.{IsGiven}
use Rattle.safety_law.proofs.Supply.{every-admission}
use Rattle.safety_law.proofs.Same.{of-run}
use Rattle.safety_law.proofs.Owner.{owner}
use Rattle.block_law.specs.Orderly.{Step, gave, id_of, Makes, IsKnown, IsSource, IsOrderly, AreOrderly}
use Rattle.block_law.proofs.ReadingSteps.{object-given, along-back, known-more, WroteKnown, IsGoneOver, goes-over}
use Rattle.safety_law.specs.Steps.{step_of, IsStepOf}
use Rattle.safety_law.specs.Orderly.{IsExecutedFront, OpensApart}
use Rattle.safety_law.proofs.Lists.{has-middle, along-front}
use Rattle.safety_law.proofs.SameSteps.{was-formed}
use Rattle.safety_law.proofs.Executed.{admitted-given, one-gave, executed-is-step}
use Rattle.safety_law.proofs.Sources.{sources}
use Rattle.safety_law.proofs.Drawn.{created-most}

-- ---- ids

pub repeats-append : (xs ys : List ObjectId) → repeats id_eq xs ≡ false → repeats id_eq ys ≡ false → ((x y : ObjectId) → Has xs x → Has ys y → x ≡ y → ⊥) → repeats id_eq (xs ++ ys) ≡ false
repeats-append [] ys one two apart = two
repeats-append (x ∷ xs) ys one two apart =
    go (list_any (id_eq x) (xs ++ ys)) (none-append xs (or_false_left (list_any (id_eq x) xs) (repeats id_eq xs) one)) (repeats-append xs ys (or_false_right (list_any (id_eq x) xs) (repeats id_eq xs) one) two (λ z y h. apart z y (inr h)))
  where
    none-of-ys : (zs : List ObjectId) → ((y : ObjectId) → Has zs y → x ≡ y → ⊥) → list_any (id_eq x) zs ≡ false
    none-of-ys [] none = refl
    none-of-ys (z ∷ zs) none = pick (id_eq x z) refl (none-of-ys zs (λ y h. none y (inr h)))
      where
        pick : (b : Bool) → id_eq x z ≡ b → list_any (id_eq x) zs ≡ false → (b || list_any (id_eq x) zs) ≡ false
        pick true e rest = absurd (none z (inl refl) (id_same x z e))
        pick false e rest = rest

    none-append : (zs : List ObjectId) → list_any (id_eq x) zs ≡ false → list_any (id_eq x) (zs ++ ys) ≡ false
    none-append [] e = none-of-ys ys (λ y h. apart x y (inl refl) h)
    none-append (z ∷ zs) e = pick (id_eq x z) e (none-append zs)
      where
        pick : (b : Bool) → (b || list_any (id_eq x) zs) ≡ false → (list_any (id_eq x) zs ≡ false → list_any (id_eq x) (zs ++ ys) ≡ false) → (b || list_any (id_eq x) (zs ++ ys)) ≡ false
        pick true e rest = absurd (cc)
        pick false e rest = rest e

    go : (b : Bool) → b ≡ false → repeats id_eq (xs ++ ys) ≡ false → (b || repeats id_eq (xs ++ ys)) ≡ false
    go true e rest = absurd (cc)
    go false e rest = rest

pub input-of : (t : Transaction) (is : List Input) (os : List Object) (o : Object) → fit_inputs t is os ≡ true → Has os o → (i : Input) × Has (zip is os) (i, o)
input-of t is [] o e h = absurd h
input-of t [] (p ∷ os) o e h = absurd (cc)
input-of t (i ∷ is) (p ∷ os) o e (inl q) = (i, inl (ap (λ (z : Object). (i, z)) q))
input-of t (i ∷ is) (p ∷ os) o e (inr h) = let r = input-of t is os o (and-second (fits_input t i p) (fit_inputs t is os) e) h in (r.0, inr r.1)

pub names-once : (r : Rules) (c : Certificate) → cert_refusal r c ≡ None → repeats id_eq (named_ids c.tx) ≡ false
unfolding cert_refusal shape_fault
names-once r c e =
    let shape = none-each (shape_cases c.tx) (map_none _ (shape_fault c.tx) (none-each (cert_cases r c) e).0) in
    where_false (repeats id_eq (named_ids c.tx)) 5 shape.1.1.1.1.0

-- an object of a source is known
source-known : (opening : List Object) (before : List Step) → IsGoneOver opening before → (i : Input) (o : Object) → IsSource opening before i o → IsKnown opening before o.id
source-known opening before over i o (inl from) = inl (o, from.opened, refl)
source-known opening before over i o (inr from) =
    let known = along-back opening (WroteKnown opening) [] from.front (from.writer ∷ from.back) (subst (λ (ys : List Step). Along (WroteKnown opening) [] ys) from.split over.known) in
    let whole : (from.front ++ from.writer ∷ []) ++ from.back ≡ before = append_assoc from.front (from.writer ∷ []) from.back ∙ sym from.split in
    subst (λ (ys : List Step). IsKnown opening ys o.id) whole (known-more opening (from.front ++ from.writer ∷ []) from.back o.id (known.0 o.id (object-given from.writer o from.written)))

module _ (s : Setting) (events : List Event) (honest : IsHonestRun s events) (n : ℕ) (seat : Seat) (at : slice_get (world_after s events).seats n ≡ Some seat) (opens : OpensApart s events (member_in s seat)) where
  abbrev m : Member
  m = member_in s seat

  given-of : (a : Admitted) → Has m.sequence.admission.admitted a → IsGiven s.rules (all_delivered s events) m.epoch a.digest a.cert
  given-of = admitted-given s events honest n seat at

  in-run : (a : Admitted) → Has m.sequence.admission.admitted a → Has (all_transactions s events) a.cert.tx
  in-run a h = of-run s events a.cert (given-of a h).comes

  draws-apart : (t : Transaction) → Has (all_transactions s events) t → (k : ℕ) → k ≤ draws t.commands → repeats id_eq (drawn_ids (transaction_digest t) k) ≡ false
  draws-apart t h zero low = refl
  draws-apart t h (suc k) low =
      subst (λ (ids : List ObjectId). repeats id_eq ids ≡ false) (sym (map-append (drawn_id (transaction_digest t)) (numbers_below k) (k ∷ [])))
      (repeats-append (drawn_ids (transaction_digest t) k) (drawn_id (transaction_digest t) k ∷ []) (draws-apart t h k (omega (arith, low))) refl apart)
    where
      differ : (j : ℕ) → j < k → drawn_id (transaction_digest t) j ≡ drawn_id (transaction_digest t) k → ⊥
      differ j less e = let same = (honest.ids.drawn t t h h j k (omega (arith, low, less)) (omega (arith, low)) e).1 in omega (arith, same, less)

      apart : (x y : ObjectId) → Has (drawn_ids (transaction_digest t) k) x → Has (drawn_id (transaction_digest t) k ∷ []) y → x ≡ y → ⊥
      apart x y one (inl two) e = let j = has_mapped (drawn_id (transaction_digest t)) (numbers_below k) x one in differ j.0 (below k j.0 j.1) (j.2 ∙ e ∙ sym two)
      apart x y one (inr two) e = two

  module _ (before back : List Admitted) (a : Admitted) (split : m.sequence.admission.admitted ≡ before ++ (a ∷ back))
      (ordered : Along (IsInOrder m.opening) [] before) (next : IsInOrder m.opening before a)
      (done : (b : Admitted) → Has before b → IsStepOf m b) (step : IsStepOf m a) (orderly : AreOrderly m.opening (map (step_of m) before)) where
    a-there : Has m.sequence.admission.admitted a
    a-there = subst (λ (zs : List Admitted). Has zs a) (sym split) (has-middle before a back)

    b-there : (b : Admitted) → Has before b → Has m.sequence.admission.admitted b
    b-there b h = subst (λ (zs : List Admitted). Has zs b) (sym split) (has_left before (a ∷ back) b h)

    digests-apart : (b : Admitted) → Has before b → transaction_digest b.cert.tx ≡ transaction_digest a.cert.tx → ⊥
    digests-apart b h e =
        let same : b.digest ≡ a.digest = (given-of b (b-there b h)).digest_is ∙ e ∙ sym (given-of a a-there).digest_is in
        let there = has-any (λ (x : Admitted). digest_eq x.digest a.digest) before b h (subst (λ (d : Digest). digest_eq b.digest d ≡ true) same (digest_self b.digest)) in
        let new = next.new in
        cc

    few : (k : ℕ) → k < (gave (step_of m a)).effects.created → k < draws a.cert.tx.commands
    few k less = let most = created-most a.cert.tx (step_of m a).inputs in omega (arith, less, most)

    keys-apart : (y : Step) → Has (map (step_of m) before) y → (key : ObjectKey) → Has (consumed_keys y.tx) key → Has (consumed_keys a.cert.tx) key → ⊥
    keys-apart y h key one two =
        let b = has_mapped (step_of m) before y h in
        digests-apart b.0 b.1 (ap transaction_digest (owner s events honest b.0.cert a.cert
        (was-formed s events honest m.epoch b.0.digest b.0.cert (given-of b.0 (b-there b.0 b.1))) (was-formed s events honest m.epoch a.digest a.cert (given-of a a-there))
        ((given-of b.0 (b-there b.0 b.1)).epoch_is ∙ sym (given-of a a-there).epoch_is) key (subst (λ (z : Step). Has (consumed_keys z.tx) key) (sym b.2) one) two))

    fresh : (id : ObjectId) → Makes (step_of m a) id → IsKnown m.opening (map (step_of m) before) id → ⊥
    fresh id (k, less, e) (inl (o, h, q)) = opens.new a.cert.tx (in-run a a-there) (given-of a a-there).epoch_is k (few k less) o h (q ∙ sym e)
    fresh id (k, less, e) (inr (y, h, makes)) =
        let b = has_mapped (step_of m) before y h in
        by-earlier b.0 b.1 (subst (λ (z : Step). Makes z id) (sym b.2) makes)
      where
        by-earlier : (b : Admitted) → Has before b → Makes (step_of m b) id → ⊥
        by-earlier b h (j, low, f) =
            let most = created-most b.cert.tx (step_of m b).inputs in
            digests-apart b h (honest.ids.drawn b.cert.tx a.cert.tx (in-run b (b-there b h)) (in-run a a-there) j k (omega (arith, low, most)) (few k less) (f ∙ sym e)).0

    from : (i : Input) (o : Object) → Has (zip (objects_of a.cert.tx) (step_of m a).inputs) (i, o) → IsSource m.opening (map (step_of m) before) i o
    from = sources m (one-gave s events honest n seat at) before back a split ordered next done step

    over : IsGoneOver m.opening (map (step_of m) before)
    over = goes-over m.opening opens.distinct (map (step_of m) before) [] (record { orderly = tt; finds = tt; known = tt }) orderly

    named-known : (id : ObjectId) → Has (named_ids a.cert.tx) id → IsKnown m.opening (map (step_of m) before) id
    named-known id h =
        let o = has_mapped id_of (step_of m a).inputs id (subst (λ (ids : List ObjectId). Has ids id) (sym (objects-ids a.cert.tx (step_of m a).inputs step.fit)) h) in
        let i = input-of a.cert.tx (objects_of a.cert.tx) (step_of m a).inputs o.0 (fits-first a.cert.tx (step_of m a).inputs step.fit) o.1 in
        subst (IsKnown m.opening (map (step_of m) before)) o.2 (source-known m.opening (map (step_of m) before) over i.0 o.0 (from i.0 o.0 i.1))

    touched-once : repeats id_eq (touched_ids a.cert.tx (gave (step_of m a)).effects) ≡ false
    touched-once = subst (λ (d : Digest). repeats id_eq (named_ids a.cert.tx ++ drawn_ids d (gave (step_of m a)).effects.created) ≡ false) (sym (effects_tx a.cert.tx (step_of m a).inputs))
        (repeats-append (named_ids a.cert.tx) (drawn_ids (transaction_digest a.cert.tx) (gave (step_of m a)).effects.created) (names-once s.rules a.cert (given-of a a-there).valid)
        (draws-apart a.cert.tx (in-run a a-there) (gave (step_of m a)).effects.created (created-most a.cert.tx (step_of m a).inputs)) apart)
      where
        apart : (x y : ObjectId) → Has (named_ids a.cert.tx) x → Has (drawn_ids (transaction_digest a.cert.tx) (gave (step_of m a)).effects.created) y → x ≡ y → ⊥
        apart x y named drawn e =
            let k = has_mapped (drawn_id (transaction_digest a.cert.tx)) (numbers_below (gave (step_of m a)).effects.created) y drawn in
            fresh x (k.0, below (gave (step_of m a)).effects.created k.0 k.1, k.2 ∙ sym e) (named-known x named)

    pub orderly-at : IsOrderly m.opening (map (step_of m) before) (step_of m a)
    orderly-at = record { fit = step.fit; sources = from; apart = keys-apart; fresh = fresh; once = touched-once }

  -- ---- the whole prefix

  along-steps : (before xs back : List Admitted) → m.sequence.admission.admitted ≡ (before ++ xs) ++ back → Along (IsInOrder m.opening) [] before → Along (IsInOrder m.opening) before xs
      → ((b : Admitted) → Has before b → IsStepOf m b) → ((b : Admitted) → Has xs b → IsStepOf m b)
      → AreOrderly m.opening (map (step_of m) before) → Along (IsOrderly m.opening) (map (step_of m) before) (map (step_of m) xs)
  along-steps before [] back split ordered next done todo orderly = tt
  along-steps before (a ∷ xs) back split ordered next done todo orderly =
      let here = orderly-at before (xs ++ back) a (split ∙ append_assoc before (a ∷ xs) back) ordered next.0 done (todo a (inl refl)) orderly in (
        here,
        subst (λ (ys : List Step). Along (IsOrderly m.opening) ys (map (step_of m) xs)) (map-append (step_of m) before (a ∷ []))
            (along-steps (before ++ a ∷ []) xs back (split ∙ ap (λ (zs : List Admitted). zs ++ back) (sym (append_assoc before (a ∷ []) xs))) (along-push (IsInOrder m.opening) [] before a ordered next.0) next.1
            (λ b h. both b (has_parts before (a ∷ []) b h)) (λ b h. todo b (inr h))
            (subst (λ (ys : List Step). Along (IsOrderly m.opening) [] ys) (sym (map-append (step_of m) before (a ∷ []))) (along-push (IsOrderly m.opening) [] (map (step_of m) before) (step_of m a) orderly here))),
      )
    where
      both : (b : Admitted) → Has before b ⊎ Has (a ∷ []) b → IsStepOf m b
      both b (inl h) = done b h
      both b (inr (inl e)) = subst (IsStepOf m) e (todo a (inl refl))
      both b (inr (inr h)) = absurd h

  pub front-step : (front : List Admitted) → IsExecutedFront m front → (b : Admitted) → Has front b → IsStepOf m b
  front-step front it b h = executed-is-step s events honest n seat at b (subst (λ (zs : List Admitted). Has zs b) (sym it.is_front.1) (has_left front it.is_front.0 b h))
      (each_has (λ (x : Admitted). is_executed m.executed x.digest ≡ true) front b it.executed h)

  pub steps-orderly : (front : List Admitted) → IsExecutedFront m front → AreOrderly m.opening (map (step_of m) front)
  steps-orderly front it = along-steps [] front it.is_front.0 it.is_front.1 tt
      (along-front (IsInOrder m.opening) [] front it.is_front.0 (subst (λ (zs : List Admitted). Along (IsInOrder m.opening) [] zs) it.is_front.1 (every-admission s events n seat at).order))
      (λ b none. absurd none) (front-step front it) tt
