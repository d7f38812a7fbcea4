-- The objects with which an epoch opens have different ids, which no transaction of the epoch draws.
use Rattle.std.proofs.Common.{inl, inr, refl, sym, subst, ap, ◌∙◌, arith, append_assoc, append-nil}
use Rattle.std.specs.Prelude.{◌≡◌, ◌⊎◌, ◌<◌, ◌≤◌, ◌+◌, ℕ, suc, List, [], ◌∷◌, ◌++◌, map, slice_get, Some}
use Rattle.chain_types.specs.declared.objects.ObjectId.{ObjectId}
use Rattle.chain_types.specs.declared.objects.Object.{Object}
use Rattle.chain_types.specs.declared.transactions.Transaction.{Transaction}
use Rattle.protocol_spec.specs.declared.pieces.Executed.{Executed}
use Rattle.journal_core.specs.declared.records.Record.{Record}
use Rattle.journal_core.specs.declared.records.Record.TheVariants as record_as
use Rattle.protocol_spec.specs.declared.answers.Held.{Held}
use Rattle.schedule_text.specs.declared.words.Event.{Event}
use Rattle.protocol_spec.proofs.ListLemmas.{each_has, find_has, has_parts}
use Rattle.protocol_spec.proofs.Truth.{some_same}
use Rattle.protocol_spec.specs.Chain.Words.{Has, Along, all_some}
use Rattle.protocol_spec.specs.Chain.Keys.{objects_of}
use Rattle.protocol_spec.specs.Member.Versions.{Execution, Version, versions, live_list}
use Rattle.protocol_spec.specs.Member.Checkpoints.{is_cut}
use Rattle.protocol_spec.specs.Member.Rounds.{Wanted, is_wanted, wants_of, found, present}
use Rattle.protocol_spec.specs.Member.Member.{Member, books, kept, after, state}
use Rattle.protocol_spec.specs.Member.Calls.{Call, due}
use Rattle.world_spec.specs.Setting.{Setting}
use Rattle.world_spec.specs.World.{Seat, new_world, member_in}
use Rattle.world_spec.specs.Names.{draws}
use Rattle.world_spec.specs.Run.{world_after}
use Rattle.world_spec.specs.Assumptions.{IsHonestRun, all_delivered, all_transactions, created}
use Rattle.safety_law.proofs.InWorld.{in_world_given}
use Rattle.safety_law.proofs.Apart.{state-push}
use Rattle.safety_law.specs.Agreed.{IsHeldAsGiven}
use Rattle.safety_law.specs.Explained.{IsExplained}
use Rattle.safety_law.proofs.Supply.{Delivers, delivers-run, Stocked, after-stocked, none-stocked}
use Rattle.safety_law.proofs.Executing.{AllExplained, explained-after, none-explained, some-parts}
use Rattle.safety_law.proofs.Same.{of-run}
use Rattle.block_law.specs.Orderly.{Step, IsOpening, AreApart}
use Rattle.block_law.proofs.Touched.{IsTouched}
use Rattle.block_law.proofs.ReadingSteps.{given-touched, object-given}
use Rattle.safety_law.specs.Orderly.{OpensApart}
use Rattle.safety_law.proofs.Drawn.{created-most}
use Rattle.safety_law.proofs.Wants.{found-as}
use Rattle.safety_law.proofs.Lives.{IsThere, live-apart, live-there, version-there, kept-has}
use Rattle.block_law.proofs.Written.{second}

-- an object that all are wanted and there is one of the versions
pub each-found : (vs : List Version) (ws : List Wanted) (os : List Object) → all_some (map (found vs) ws) ≡ Some os → (o : Object) → Has os o → (v : Version) × Has vs v × (v.object ≡ o)
each-found vs [] os e o h = absurd (subst (λ (zs : List Object). Has zs o) (sym (some_same [] os e)) h)
each-found vs (w ∷ ws) os e o h = go (some-parts (found vs w) (map (found vs) ws) os e) (each-found vs ws)
  where
    there : (q : Object) → found vs w ≡ Some q → (v : Version) × Has vs v × (v.object ≡ q)
    there q at = let f = found-as vs w q at in (f.0, find_has (is_wanted w.key w.producer) vs f.0 f.1, f.2)

    go : (q : Object) × (rest : List Object) × (found vs w ≡ Some q) × (all_some (map (found vs) ws) ≡ Some rest) × (Some (q ∷ rest) ≡ Some os) → ((rest : List Object) → all_some (map (found vs) ws) ≡ Some rest → (o : Object) → Has rest o → (v : Version) × Has vs v × (v.object ≡ o)) → (v : Version) × Has vs v × (v.object ≡ o)
    go (q, rest, at, all, same) back = pick (subst (λ (zs : List Object). Has zs o) (sym (some_same (q ∷ rest) os same)) h)
      where
        pick : Has (q ∷ rest) o → (v : Version) × Has vs v × (v.object ≡ o)
        pick (inl e) = let t = there q at in (t.0, t.1, t.2 ∙ e)
        pick (inr k) = back rest all o k

module _ (s : Setting) (total : List Transaction) where
  -- an id of the set-up, or that a transaction of an epoch below this one can draw
  abbrev IsOld : ℕ → ObjectId → Type 0
  IsOld epoch id = IsOpening s.opening id ⊎ ((t : Transaction) × Has total t × (t.epoch < epoch) × (n : ℕ) × (n < draws t.commands) × (created t n ≡ id))

  older : (low high : ℕ) → low ≤ high → (id : ObjectId) → IsOld low id → IsOld high id
  older low high le id (inl o) = inl o
  older low high le id (inr (t, h, less, n, draws, e)) = inr (t, h, omega (arith, le, less), n, draws, e)

  abbrev AreOld : ℕ → List Object → Type 0
  AreOld epoch os = (o : Object) → Has os o → IsOld epoch o.id

  -- ---- executed transactions write old ids, and what they draw

  module _ (m : Member) (old : AreOld m.epoch m.opening) (given : (h : Held) → Has m.held h → Has total h.cert.tx × (h.cert.tx.epoch ≡ m.epoch)) where
    abbrev WroteOld : List Execution → Type 0
    WroteOld xs = (x : Execution) → Has xs x → AreOld (suc m.epoch) x.gave.objects

    from-there : (before : List Execution) → WroteOld before → (o : Object) → IsThere m.opening before o → IsOld (suc m.epoch) o.id
    from-there before wrote o (inl h) = older m.epoch (suc m.epoch) (omega arith) o.id (old o h)
    from-there before wrote o (inr (x, h, k)) = wrote x h o k

    input-old : (before : List Execution) → WroteOld before → (h : Held) (os : List Object) → present (books m) before h ≡ Some os → AreOld (suc m.epoch) os
    unfolding present
    input-old before wrote h os e o k =
        let v = each-found (versions m.opening before) (wants_of m.sequence.admission h) os e o k in
        subst (λ (p : Object). IsOld (suc m.epoch) p.id) v.2 (from-there before wrote v.0.object (version-there m.opening before v.0 v.1))

    gave-old : (before : List Execution) → WroteOld before → (x : Execution) → IsExplained (books m) before x → AreOld (suc m.epoch) x.gave.objects
    gave-old before wrote x it o h = go (given-touched y o.id (object-given y o (subst (λ (g : Executed). Has g.objects o) (ap (λ (z : Execution). z.gave) it.is) h)))
      where
        y : Step
        y = record { tx = it.of.cert.tx; inputs = it.inputs }

        go : IsTouched y o.id → IsOld (suc m.epoch) o.id
        go (inl r) = subst (IsOld (suc m.epoch)) r.same (input-old before wrote it.of it.inputs it.were_there r.old (second (objects_of it.of.cert.tx) it.inputs r.of r.old r.named))
        go (inr (n, less, e)) =
            let t = given it.of it.is_held in
            let most = created-most it.of.cert.tx it.inputs in
            let epoch = t.1 in
            inr (it.of.cert.tx, t.0, omega (arith, epoch), n, omega (arith, less, most), e)

    all-old : (xs before : List Execution) → WroteOld before → Along (IsExplained (books m)) before xs → WroteOld (before ++ xs)
    all-old [] before wrote along = subst WroteOld (sym (append-nil before)) wrote
    all-old (x ∷ xs) before wrote along = subst WroteOld (append_assoc before (x ∷ []) xs) (all-old xs (before ++ x ∷ []) next along.1)
      where
        next : WroteOld (before ++ x ∷ [])
        next z h = pick (has_parts before (x ∷ []) z h)
          where
            pick : Has before z ⊎ Has (x ∷ []) z → AreOld (suc m.epoch) z.gave.objects
            pick (inl k) = wrote z k
            pick (inr (inl e)) = subst (λ (q : Execution). AreOld (suc m.epoch) q.gave.objects) e (gave-old before wrote x along.0)
            pick (inr (inr k)) = absurd k

-- ---- every record keeps it

module _ (s : Setting) (events : List Event) where
  abbrev all : List Transaction
  all = all_transactions s events

  record IsGrounded (m : Member) : Type 0 where
    distinct : AreApart m.opening
    old : AreOld s all m.epoch m.opening
    explained : AllExplained m
    stocked : Stocked s.rules (all_delivered s events) m

  held-of : (m : Member) → Stocked s.rules (all_delivered s events) m → (h : Held) → Has m.held h → Has all h.cert.tx × (h.cert.tx.epoch ≡ m.epoch)
  held-of m stocked h k =
      let g = each_has (IsHeldAsGiven s.rules (all_delivered s events) m.epoch) m.held h stocked.in_hand k in
      (of-run s events h.cert g.comes, g.epoch_is)

  kept-old : (m : Member) → IsGrounded m → AreOld s all (suc m.epoch) (live_list m.opening (kept m))
  kept-old m g o h = go (live-there m.opening (kept m) o h)
    where
      go : IsThere m.opening (kept m) o → IsOld s all (suc m.epoch) o.id
      go (inl k) = older s all m.epoch (suc m.epoch) (omega arith) o.id (g.old o k)
      go (inr (x, k, w)) = all-old s all m g.old (held-of m g.stocked) m.executed [] (λ z none. absurd none) g.explained x (kept-has (λ (y : Execution). is_cut m.sequence.cuts y.digest) m.executed x k) o w

  same-opening : (m n : Member) → IsGrounded m → n.opening ≡ m.opening → n.epoch ≡ m.epoch → AllExplained n → Stocked s.rules (all_delivered s events) n → IsGrounded n
  same-opening m n g opening epoch explained stocked = record {
    distinct = subst AreApart (sym opening) g.distinct;
    old = subst (λ (e : ℕ). AreOld s all e n.opening) (sym epoch) (subst (AreOld s all m.epoch) (sym opening) g.old);
    explained = explained;
    stocked = stocked;
  }

  next-epoch : (m : Member) → suc m.epoch ≡ m.epoch + 1
  next-epoch m = omega arith

  by-record : (m : Member) (x : Record) → IsGrounded m → AllExplained (after s.rules m x) → Stocked s.rules (all_delivered s events) (after s.rules m x) → IsGrounded (after s.rules m x)
  unfolding after
  by-record m (record_as.Vote tx origins) g explained stocked = same-opening m (after s.rules m (record_as.Vote tx origins)) g refl refl explained stocked
  by-record m (record_as.Hold c) g explained stocked = same-opening m (after s.rules m (record_as.Hold c)) g refl refl explained stocked
  by-record m (record_as.See bytes) g explained stocked = same-opening m (after s.rules m (record_as.See bytes)) g refl refl explained stocked
  by-record m record_as.Close g explained stocked = same-opening m (after s.rules m record_as.Close) g refl refl explained stocked
  by-record m (record_as.Ran txs) g explained stocked = same-opening m (after s.rules m (record_as.Ran txs)) g refl refl explained stocked
  by-record m record_as.Turn g explained stocked = record {
    distinct = live-apart m.opening (kept m);
    old = subst (λ (e : ℕ). AreOld s all e (live_list m.opening (kept m))) (next-epoch m) (kept-old m g);
    explained = explained;
    stocked = stocked;
  }
  by-record m (record_as.Ran2 items) g explained stocked = same-opening m (after s.rules m (record_as.Ran2 items)) g refl refl explained stocked

  grounded-after : (m : Member) (call : Call) (x : Record) → Delivers s.rules (all_delivered s events) call → due s.rules m call ≡ Some x → IsGrounded m → IsGrounded (after s.rules m x)
  grounded-after m call x k d g = by-record m x g (explained-after s.rules m x g.explained) (after-stocked s.rules (all_delivered s events) m call x k d g.stocked)

  none-grounded : AreApart s.opening → IsGrounded (state s.rules s.opening [])
  unfolding state
  none-grounded distinct = record { distinct = distinct; old = λ o h. inl (o, h, refl); explained = none-explained s.rules s.opening; stocked = none-stocked s.rules (all_delivered s events) s.opening }

  grounded : AreApart s.opening → (m : ℕ) (seat : Seat) → slice_get (world_after s events).seats m ≡ Some seat → IsGrounded (member_in s seat)
  unfolding all_delivered
  grounded distinct m seat e =
      in_world_given s (Delivers s.rules (all_delivered s events)) (λ records. IsGrounded (state s.rules s.opening records))
      (λ records call x k d g. subst IsGrounded (sym (state-push s.rules s.opening records x)) (grounded-after (state s.rules s.opening records) call x k d g))
      (none-grounded distinct) events (delivers-run s (all_delivered s events) events (new_world s) (λ c k. k)) m seat e

  pub opens-apart : IsHonestRun s events → AreApart s.opening → (m : ℕ) (seat : Seat) → slice_get (world_after s events).seats m ≡ Some seat → OpensApart s events (member_in s seat)
  opens-apart honest distinct m seat at = record { distinct = g.distinct; new = new }
    where
      g : IsGrounded (member_in s seat)
      g = grounded distinct m seat at

      new : (t : Transaction) → Has (all_transactions s events) t → t.epoch ≡ (member_in s seat).epoch → (n : ℕ) → n < draws t.commands → (o : Object) → Has (member_in s seat).opening o → o.id ≡ created t n → ⊥
      new t h epoch n low o k e = go (g.old o k)
        where
          go : IsOld s all (member_in s seat).epoch o.id → ⊥
          go (inl (p, there, q)) = honest.ids.opened t h n low p there (q ∙ e)
          go (inr (u, also, less, j, few, f)) =
              let digest = (honest.ids.drawn u t also h j n few low (f ∙ e)).0 in
              let same = ap (λ (z : Transaction). z.epoch) (honest.transactions u t also h digest) in
              omega (arith, less, epoch, same)
