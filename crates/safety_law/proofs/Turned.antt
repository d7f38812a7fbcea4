-- A member turns if its epoch has ended and all that it admitted is done; it opens the next epoch with what one thread
-- leaves.
use Rattle.std.proofs.Common.{inl, inr, refl, sym, subst, ap, ◌∙◌, arith, append-nil}
use Rattle.std.specs.Prelude.{◌≡◌, ◌⊎◌, ◌<◌, ◌+◌, ℕ, zero, suc, Bool, true, List, [], ◌∷◌, map, flat_map, slice_get, Option, Some, None}
use Rattle.std.specs.FinMap.{values}
use Rattle.std.specs.List.{list_all}
use Rattle.chain_types.specs.declared.objects.Object.{Object}
use Rattle.chain_types.specs.declared.transactions.Transaction.{Transaction}
use Rattle.chain_messages.specs.declared.messages.Entry.{Entry}
use Rattle.journal_core.specs.declared.records.Record.{Record}
use Rattle.journal_core.specs.declared.records.Record.TheVariants as record_as
use Rattle.protocol_spec.specs.declared.refusals.TurnRefusal.{TurnRefusal}
use Rattle.protocol_spec.specs.declared.refusals.TurnRefusal.TheVariants as no_turn
use Rattle.schedule_text.specs.declared.words.Event.{Event}
use Rattle.protocol_spec.proofs.Checked.{valid_shape}
use Rattle.protocol_spec.proofs.ListLemmas.{flat_has, has_left, has_mapped}
use Rattle.protocol_spec.proofs.Truth.{where_not_true}
use Rattle.protocol_spec.specs.Chain.Words.{Has, Each, IsFront, first_some, unless_refused}
use Rattle.protocol_spec.specs.Chain.Shape.{shape_fault}
use Rattle.protocol_spec.specs.Chain.Certificates.{Rules}
use Rattle.protocol_spec.specs.Member.Admission.{Admitted}
use Rattle.protocol_spec.specs.Member.Sequence.{Sequence}
use Rattle.protocol_spec.specs.Member.Checkpoints.{is_done}
use Rattle.protocol_spec.specs.Member.Sequential.{map_of, fold_all}
use Rattle.protocol_spec.specs.Member.Member.{Member, turned, after}
use Rattle.protocol_spec.specs.Member.Calls.{turns, not_done, turn_cases, turn_answer, turn_record, reverted, due}
use Rattle.world_spec.specs.Setting.{Setting}
use Rattle.world_spec.specs.World.{Seat, member_in, entries_at}
use Rattle.world_spec.specs.Openings.{checkpointed, sequence_of, opening_at}
use Rattle.world_spec.specs.Run.{world_after}
use Rattle.world_spec.specs.Assumptions.{IsHonestRun}
use Rattle.safety_law.proofs.Apart.{none-each, none-of}
use Rattle.safety_law.proofs.Totals.{each-all}
use Rattle.safety_law.specs.Agreed.{IsTaken}
use Rattle.safety_law.proofs.Prefixes.{follows}
use Rattle.block_law.specs.Kept.{Follow, opened_with}
use Rattle.block_law.specs.Orderly.{Step, tx_of, effects_in, AreApart}
use Rattle.block_law.proofs.ReadingSteps.{chain-reads}
use Rattle.safety_law.specs.Steps.{step_of}
use Rattle.safety_law.specs.Orderly.{IsExecutedFront, OpensApart}
use Rattle.safety_law.specs.Thread.{transaction_of}
use Rattle.safety_law.specs.Checkpointed.{admitted_in, IsBuilt}
use Rattle.safety_law.proofs.Executed.{admitted-given}
use Rattle.safety_law.proofs.Ordered.{steps-orderly}
use Rattle.safety_law.proofs.Known.{opens-apart}
use Rattle.safety_law.proofs.Thread.{map-twice}
use Rattle.safety_law.proofs.Checkpointed.{all-cut, built-front, checkpoints-of-fold}
use Rattle.safety_law.proofs.Turning.{turns-to-fold}
use Rattle.safety_law.specs.Past.{past_at}
use Rattle.safety_law.specs.Opened.{GasHolds, HasEffects, IsOver, IsPast, OpensAsLeft}
use Rattle.safety_law.proofs.Past.{txs-cut, built-past}
use Rattle.safety_law.proofs.Ended.{seen-ended}
use Rattle.safety_law.proofs.Following.{steps-follow}

-- ---- lists

pub has-all : {A : Type 0} (test : A → Bool) (xs : List A) → ((x : A) → Has xs x → test x ≡ true) → list_all test xs ≡ true
has-all test [] each = refl
has-all test (x ∷ xs) each = rw (each x (inl refl)) (has-all test xs (λ y h. each y (inr h)))

-- ---- when a member turns

pub record CanTurn (m : Member) : Type 0 where
  pub ended : m.sequence.ended ≡ true
  pub done : (a : Admitted) → Has m.sequence.admission.admitted a → is_done m.held m.executed a ≡ true

turn-free : (m : Member) → first_some (turn_cases m) ≡ None → CanTurn m
turn-free m e =
    let none = none-each (turn_cases m) e in
    record {
      ended = where_not_true m.sequence.ended no_turn.NotEnded none.1.1.0;
      done = λ a h. where_not_true (is_done m.held m.executed a) (no_turn.Waits a.digest) (none-of (not_done m) m.sequence.admission.admitted a none.1.1.1.0 h);
    }

pub turn-due : (r : Rules) (m : Member) (x : Record) → due r m turns ≡ Some x → (record_as.Turn ≡ x) × CanTurn m
unfolding due turn_answer
turn-due r m x e = go (first_some (turn_cases m)) refl e
  where
    same : Some record_as.Turn ≡ Some x → record_as.Turn ≡ x
    same e = cc

    go : (refusal : Option TurnRefusal) → first_some (turn_cases m) ≡ refusal → turn_record (unless_refused refusal (reverted m)) ≡ Some x → (record_as.Turn ≡ x) × CanTurn m
    go None f e = (same e, turn-free m f)
    go (Some refusal) f e = absurd (cc)

all-built : (m : Member) → CanTurn m → IsFront (flat_map admitted_in m.sequence.cuts) m.sequence.admission.admitted → Each (IsBuilt m) m.sequence.cuts
all-built m can (rest, front) = each-all (IsBuilt m) m.sequence.cuts (λ c h. has-all (is_done m.held m.executed) c.txs (λ a k.
    can.done a (subst (λ (zs : List Admitted). Has zs a) (sym front) (has_left (flat_map admitted_in m.sequence.cuts) rest a (flat_has admitted_in m.sequence.cuts c a h k)))))

-- ---- what it opens the next epoch with

-- the sequence that a member has of an ended epoch is all that there is of it
whole-sequence : (s : Setting) (sequences : List (List Entry)) (m : Member) → IsTaken s.rules (entries_at sequences m.epoch) m → m.sequence.ended ≡ true → sequence_of s sequences m.epoch m.opening ≡ m.sequence
whole-sequence s sequences m taken ended =
    seen-ended s.rules m.opening m.epoch taken.front (entries_at sequences m.epoch) taken.is_front (subst (λ (q : Sequence). q.ended ≡ true) taken.gives ended)
    ∙ sym taken.gives

next-opening : (s : Setting) (sequences : List (List Entry)) (m : Member) (next : List Object) → m.opening ≡ opening_at s sequences m.epoch → sequence_of s sequences m.epoch m.opening ≡ m.sequence
    → next ≡ values (fold_all (map_of m.opening) (map transaction_of (flat_map admitted_in m.sequence.cuts))).map
    → next ≡ opening_at s sequences (suc m.epoch)
unfolding opening_at
next-opening s sequences m next opening whole leaves =
    leaves
    ∙ ap (λ (ts : List Transaction). values (fold_all (map_of m.opening) ts).map) (sym (txs-cut m.sequence.cuts))
    ∙ ap (λ (q : Sequence). values (fold_all (map_of m.opening) (checkpointed q)).map) (sym whole)
    ∙ ap (λ (os : List Object). values (fold_all (map_of os) (checkpointed (sequence_of s sequences m.epoch os))).map) opening

past-now : (s : Setting) (sequences : List (List Entry)) (m : Member) → m.opening ≡ opening_at s sequences m.epoch → sequence_of s sequences m.epoch m.opening ≡ m.sequence → IsOver m.opening m.sequence → IsPast s sequences m.epoch
past-now s sequences m opening whole over =
    subst (λ (os : List Object). IsOver os (sequence_of s sequences m.epoch os)) opening (subst (IsOver m.opening) (sym whole) over)

split-below : (e n : ℕ) → e < suc n → (e < n) ⊎ (e ≡ n)
split-below zero zero less = inr refl
split-below zero (suc n) less = inl (omega arith)
split-below (suc e) zero less = absurd (omega (arith, less))
split-below (suc e) (suc n) less = go (split-below e n (omega (arith, less)))
  where
    go : (e < n) ⊎ (e ≡ n) → (suc e < suc n) ⊎ (suc e ≡ suc n)
    go (inl h) = inl (omega (arith, h))
    go (inr h) = inr (ap suc h)

below-next : (P : ℕ → Type 0) (n : ℕ) → ((e : ℕ) → e < n → P e) → P n → (e : ℕ) → e < n + 1 → P e
below-next P n each one e less = go (split-below e n (omega (arith, less)))
  where
    go : (e < n) ⊎ (e ≡ n) → P e
    go (inl h) = each e h
    go (inr h) = subst P (sym h) one

next-epoch : (n : ℕ) → suc n ≡ n + 1
next-epoch n = omega arith

module _ (s : Setting) (events : List Event) (n : ℕ) (seat : Seat) (at : slice_get (world_after s events).seats n ≡ Some seat) (honest : IsHonestRun s events) (distinct : AreApart s.opening) where
  abbrev m : Member
  m = member_in s seat

  abbrev qs : List (List Entry)
  qs = (world_after s events).sequences

  abbrev front : List Admitted
  front = flat_map admitted_in m.sequence.cuts

  opens : OpensApart s events m
  opens = opens-apart s events honest distinct n seat at

  shapes : IsExecutedFront m front → (x : Step) → Has (map (step_of m) front) x → shape_fault x.tx ≡ None
  shapes it x h =
      let a = has_mapped (step_of m) front x h in
      let there = subst (λ (zs : List Admitted). Has zs a.0) (sym it.is_front.1) (has_left front it.is_front.0 a.0 a.1) in
      subst (λ (y : Step). shape_fault y.tx ≡ None) a.2 (valid_shape s.rules a.0.cert (admitted-given s events honest n seat at a.0 there).valid)

  txs-are : map tx_of (map (step_of m) front) ≡ checkpointed m.sequence
  txs-are = map-twice (step_of m) tx_of front ∙ sym (txs-cut m.sequence.cuts)

  done-front : CanTurn m → IsExecutedFront m front
  done-front can = built-front s events n seat at m.sequence.cuts ([], sym (append-nil m.sequence.cuts)) (all-built m can (all-cut s events n seat at))

  all-effects : (xs : List Step) → Each HasEffects (map effects_in xs)
  all-effects [] = tt
  all-effects (x ∷ xs) = (refl, all-effects xs)

  is-over : CanTurn m → IsOver m.opening m.sequence
  is-over can =
      let orderly = steps-orderly s events honest n seat at opens front (done-front can) in
      record {
        ended = can.ended;
        apart = opens.distinct;
        executed = subst (λ (ts : List Transaction). Each HasEffects (fold_all (map_of m.opening) ts).effects) txs-are
            (subst (Each HasEffects) (sym (chain-reads m.opening (map (step_of m) front) opens.distinct orderly).effects) (all-effects (map (step_of m) front)));
        follow = λ amounts. subst (Follow (opened_with (map_of m.opening))) txs-are
            (steps-follow m.opening opens.distinct (map (step_of m) front) orderly (shapes (done-front can)) (subst (GasHolds (opened_with (map_of m.opening))) (sym txs-are) amounts));
      }

  turns-left : CanTurn m → OpensAsLeft s qs m → OpensAsLeft s qs (after s.rules m record_as.Turn)
  unfolding after
  turns-left can left =
      let whole = whole-sequence s qs m (follows s events n seat at) can.ended in
      record {
        opening = next-opening s qs m (turned m).opening left.opening whole (turns-to-fold s events n seat at honest distinct (all-built m can (all-cut s events n seat at))) ∙ ap (opening_at s qs) (next-epoch m.epoch);
        past = below-next (IsPast s qs) m.epoch left.past (past-now s qs m left.opening whole (is-over can));
        checkpoints = built-past s qs m left.opening whole left.checkpoints (all-built m can (all-cut s events n seat at))
            (checkpoints-of-fold s events n seat at honest distinct m.sequence.cuts ([], sym (append-nil m.sequence.cuts)) (all-built m can (all-cut s events n seat at))) ∙ ap (past_at s qs) (next-epoch m.epoch);
      }

  pub turn-left : (x : Record) → due s.rules m turns ≡ Some x → OpensAsLeft s qs m → OpensAsLeft s qs (after s.rules m x)
  turn-left x d left =
      let t = turn-due s.rules m x d in
      subst (λ (y : Record). OpensAsLeft s qs (after s.rules m y)) t.0 (turns-left t.1 left)
