-- What members have built, at whatever moments and in whatever epochs, are prefixes of one list of checkpoints.
use Rattle.std.proofs.Common.{refl, sym, subst, ap, ◌∙◌, arith, append_assoc, append-nil}
use Rattle.std.proofs.lemmas.Bool.{cond-true}
use Rattle.std.proofs.lemmas.List.{length-append, length-drop, length-map, take-append-le, drop-append-le}
use Rattle.std.specs.Prelude.{◌≡◌, ◌⊎◌, ◌≤◌, ◌+◌, ◌-◌, ℕ, zero, suc, Bool, true, false, cond, List, [], ◌∷◌, ◌++◌, map, flat_map, fold, zip, take, drop, length, slice_get, Option, Some, None}
use Rattle.std.specs.List.{list_all}
use Rattle.chain_types.specs.declared.objects.Object.{Object}
use Rattle.chain_types.specs.declared.transactions.Transaction.{Transaction}
use Rattle.effects_core.specs.declared.effects.Effects.{Effects}
use Rattle.checkpoint_core.specs.declared.checkpoints.Item.{Item}
use Rattle.checkpoint_core.specs.declared.checkpoints.Checkpoint.{Checkpoint}
use Rattle.chain_messages.specs.declared.messages.Entry.{Entry}
use Rattle.protocol_spec.specs.declared.answers.Held.{Held}
use Rattle.schedule_text.specs.declared.words.Event.{Event}
use Rattle.protocol_spec.proofs.ListLemmas.{front_whole, front_then, flat_append}
use Rattle.protocol_spec.specs.Chain.Words.{Each, IsFront, last_of}
use Rattle.protocol_spec.specs.Chain.Keys.{fits}
use Rattle.protocol_spec.specs.Block.Execution.{execution}
use Rattle.protocol_spec.specs.Member.Versions.{Execution}
use Rattle.protocol_spec.specs.Member.Admission.{Admitted}
use Rattle.protocol_spec.specs.Member.Sequence.{Cut, Sequence}
use Rattle.protocol_spec.specs.Member.Sequential.{Objects, map_of, read_by, Folded, without_effects, with_execution, executed_on, fold_one, fold_all}
use Rattle.protocol_spec.specs.Member.Checkpoints.{is_done, digest_before, checkpoint_behind, chained}
use Rattle.protocol_spec.specs.Member.Member.{Member, built}
use Rattle.world_spec.specs.Setting.{Setting}
use Rattle.world_spec.specs.World.{Seat, member_in, entries_at}
use Rattle.world_spec.specs.Openings.{txs_in, sequence_of, opening_at}
use Rattle.world_spec.specs.Run.{world_after}
use Rattle.world_spec.specs.Assumptions.{IsHonestRun}
use Rattle.block_law.proofs.Steps.{map-append}
use Rattle.safety_law.proofs.Fronts.{honest-front}
use Rattle.safety_law.proofs.Growth.{front-push}
use Rattle.safety_law.proofs.Prefixes.{either-front, more-taken, follows, earlier-front}
use Rattle.safety_law.specs.Agreed.{IsEarlier}
use Rattle.block_law.specs.Orderly.{AreApart}
use Rattle.safety_law.specs.Thread.{item_with}
use Rattle.safety_law.specs.Checkpointed.{admitted_in}
use Rattle.safety_law.proofs.Checkpointed.{checkpoints-of-fold}
use Rattle.safety_law.specs.Past.{items_of_thread, checkpoints_with, checkpoints_of_thread, past_at}
use Rattle.safety_law.specs.Opened.{OpensAsLeft}
use Rattle.safety_law.proofs.Past.{txs-cut, built-of-thread}
use Rattle.safety_law.proofs.Ended.{more-left}
use Rattle.safety_law.proofs.Opened.{every-opening, grows-after}

-- ---- lists

fold-over : {A B : Type 0} (f : A → B → A) (a : A) (xs ys : List B) → fold f a (xs ++ ys) ≡ fold f (fold f a xs) ys
fold-over f a [] ys = refl
fold-over f a (x ∷ xs) ys = fold-over f (f a x) xs ys

zip-append : {A B : Type 0} (xs us : List A) (ys vs : List B) → length ys ≡ length xs → zip (xs ++ us) (ys ++ vs) ≡ zip xs ys ++ zip us vs
zip-append [] us [] vs e = refl
zip-append [] us (y ∷ ys) vs e = absurd (cc)
zip-append (x ∷ xs) us [] vs e = absurd (cc)
zip-append {A = A} {B = B} (x ∷ xs) us (y ∷ ys) vs e = ap (λ (zs : List (A × B)). (x, y) ∷ zs) (zip-append xs us ys vs (omega (arith, e)))

length-zip : {A B : Type 0} (xs : List A) (ys : List B) → length ys ≡ length xs → length (zip xs ys) ≡ length xs
length-zip [] [] e = refl
length-zip [] (y ∷ ys) e = absurd (cc)
length-zip (x ∷ xs) [] e = absurd (cc)
length-zip (x ∷ xs) (y ∷ ys) e = ap suc (length-zip xs ys (omega (arith, e)))

-- ---- one thread over more transactions

one-more : (f : Folded) (t : Transaction) → (e : Option Effects) × ((fold_one f t).effects ≡ f.effects ++ e ∷ [])
unfolding fold_one
one-more f t = go (read_by f.map t)
  where
    fitting : (objects : List Object) (b : Bool) → (e : Option Effects) × ((cond b (with_execution f (execution t objects)) (without_effects f)).effects ≡ f.effects ++ e ∷ [])
    fitting objects true = (Some (execution t objects).effects, refl)
    fitting objects false = (None, refl)

    go : (read : Option (List Object)) → (e : Option Effects) × ((executed_on f t read).effects ≡ f.effects ++ e ∷ [])
    go None = (None, refl)
    go (Some objects) = fitting objects (fits t objects)

fold-more : (f : Folded) (txs : List Transaction) → (more : List (Option Effects)) × ((fold fold_one f txs).effects ≡ f.effects ++ more) × (length more ≡ length txs)
fold-more f [] = ([], sym (append-nil f.effects), refl)
fold-more f (t ∷ txs) =
    let one = one-more f t in
    let rest = fold-more (fold_one f t) txs in
    (one.0 ∷ rest.0, rest.1 ∙ ap (λ (es : List (Option Effects)). es ++ rest.0) one.1 ∙ append_assoc f.effects (one.0 ∷ []) rest.0, ap suc rest.2)

thread-more : (m : Objects) (txs more : List Transaction) → (es : List (Option Effects)) × ((fold_all m (txs ++ more)).effects ≡ (fold_all m txs).effects ++ es)
unfolding fold_all
thread-more m txs more =
    let start : Folded = record { map = m; effects = [] } in
    let rest = fold-more (fold fold_one start txs) more in
    (rest.0, ap (λ (f : Folded). f.effects) (fold-over fold_one start txs more) ∙ rest.1)

thread-length : (m : Objects) (txs : List Transaction) → length (fold_all m txs).effects ≡ length txs
unfolding fold_all
thread-length m txs = let all = fold-more (record { map = m; effects = [] }) txs in ap length all.1 ∙ all.2

module _ (opening : List Object) where
  abbrev effects_of : List Cut → List (Option Effects)
  effects_of cuts = (fold_all (map_of opening) (flat_map txs_in cuts)).effects

  effects-length : (cuts : List Cut) → length (effects_of cuts) ≡ length (flat_map admitted_in cuts)
  effects-length cuts = thread-length (map_of opening) (flat_map txs_in cuts) ∙ ap length (txs-cut cuts) ∙ length-map (flat_map admitted_in cuts) _

  items-length : (cuts : List Cut) → length (items_of_thread opening cuts) ≡ length (flat_map admitted_in cuts)
  items-length cuts = length-map (zip (flat_map admitted_in cuts) (effects_of cuts)) item_with ∙ length-zip (flat_map admitted_in cuts) (effects_of cuts) (effects-length cuts)

  items-more : (cuts rest : List Cut) → IsFront (items_of_thread opening cuts) (items_of_thread opening (cuts ++ rest))
  items-more cuts rest =
      let es = thread-more (map_of opening) (flat_map txs_in cuts) (flat_map txs_in rest) in (
        map item_with (zip (flat_map admitted_in rest) es.0),
        ap (λ (ts : List Transaction). map item_with (zip (flat_map admitted_in (cuts ++ rest)) (fold_all (map_of opening) ts).effects)) (flat_append txs_in cuts rest)
            ∙ ap (λ (txs : List Admitted). map item_with (zip txs (fold_all (map_of opening) (flat_map txs_in cuts ++ flat_map txs_in rest)).effects)) (flat_append admitted_in cuts rest)
            ∙ ap (λ (fs : List (Option Effects)). map item_with (zip (flat_map admitted_in cuts ++ flat_map admitted_in rest) fs)) es.1
            ∙ ap (map item_with) (zip-append (flat_map admitted_in cuts) (flat_map admitted_in rest) (effects_of cuts) es.0 (effects-length cuts))
            ∙ map-append item_with (zip (flat_map admitted_in cuts) (effects_of cuts)) (zip (flat_map admitted_in rest) es.0),
      )

-- ---- checkpoints of more cuts

module _ (epoch : ℕ) where
  abbrev put : List Checkpoint → Cut → List Item → List Checkpoint
  put before c items = before ++ record { epoch = epoch; number = length before; parent = digest_before (last_of before); items = items; last = c.last } ∷ []

  with-grows : (cuts : List Cut) (items : List Item) (before : List Checkpoint) → IsFront before (checkpoints_with epoch items before cuts)
  with-grows [] items before = front_whole before
  with-grows (c ∷ cuts) items before =
      let next : List Checkpoint = put before c (take (length c.txs) items) in
      front_then before next (checkpoints_with epoch (drop (length c.txs) items) next cuts)
      (front-push before (record { epoch = epoch; number = length before; parent = digest_before (last_of before); items = take (length c.txs) items; last = c.last }))
      (with-grows cuts (drop (length c.txs) items) next)

  with-more : (cuts rest : List Cut) (items more : List Item) (before : List Checkpoint) → length items ≡ length (flat_map admitted_in cuts)
      → checkpoints_with epoch (items ++ more) before (cuts ++ rest) ≡ checkpoints_with epoch more (checkpoints_with epoch items before cuts) rest
  with-more [] rest [] more before e = refl
  with-more [] rest (i ∷ items) more before e = absurd (cc)
  with-more (c ∷ cuts) rest items more before e =
      let whole : length items ≡ length c.txs + length (flat_map admitted_in cuts) = e ∙ length-append c.txs (flat_map admitted_in cuts) in
      let low : length c.txs ≤ length items = omega (arith, whole) in
      ap (λ (is : List Item). checkpoints_with epoch is (put before c (take (length c.txs) (items ++ more))) (cuts ++ rest)) (drop-append-le (length c.txs) items more low)
      ∙ ap (λ (is : List Item). checkpoints_with epoch (drop (length c.txs) items ++ more) (put before c is) (cuts ++ rest)) (take-append-le (length c.txs) items more low)
      ∙ with-more cuts rest (drop (length c.txs) items) more (put before c (take (length c.txs) items)) (left-over (length-drop (length c.txs) items) whole)
    where
      left-over : length (drop (length c.txs) items) ≡ length items - length c.txs → length items ≡ length c.txs + length (flat_map admitted_in cuts) → length (drop (length c.txs) items) ≡ length (flat_map admitted_in cuts)
      left-over d w = omega (arith, d, w)

  thread-front : (opening : List Object) (cuts longer : List Cut) (before : List Checkpoint) → IsFront cuts longer → IsFront (checkpoints_of_thread epoch opening cuts before) (checkpoints_of_thread epoch opening longer before)
  thread-front opening cuts longer before (rest, e) =
      let items = items-more opening cuts rest in
      let now : List Checkpoint = checkpoints_of_thread epoch opening cuts before in
      let same : checkpoints_of_thread epoch opening longer before ≡ checkpoints_with epoch items.0 now rest =
      ap (λ (cs : List Cut). checkpoints_of_thread epoch opening cs before) e
      ∙ ap (λ (is : List Item). checkpoints_with epoch is before (cuts ++ rest)) items.1
      ∙ with-more cuts rest (items_of_thread opening cuts) items.0 before (items-length opening cuts) in
      subst (IsFront now) (sym same) (with-grows rest items.0 now)

past-grows : (s : Setting) (sequences : List (List Entry)) (more epoch later : ℕ) → later ≡ more + epoch → IsFront (past_at s sequences epoch) (past_at s sequences later)
unfolding past_at
past-grows s sequences zero epoch later e = subst (λ (n : ℕ). IsFront (past_at s sequences epoch) (past_at s sequences n)) (same later e) (front_whole (past_at s sequences epoch))
  where
    same : (n : ℕ) → n ≡ zero + epoch → epoch ≡ n
    same n q = omega (arith, q)
past-grows s sequences (suc more) epoch later e = subst (λ (n : ℕ). IsFront (past_at s sequences epoch) (past_at s sequences n)) (next later e)
    (front_then (past_at s sequences epoch) (past_at s sequences before) (checkpoints_of_thread before (opening_at s sequences before) cuts (past_at s sequences before))
    (past-grows s sequences more epoch before refl) (with-grows before cuts (items_of_thread (opening_at s sequences before) cuts) (past_at s sequences before)))
  where
    before : ℕ
    before = more + epoch

    cuts : List Cut
    cuts = (sequence_of s sequences before (opening_at s sequences before)).cuts

    next : (n : ℕ) → n ≡ suc more + epoch → suc (more + epoch) ≡ n
    next n q = omega (arith, q)

-- ---- the cuts whose checkpoints a member has built

module _ (epoch : ℕ) (held : List Held) (executed : List Execution) where
  pub record AreDone (before : List Checkpoint) (all : List Cut) : Type 0 where
    pub cuts : List Cut
    pub front : IsFront cuts all
    pub done : Each (λ (c : Cut). list_all (is_done held executed) c.txs ≡ true) cuts
    pub is : chained epoch held executed before all ≡ chained epoch held executed before cuts

  pub are-done : (all : List Cut) (before : List Checkpoint) → AreDone before all
  are-done [] before = record { cuts = []; front = ([], refl); done = tt; is = refl }
  are-done (c ∷ cs) before = go (list_all (is_done held executed) c.txs) refl (are-done cs (before ++ checkpoint_behind epoch executed before c ∷ []))
    where
      next : List Checkpoint
      next = before ++ checkpoint_behind epoch executed before c ∷ []

      go : (b : Bool) → list_all (is_done held executed) c.txs ≡ b → AreDone next cs → AreDone before (c ∷ cs)
      go true e rest = record {
        cuts = c ∷ rest.cuts;
        front = (rest.front.0, ap (λ (ds : List Cut). c ∷ ds) rest.front.1);
        done = (e, rest.done);
        is = cond-true (list_all (is_done held executed) c.txs) (chained epoch held executed next cs) before e ∙ rest.is
            ∙ sym (cond-true (list_all (is_done held executed) c.txs) (chained epoch held executed next rest.cuts) before e);
      }
      go false e rest = record { cuts = []; front = (c ∷ cs, refl); done = tt; is = ap (λ (b : Bool). cond b (chained epoch held executed next cs) before) e }

-- ---- at a member

module _ (s : Setting) (front back : List Event) (honest : IsHonestRun s (front ++ back)) (distinct : AreApart s.opening) where
  abbrev qs : List (List Entry)
  qs = (world_after s (front ++ back)).sequences

  -- at a moment of a run it has built checkpoints of one thread over what the sequences of the whole run give
  pub built-first : (n : ℕ) (seat : Seat) → slice_get (world_after s front).seats n ≡ Some seat → IsFront (built (member_in s seat)) (past_at s qs (suc (member_in s seat).epoch))
  unfolding built past_at
  built-first n seat at = subst (λ (cs : List Checkpoint). IsFront cs (past_at s qs (suc m.epoch))) (sym same)
      (thread-front m.epoch (opening_at s qs m.epoch) to.cuts (sequence_of s qs m.epoch (opening_at s qs m.epoch)).cuts (past_at s qs m.epoch)
      (front_then to.cuts m.sequence.cuts (sequence_of s qs m.epoch (opening_at s qs m.epoch)).cuts to.front earlier.cuts))
    where
      m : Member
      m = member_in s seat

      early : IsHonestRun s front
      early = honest-front s front back honest

      left : OpensAsLeft s qs m
      left = more-left s (world_after s front).sequences qs (grows-after s front back) m (every-opening s front early distinct n seat at)

      to : AreDone m.epoch m.held m.executed m.past m.sequence.cuts
      to = are-done m.epoch m.held m.executed m.sequence.cuts m.past

      earlier : IsEarlier m.sequence (sequence_of s qs m.epoch (opening_at s qs m.epoch))
      earlier =
          let taken = more-taken s.rules (world_after s front).sequences qs m (grows-after s front back) (follows s front n seat at) in
          subst (λ (os : List Object). IsEarlier m.sequence (sequence_of s qs m.epoch os)) left.opening
          (subst (λ (q : Sequence). IsEarlier q (sequence_of s qs m.epoch m.opening)) (sym taken.gives)
          (earlier-front s.rules m.opening m.epoch taken.front (entries_at qs m.epoch) taken.is_front))

      same : built m ≡ checkpoints_of_thread m.epoch (opening_at s qs m.epoch) to.cuts (past_at s qs m.epoch)
      same = to.is ∙ built-of-thread m to.cuts to.done (checkpoints-of-fold s front n seat at early distinct to.cuts to.front to.done)
          ∙ ap (λ (os : List Object). checkpoints_of_thread m.epoch os to.cuts m.past) left.opening
          ∙ ap (checkpoints_of_thread m.epoch (opening_at s qs m.epoch) to.cuts) left.checkpoints

pub built-is-of-thread : (s : Setting) (events : List Event) → IsHonestRun s events → AreApart s.opening → (n : ℕ) (seat : Seat) → slice_get (world_after s events).seats n ≡ Some seat → IsFront (built (member_in s seat)) (past_at s (world_after s events).sequences (suc (member_in s seat).epoch))
built-is-of-thread s events honest distinct n seat at = subst (λ (es : List Event). IsFront (built (member_in s seat)) (past_at s (world_after s es).sequences (suc (member_in s seat).epoch))) (append-nil events)
    (built-first s events [] (subst (IsHonestRun s) (sym (append-nil events)) honest) distinct n seat at)

pub one-list : (s : Setting) (front back : List Event) → IsHonestRun s (front ++ back) → AreApart s.opening → (m n : ℕ) (a b : Seat)
    → slice_get (world_after s front).seats m ≡ Some a → slice_get (world_after s (front ++ back)).seats n ≡ Some b → IsFront (built (member_in s a)) (built (member_in s b)) ⊎ IsFront (built (member_in s b)) (built (member_in s a))
one-list s front back honest distinct m n a b at by =
    let all : List (List Entry) = (world_after s (front ++ back)).sequences in
    let p : ℕ = (member_in s a).epoch in
    let q : ℕ = (member_in s b).epoch in
    let later : q + suc p ≡ p + suc q = omega arith in
    let one : IsFront (built (member_in s a)) (past_at s all (q + suc p)) =
    front_then (built (member_in s a)) (past_at s all (suc p)) (past_at s all (q + suc p)) (built-first s front back honest distinct m a at) (past-grows s all q (suc p) (q + suc p) refl) in
    let two : IsFront (built (member_in s b)) (past_at s all (q + suc p)) =
    front_then (built (member_in s b)) (past_at s all (suc q)) (past_at s all (q + suc p)) (built-is-of-thread s (front ++ back) honest distinct n b by) (past-grows s all p (suc q) (q + suc p) later) in
    either-front (built (member_in s a)) (built (member_in s b)) one.0 two.0 (sym one.1 ∙ two.1)
