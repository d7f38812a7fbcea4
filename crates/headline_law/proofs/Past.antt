-- After the checkpoints of the epochs before its own a follower is where the member opened its epoch: epoch by epoch.
use Rattle.std.proofs.Common.{inl, inr, refl, sym, subst, ap, ◌∙◌, append_assoc, append-nil, arith}
use Rattle.std.specs.Prelude.{◌≡◌, ◌⊎◌, ◌<◌, ◌≤◌, ℕ, zero, suc, ◌+◌, true, List, [], ◌++◌, flat_map, length, map, slice_get, Some}
use Rattle.std.specs.FinMap.{values}
use Rattle.chain_types.specs.declared.objects.Object.{Object}
use Rattle.chain_types.specs.declared.transactions.Transaction.{Transaction}
use Rattle.chain_messages.specs.declared.messages.Certificate.{Certificate}
use Rattle.chain_messages.specs.declared.messages.Entry.{Entry}
use Rattle.checkpoint_core.specs.declared.checkpoints.Checkpoint.{Checkpoint}
use Rattle.journal_core.specs.declared.records.Record.{Record}
use Rattle.schedule_text.specs.declared.words.Event.{Event}
use Rattle.protocol_spec.specs.Chain.Words.{Each, Has, IsFront, last_of}
use Rattle.protocol_spec.specs.Member.Checkpoints.{digest_before}
use Rattle.protocol_spec.specs.Member.Sequence.{Sequence}
use Rattle.protocol_spec.specs.Member.Sequential.{Folded, Objects, fold_all, map_of}
use Rattle.protocol_spec.specs.Member.Member.{Member, built, state}
use Rattle.world_spec.specs.Setting.{Setting}
use Rattle.world_spec.specs.World.{Seat, entries_at, member_in, new_world}
use Rattle.world_spec.specs.Openings.{checkpointed, opening_at, sequence_of}
use Rattle.world_spec.specs.Run.{world_after}
use Rattle.world_spec.specs.Assumptions.{IsHonestRun, all_delivered, delivered}
use Rattle.safety_law.proofs.Forks.{all-front}
use Rattle.safety_law.proofs.Fronts.{honest-front}
use Rattle.block_law.specs.Orderly.{AreApart, tx_of}
use Rattle.block_law.proofs.ReadingSteps.{after_steps, thread-is}
use Rattle.safety_law.specs.Agreed.{IsTaken}
use Rattle.safety_law.specs.Checkpointed.{IsBuilt, admitted_in}
use Rattle.safety_law.specs.Opened.{OpensAsLeft}
use Rattle.safety_law.specs.Past.{past_at}
use Rattle.safety_law.specs.Steps.{step_of}
use Rattle.safety_law.specs.Thread.{transaction_of}
use Rattle.safety_law.proofs.Checkpointed.{checkpoints-of-fold}
use Rattle.safety_law.proofs.Ended.{more-left, seen-ended}
use Rattle.safety_law.proofs.Opened.{every-opening, grows-after}
use Rattle.safety_law.proofs.Past.{built-past, txs-cut}
use Rattle.safety_law.proofs.Prefixes.{follows, more-taken}
use Rattle.safety_law.proofs.Thread.{map-twice}
use Rattle.headline_law.proofs.Along.{IsOfCuts, built-from, past-before, same-or-less}
use Rattle.headline_law.proofs.Turning.{HasLeft, left-epoch}
use Rattle.follower_core.specs.Courses.{Course}
use Rattle.follower_core.specs.Following.{opened}
use Rattle.headline_law.proofs.Built.{IsAtEnd, IsAtOpening, AreFollowed, at-end, fresh_course, last-built, left_by, turn-built}
use Rattle.headline_law.proofs.Linking.{IsTip}
use Rattle.headline_law.proofs.Mapping.{map-again, own-after}
use Rattle.headline_law.proofs.Members.{gone-over}

-- ---- in the first epoch nothing was handed in

module _ (s : Setting) (txs : List Transaction) (m : Member) (opening : m.opening ≡ s.opening) (past : m.past ≡ []) (epoch : m.epoch ≡ 0) where
  first-tip : IsTip (opened s.opening).tip m.epoch m.past
  first-tip = record {
    up = refl;
    number = sym (ap (λ (cs : List Checkpoint). length cs) past);
    parent = sym (ap (λ (cs : List Checkpoint). digest_before (last_of cs)) past);
    epoch_is = sym epoch;
  }

  at-first : IsAtOpening s txs m
  at-first = record {
    past = record { handed = []; are = sym past; each = tt; applied = tt };
    course = ap fresh_course (sym opening);
    tip = first-tip;
  }

-- ---- from epoch to epoch

same-course : (c : Course) (m : Objects) (opening : List Object) → c ≡ record { map = c.map; ran = []; gone = [] } → c.map ≡ m → m ≡ map_of opening → c ≡ fresh_course opening
same-course c m opening fresh one two = fresh ∙ ap (λ (k : Objects). let d : Course = record { map = k; ran = []; gone = [] } in d) (one ∙ two)

-- what a follower has after the last checkpoint of an epoch is what it has at the opening of the next one
module _ (s : Setting) (txs : List Transaction) (old m : Member) (end : IsAtEnd s txs old) (epoch : m.epoch ≡ old.epoch + 1) (past : m.past ≡ built old)
    (opening : m.opening ≡ values (after_steps old.opening (map (step_of old) (flat_map admitted_in old.sequence.cuts)))) where
  abbrev what_stays : Objects
  what_stays = after_steps old.opening (map (step_of old) (flat_map admitted_in old.sequence.cuts))

  abbrev IsAs : List Checkpoint → ℕ → Type 0
  IsAs cs n = (f : AreFollowed s txs cs) × ((left_by s txs cs f).course ≡ fresh_course m.opening) × IsTip (left_by s txs cs f).tip n cs

  again : map_of m.opening ≡ what_stays
  again = ap map_of opening ∙ map-again what_stays (own-after old.opening (map (step_of old) (flat_map admitted_in old.sequence.cuts)))

  as-end : IsAs (built old) (old.epoch + 1)
  as-end = (end.all, same-course (left_by s txs (built old) end.all).course what_stays m.opening end.course end.objects (sym again), end.tip)

  at-next : IsAtOpening s txs m
  at-next =
      let it : IsAs m.past m.epoch = subst (IsAs m.past) (sym epoch) (subst (λ (cs : List Checkpoint). IsAs cs (old.epoch + 1)) (sym past) as-end) in
      record { past = it.0; course = it.1; tip = it.2 }

-- ---- a member that left an epoch, and one that is in the next

module _ (s : Setting) (sequences : List (List Entry)) (old : Member) (left : OpensAsLeft s sequences old) (taken : IsTaken s.rules (entries_at sequences old.epoch) old) (ended : old.sequence.ended ≡ true) where
  -- what it has of the sequence of the ended epoch is all that there is of it (safety_law: MembersFollowTheSequence)
  pub whole : sequence_of s sequences old.epoch old.opening ≡ old.sequence
  whole = seen-ended s.rules old.opening old.epoch taken.front (entries_at sequences old.epoch) taken.is_front (subst (λ (q : Sequence). q.ended ≡ true) taken.gives ended) ∙ sym taken.gives

  -- and what one thread leaves of it is the opening of the next epoch (the definition of opening_at)
  pub next-opening : opening_at s sequences (suc old.epoch) ≡ values (fold_all (map_of old.opening) (map transaction_of (flat_map admitted_in old.sequence.cuts))).map
  unfolding opening_at
  next-opening =
      ap (λ (os : List Object). values (fold_all (map_of os) (checkpointed (sequence_of s sequences old.epoch os))).map) (sym left.opening)
      ∙ ap (λ (q : Sequence). values (fold_all (map_of old.opening) (checkpointed q)).map) whole
      ∙ ap (λ (ts : List Transaction). values (fold_all (map_of old.opening) ts).map) (txs-cut old.sequence.cuts)

next-number : (n : ℕ) → suc n ≡ n + 1
next-number n = omega arith

module _ (s : Setting) (distinct : AreApart s.opening) (txs : List Transaction) where
  abbrev IsWithin : List Event → Type 0
  IsWithin events = (c : Certificate) → Has (all_delivered s events) c → Has txs c.tx

  within-front : (front back : List Event) → IsWithin (front ++ back) → IsWithin front
  unfolding all_delivered
  within-front front back within c h = within c (all-front delivered s front back (new_world s) c h)

  -- a member that has built all checkpoints of an epoch, which has ended, at a prefix of the run, and a follower that was
  -- where that one opened the epoch
  module _ (front back : List Event) (run_is : IsHonestRun s (front ++ back)) (within : IsWithin (front ++ back)) (k : ℕ) (a : Seat) (there : slice_get (world_after s front).seats k ≡ Some a)
      (ended : (member_in s a).sequence.ended ≡ true) (done : Each (IsBuilt (member_in s a)) (member_in s a).sequence.cuts) (before : IsAtOpening s txs (member_in s a)) where
    abbrev old : Member
    old = member_in s a

    abbrev qs : List (List Entry)
    qs = (world_after s (front ++ back)).sequences

    early : IsHonestRun s front
    early = honest-front s front back run_is

    left : OpensAsLeft s qs old
    left = more-left s (world_after s front).sequences qs (grows-after s front back) old (every-opening s front early distinct k a there)

    taken : IsTaken s.rules (entries_at qs old.epoch) old
    taken = more-taken s.rules (world_after s front).sequences qs old (grows-after s front back) (follows s front k a there)

    thread : (fold_all (map_of old.opening) (map transaction_of (flat_map admitted_in old.sequence.cuts))).map ≡ after_steps old.opening (map (step_of old) (flat_map admitted_in old.sequence.cuts))
    thread =
        let over = gone-over s front k a there early distinct old.sequence.cuts ([], sym (append-nil old.sequence.cuts)) done in
        ap (λ (ts : List Transaction). (fold_all (map_of old.opening) ts).map) (sym (map-twice (step_of old) tx_of (flat_map admitted_in old.sequence.cuts)))
        ∙ ap (λ (f : Folded). f.map) (thread-is old.opening (map (step_of old) (flat_map admitted_in old.sequence.cuts)) over.orderly over.finds)

    -- what its thread leaves is the opening of the next epoch
    opening-left : opening_at s qs (suc old.epoch) ≡ values (after_steps old.opening (map (step_of old) (flat_map admitted_in old.sequence.cuts)))
    opening-left = next-opening s qs old left taken ended ∙ ap (λ (k : Objects). values k) thread

    pub end-is : IsAtEnd s txs (member_in s a)
    end-is = at-end s front k a there early distinct txs (within-front front back within) before ended done

    pub end-objects : values (left_by s txs (built (member_in s a)) end-is.all).course.map ≡ opening_at s (world_after s (front ++ back)).sequences (suc (member_in s a).epoch)
    end-objects = ap (λ (k : Objects). values k) end-is.objects ∙ sym opening-left

    -- what the thread of one member leaves is also what another member opened the next epoch with
    module _ (n : ℕ) (seat : Seat) (at : slice_get (world_after s (front ++ back)).seats n ≡ Some seat) (epoch : (member_in s seat).epoch ≡ suc (member_in s a).epoch) where
      abbrev m : Member
      m = member_in s seat

      now : OpensAsLeft s qs m
      now = every-opening s (front ++ back) run_is distinct n seat at

      past-is : m.past ≡ built old
      past-is = now.checkpoints ∙ ap (past_at s qs) epoch
          ∙ sym (built-past s qs old left.opening (whole s qs old left taken ended) left.checkpoints done (checkpoints-of-fold s front k a there early distinct old.sequence.cuts ([], sym (append-nil old.sequence.cuts)) done))

      opens-next : IsAtOpening s txs m
      opens-next = at-next s txs old m end-is (epoch ∙ next-number old.epoch) past-is (now.opening ∙ ap (opening_at s qs) epoch ∙ opening-left)

  at-opening-of : (e : ℕ) (events : List Event) → IsHonestRun s events → IsWithin events → (n : ℕ) (seat : Seat) → slice_get (world_after s events).seats n ≡ Some seat → (member_in s seat).epoch ≡ e → IsAtOpening s txs (member_in s seat)
  unfolding opening_at past_at
  at-opening-of zero events run_is within n seat at epoch =
      let left = every-opening s events run_is distinct n seat at in
      at-first s txs (member_in s seat) (left.opening ∙ ap (opening_at s (world_after s events).sequences) epoch) (left.checkpoints ∙ ap (past_at s (world_after s events).sequences) epoch) epoch
  at-opening-of (suc e) events run_is within n seat at epoch =
      let it = left-epoch s events n seat at e (less (member_in s seat).epoch epoch) in
      let whole = subst (IsHonestRun s) (sym it.last.whole) run_is in
      let there = subst IsWithin (sym it.last.whole) within in
      opens-next it.last.front it.last.back whole there it.last.member it.last.seat it.last.there it.can.ended (turn-built s it.last.front it.last.member it.last.seat it.last.there it.can)
      (at-opening-of e it.last.front (honest-front s it.last.front it.last.back whole) (within-front it.last.front it.last.back there) it.last.member it.last.seat it.last.there it.last.epoch_is)
      n seat (subst (λ (es : List Event). slice_get (world_after s es).seats n ≡ Some seat) (sym it.last.whole) at) (epoch ∙ ap suc (sym it.last.epoch_is))
    where
      less : (k : ℕ) → k ≡ suc e → e < k
      less k q = omega (arith, q)

  -- after the checkpoints of the epochs before, a follower is where a member opened its epoch
  pub at-opening : (events : List Event) → IsHonestRun s events → ((c : Certificate) → Has (all_delivered s events) c → Has txs c.tx) → (n : ℕ) (seat : Seat) → slice_get (world_after s events).seats n ≡ Some seat → IsAtOpening s txs (member_in s seat)
  at-opening events run_is within n seat at = at-opening-of (member_in s seat).epoch events run_is within n seat at refl

  -- ---- after the last checkpoint of an epoch

  -- the checkpoints of the epochs up to this one, which begin those that a member has built; after them a follower is
  -- where the next epoch opens
  pub record IsEnd (sequences : List (List Entry)) (m : Member) (epoch : ℕ) : Type 0 where
    pub checkpoints : List Checkpoint
    pub first : IsFront checkpoints (built m)
    pub below : (c : Checkpoint) → Has checkpoints c → c.epoch ≤ epoch
    pub followed : AreFollowed s txs checkpoints
    pub objects : values (left_by s txs checkpoints followed).course.map ≡ opening_at s sequences (epoch + 1)
    pub tip : (left_by s txs checkpoints followed).tip.epoch ≡ epoch + 1

  built-below : (records : List Record) (c : Checkpoint) → Has (built (state s.rules s.opening records)) c → c.epoch ≤ (state s.rules s.opening records).epoch
  built-below records c h = go (built-from (state s.rules s.opening records) c h)
    where
      go : Has (state s.rules s.opening records).past c ⊎ IsOfCuts (state s.rules s.opening records).epoch (state s.rules s.opening records).executed c → c.epoch ≤ (state s.rules s.opening records).epoch
      go (inl k) = let less = past-before s.rules s.opening records c k in omega (arith, less)
      go (inr it) = let same = it.epoch_is in omega (arith, same)

  end-at : (front back : List Event) → IsHonestRun s (front ++ back) → IsWithin (front ++ back) → (k : ℕ) (a : Seat) → slice_get (world_after s front).seats k ≡ Some a
      → (member_in s a).sequence.ended ≡ true → Each (IsBuilt (member_in s a)) (member_in s a).sequence.cuts → (m : Member) → IsFront (built (member_in s a)) (built m) → IsEnd (world_after s (front ++ back)).sequences m (member_in s a).epoch
  end-at front back run_is within k a there ended done m first =
      let before = at-opening front (honest-front s front back run_is) (within-front front back within) k a there in
      let end = end-is front back run_is within k a there ended done before in
      record {
        checkpoints = built (member_in s a);
        first = first;
        below = built-below a.records;
        followed = end.all;
        objects = end-objects front back run_is within k a there ended done before ∙ ap (opening_at s (world_after s (front ++ back)).sequences) (next-number (member_in s a).epoch);
        tip = end.tip.epoch_is;
      }

  -- a member that has built the last checkpoint of an epoch has built all those up to it
  pub end-of : (front back : List Event) → IsHonestRun s (front ++ back) → ((c : Certificate) → Has (all_delivered s (front ++ back)) c → Has txs c.tx) → (n : ℕ) (seat : Seat) → slice_get (world_after s front).seats n ≡ Some seat
      → (c : Checkpoint) → Has (built (member_in s seat)) c → c.last ≡ true → IsEnd (world_after s (front ++ back)).sequences (member_in s seat) c.epoch
  end-of front back run_is within n seat at c h last = go (same-or-less c.epoch (member_in s seat).epoch (built-below seat.records c h))
    where
      here : c.epoch ≡ (member_in s seat).epoch → IsEnd (world_after s (front ++ back)).sequences (member_in s seat) c.epoch
      here same =
          let all = last-built s front n seat at c h last same in
          subst (IsEnd (world_after s (front ++ back)).sequences (member_in s seat)) (sym same) (end-at front back run_is within n seat at all.0 all.1 (member_in s seat) ([], sym (append-nil (built (member_in s seat)))))

      left_then : HasLeft s front seat.records c.epoch → IsEnd (world_after s (front ++ back)).sequences (member_in s seat) c.epoch
      left_then it =
          let whole : it.last.front ++ (it.last.back ++ back) ≡ front ++ back = sym (append_assoc it.last.front it.last.back back) ∙ ap (λ (es : List Event). es ++ back) it.last.whole in
          subst (IsEnd (world_after s (front ++ back)).sequences (member_in s seat)) it.last.epoch_is
          (subst (λ (es : List Event). IsEnd (world_after s es).sequences (member_in s seat) (member_in s it.last.seat).epoch) whole
          (end-at it.last.front (it.last.back ++ back) (subst (IsHonestRun s) (sym whole) run_is) (subst IsWithin (sym whole) within) it.last.member it.last.seat it.last.there it.can.ended
          (turn-built s it.last.front it.last.member it.last.seat it.last.there it.can) (member_in s seat) it.keeps))

      go : (c.epoch ≡ (member_in s seat).epoch) ⊎ (c.epoch < (member_in s seat).epoch) → IsEnd (world_after s (front ++ back)).sequences (member_in s seat) c.epoch
      go (inl same) = here same
      go (inr less) = left_then (left-epoch s front n seat at c.epoch less)
