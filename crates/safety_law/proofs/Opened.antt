-- Every member opens each epoch with what the epochs before left: line by line of a run, whose prefixes are honest too.
use Rattle.std.proofs.Common.{refl, sym, subst, ap, ◌∙◌, arith, append_assoc, append-nil}
use Rattle.std.specs.Prelude.{◌≡◌, ℕ, List, [], ◌∷◌, ◌++◌, slice_get, Some}
use Rattle.chain_messages.specs.declared.messages.Entry.{Entry}
use Rattle.journal_core.specs.declared.records.Record.{Record}
use Rattle.journal_core.specs.declared.records.Record.TheVariants as record_as
use Rattle.schedule_text.specs.declared.words.Event.{Event}
use Rattle.protocol_spec.proofs.ListLemmas.{each_at, each_as}
use Rattle.protocol_spec.specs.Chain.Words.{Each}
use Rattle.protocol_spec.specs.Member.Member.{Member, after, state}
use Rattle.protocol_spec.specs.Member.Calls.{Call, turns, due}
use Rattle.world_spec.specs.Setting.{Setting}
use Rattle.world_spec.specs.World.{Seat, World, new_world, member_in, numbered_call}
use Rattle.world_spec.specs.Step.{happens}
use Rattle.world_spec.specs.Openings.{opening_at}
use Rattle.world_spec.specs.Run.{world_after}
use Rattle.world_spec.specs.Assumptions.{IsHonestRun}
use Rattle.safety_law.proofs.InWorld.{new-seats}
use Rattle.safety_law.proofs.Apart.{state-push}
use Rattle.safety_law.proofs.Grown.{world-append}
use Rattle.safety_law.proofs.Fronts.{honest-front}
use Rattle.safety_law.proofs.Growth.{Grown, grows-line, grows-run}
use Rattle.safety_law.proofs.Appends.{a_turn, appended_as, appended_by, due-appends}
use Rattle.block_law.specs.Orderly.{AreApart}
use Rattle.safety_law.specs.Past.{past_at}
use Rattle.safety_law.specs.Opened.{OpensAsLeft}
use Rattle.safety_law.proofs.Ended.{more-left, same-opening, same-past}
use Rattle.safety_law.proofs.OneCall.{one-line}
use Rattle.safety_law.proofs.Turned.{turn-left}

-- ---- calls that are not a turn

abbrev NoTurn : Call → Type 0
NoTurn call = appended_by call ≡ Some a_turn → ⊥

-- ---- a record that is not a turn leaves the epoch and its opening

module _ (s : Setting) where
  abbrev Left : List (List Entry) → List Record → Type 0
  Left sequences records = OpensAsLeft s sequences (state s.rules s.opening records)

  abbrev AllLeft : List (List Entry) → List Seat → Type 0
  AllLeft sequences seats = Each (λ (seat : Seat). Left sequences seat.records) seats

  abbrev WorldLeft : World → Type 0
  WorldLeft w = AllLeft w.sequences w.seats

  same-left : (sequences : List (List Entry)) (m n : Member) → n.opening ≡ m.opening → n.epoch ≡ m.epoch → n.past ≡ m.past → OpensAsLeft s sequences m → OpensAsLeft s sequences n
  same-left sequences m n opening epoch past left = record {
    opening = opening ∙ left.opening ∙ ap (opening_at s sequences) (sym epoch);
    past = λ e less. left.past e (omega (arith, less, epoch));
    checkpoints = past ∙ left.checkpoints ∙ ap (past_at s sequences) (sym epoch);
  }

  record-left : (sequences : List (List Entry)) (m : Member) (x : Record) → (Some (appended_as x) ≡ Some a_turn → ⊥) → OpensAsLeft s sequences m → OpensAsLeft s sequences (after s.rules m x)
  unfolding after
  record-left sequences m (record_as.Vote tx origins) never left = same-left sequences m (after s.rules m (record_as.Vote tx origins)) refl refl refl left
  record-left sequences m (record_as.Hold c) never left = same-left sequences m (after s.rules m (record_as.Hold c)) refl refl refl left
  record-left sequences m (record_as.See bytes) never left = same-left sequences m (after s.rules m (record_as.See bytes)) refl refl refl left
  record-left sequences m record_as.Close never left = same-left sequences m (after s.rules m record_as.Close) refl refl refl left
  record-left sequences m (record_as.Ran txs) never left = same-left sequences m (after s.rules m (record_as.Ran txs)) refl refl refl left
  record-left sequences m record_as.Turn never left = absurd (never refl)
  record-left sequences m (record_as.Ran2 items) never left = same-left sequences m (after s.rules m (record_as.Ran2 items)) refl refl refl left

  call-left : (sequences : List (List Entry)) (records : List Record) (call : Call) (x : Record) → NoTurn call → due s.rules (state s.rules s.opening records) call ≡ Some x → Left sequences records → Left sequences (records ++ x ∷ [])
  call-left sequences records call x never d left = subst (OpensAsLeft s sequences) (sym (state-push s.rules s.opening records x))
      (record-left sequences (state s.rules s.opening records) x (λ q. never (due-appends x s.rules (state s.rules s.opening records) call d ∙ q)) left)

  -- ---- a turn

  -- at these seats a turn opens the next epoch with what is left
  abbrev TurnsLeft : World → Type 0
  TurnsLeft w = (m : ℕ) (seat : Seat) → slice_get w.seats m ≡ Some seat → (x : Record) → due s.rules (member_in s seat) turns ≡ Some x → Left w.sequences seat.records → Left w.sequences (seat.records ++ x ∷ [])

  -- ---- a line

  -- at these seats each call opens an epoch, or leaves the one that is open
  here-left : (w : World) → TurnsLeft w → (call : Call) (m : ℕ) (seat : Seat) → slice_get w.seats m ≡ Some seat → (x : Record) → due s.rules (member_in s seat) call ≡ Some x → Left w.sequences seat.records → Left w.sequences (seat.records ++ x ∷ [])
  here-left w turn turns m seat at x d left = turn m seat at x d left
  here-left w turn call m seat at x d left = call-left w.sequences seat.records call x (λ q. absurd (cc)) d left

  line-left : (w : World) (e : Event) → TurnsLeft w → WorldLeft w → WorldLeft (happens s w e)
  line-left w e turn all =
      each_as (λ (seat : Seat). Left w.sequences seat.records) (λ (seat : Seat). Left (happens s w e).sequences seat.records)
      (happens s w e).seats (λ seat left. more-left s w.sequences (happens s w e).sequences (grows-line s w e) (state s.rules s.opening seat.records) left)
      (one-line s (Left w.sequences) w (here-left w turn) (λ number e records x d left. call-left w.sequences records (numbered_call number e) x (λ q. absurd (cc)) d left) e all)

  -- ---- a run

  turns-left : (events : List Event) → IsHonestRun s events → AreApart s.opening → TurnsLeft (world_after s events)
  turns-left events honest distinct m seat at x d left =
      subst (OpensAsLeft s (world_after s events).sequences) (sym (state-push s.rules s.opening seat.records x)) (turn-left s events m seat at honest distinct x d left)

  run-left : (back front : List Event) → IsHonestRun s (front ++ back) → AreApart s.opening → WorldLeft (world_after s front) → WorldLeft (world_after s (front ++ back))
  run-left [] front honest distinct all = subst (λ (es : List Event). WorldLeft (world_after s es)) (sym (append-nil front)) all
  run-left (e ∷ back) front honest distinct all =
      subst (λ (es : List Event). WorldLeft (world_after s es)) (append_assoc front (e ∷ []) back)
      (run-left back (front ++ e ∷ []) (subst (IsHonestRun s) (sym (append_assoc front (e ∷ []) back)) honest) distinct
      (subst WorldLeft (sym (world-append s front (e ∷ []))) (line-left (world_after s front) e (turns-left front (honest-front s front (e ∷ back) honest) distinct) all)))

  none-left : Left ([] ∷ []) []
  unfolding state opening_at past_at
  none-left = record { opening = refl; past = λ e less. absurd (omega (arith, less)); checkpoints = refl }

  new-left : WorldLeft (world_after s [])
  unfolding world_after new_world
  new-left = new-seats s (λ call. ⊥) (Left ([] ∷ [])) (λ records call x g d p. absurd g) s.honest none-left

  pub every-opening : (events : List Event) → IsHonestRun s events → AreApart s.opening → (m : ℕ) (seat : Seat) → slice_get (world_after s events).seats m ≡ Some seat → OpensAsLeft s (world_after s events).sequences (member_in s seat)
  every-opening events honest distinct m seat at =
      each_at (λ (y : Seat). Left (world_after s events).sequences y.records) (world_after s events).seats m seat (run-left events [] honest distinct new-left) at

  -- ---- at two moments

  pub grows-after : (front back : List Event) → Grown (world_after s front).sequences (world_after s (front ++ back)).sequences
  grows-after front back = subst (λ (v : World). Grown (world_after s front).sequences v.sequences) (sym (world-append s front back)) (grows-run s back (world_after s front))

  pub opened-alike : (front back : List Event) → IsHonestRun s (front ++ back) → AreApart s.opening → (m n : ℕ) (a b : Seat)
      → slice_get (world_after s front).seats m ≡ Some a → slice_get (world_after s (front ++ back)).seats n ≡ Some b → (member_in s a).epoch ≡ (member_in s b).epoch → (member_in s a).opening ≡ (member_in s b).opening
  opened-alike front back honest distinct m n a b at by epoch =
      let early = every-opening front (honest-front s front back honest) distinct m a at in
      let late = every-opening (front ++ back) honest distinct n b by in
      early.opening ∙ sym (same-opening s (world_after s front).sequences (world_after s (front ++ back)).sequences (grows-after front back) (member_in s a).epoch early.past)
      ∙ ap (opening_at s (world_after s (front ++ back)).sequences) epoch ∙ sym late.opening

  pub past-alike : (front back : List Event) → IsHonestRun s (front ++ back) → AreApart s.opening → (m n : ℕ) (a b : Seat)
      → slice_get (world_after s front).seats m ≡ Some a → slice_get (world_after s (front ++ back)).seats n ≡ Some b → (member_in s a).epoch ≡ (member_in s b).epoch → (member_in s a).past ≡ (member_in s b).past
  past-alike front back honest distinct m n a b at by epoch =
      let early = every-opening front (honest-front s front back honest) distinct m a at in
      let late = every-opening (front ++ back) honest distinct n b by in
      early.checkpoints ∙ sym (same-past s (world_after s front).sequences (world_after s (front ++ back)).sequences (grows-after front back) (member_in s a).epoch early.past)
      ∙ ap (past_at s (world_after s (front ++ back)).sequences) epoch ∙ sym late.checkpoints
