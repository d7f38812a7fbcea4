-- The change to the next epoch: what is answered and due, and the state after it.
use Rattle.std.proofs.Common.{◌≡◌, ◌+◌, ℕ, Bool, true, false, cond, not, List, [], ◌∷◌, Option, Some, None, refl, ap, sym, ◌∙◌, subst}
use Rattle.std.specs.Prelude.{◌⊎◌, Result, Ok, Err, is_err, is_ok, is_some, option_map}
use Rattle.digest_core.specs.declared.Digest.{Digest}
use Rattle.outside.specs.Lists.{Journals, KeepsJournals}
use Rattle.journal_core.specs.declared.records.Record.{Record}
use Rattle.journal_core.specs.declared.records.Record.TheVariants as record_as
use Rattle.protocol_spec.specs.declared.refusals.TurnRefusal.{TurnRefusal}
use Rattle.protocol_spec.specs.declared.refusals.TurnRefusal.TheVariants as no_turn
use Rattle.protocol_spec.specs.Chain.Words.{first_of, first_some, unless_refused, where_true}
use Rattle.protocol_spec.specs.Member.Admission.{Admitted}
use Rattle.protocol_spec.specs.Member.Checkpoints.{is_done}
use Rattle.protocol_spec.specs.Member.Member.{Member, after, built, fresh}
use Rattle.protocol_spec.specs.Member.Calls.{after_due, called, due, not_done, reverted, turn_answer, turn_cases, turn_record, turns}
use Rattle.protocol_spec.specs.Member.Votes.{Cast}
use Rattle.epoch_turn.specs.Chains.{waiting_one}
use Rattle.validator_core.specs.Answers.{bare}
use Rattle.validator_core.specs.Calls.{Turns, turn_ended, turn_said, unkept_turn}
use Rattle.validator_core.specs.Courses.{Coursed, turned_in}
use Rattle.validator_core.specs.Seats.{Becomes, Behaves, Ended, Journaled, Keeps, answered, fell, has_fallen}
use Rattle.validator_core.specs.Sound.{member_with}
use Rattle.validator_core.specs.Steps.{turning}
use Rattle.validator_core.specs.declared.keeping.JournalFault.{JournalFault}
use Rattle.validator_core.specs.declared.keeping.JournalFault.TheVariants as unkept
use Rattle.world_spec.proofs.RulesAside.{turn_answer_alike, turn_called_alike, turn_due_alike}
use Rattle.world_spec.specs.Seats.{Seated, bare_rules, due_at}
use Rattle.validator_core.proofs.Refusing.{free, none_stops, stop, stopped_by}
use Rattle.validator_core.proofs.Running.{journals_same, maybe_kept}
use Rattle.validator_core.proofs.Settling.{owed_at, seat_with, settles}

-- ---- the state after it

pub turning_is : (records : ℕ) (closed : Bool) (votes : List Cast) (old new : Coursed) → new ≡ turned_in old → member_with (records + 1) false [] new ≡ turning (member_with records closed votes old)
unfolding built
turning_is records closed votes old new is = ap (λ (c : Coursed). member_with (records + 1) false [] c) is

-- ---- what it waits for

waits_so : {A : Type 0} (test : A → Bool) (of : A → Digest) (xs : List A) → option_map (λ (tx : Digest). no_turn.Waits tx) (first_of (λ x. where_true (test x) (of x)) xs) ≡ first_of (λ x. where_true (test x) (no_turn.Waits (of x))) xs
waits_so test of [] = refl
waits_so {A} test of (x ∷ xs) = by (test x) (waits_so test of xs)
  where
    one : (o : Option Digest) (p : Option TurnRefusal) → option_map (λ (tx : Digest). no_turn.Waits tx) o ≡ p → option_map (λ (tx : Digest). no_turn.Waits tx) (first_some (o ∷ [])) ≡ first_some (p ∷ [])
    one None None e = refl
    one None (Some p) e = absurd (cc)
    one (Some tx) None e = absurd (cc)
    one (Some tx) (Some p) e = e

    by : (b : Bool) → option_map (λ (tx : Digest). no_turn.Waits tx) (first_of (λ y. where_true (test y) (of y)) xs) ≡ first_of (λ y. where_true (test y) (no_turn.Waits (of y))) xs
        → option_map (λ (tx : Digest). no_turn.Waits tx) (first_some (where_true b (of x) ∷ first_of (λ y. where_true (test y) (of y)) xs ∷ []))
        ≡ first_some (where_true b (no_turn.Waits (of x)) ∷ first_of (λ y. where_true (test y) (no_turn.Waits (of y))) xs ∷ [])
    by true rest = refl
    by false rest = one (first_of (λ y. where_true (test y) (of y)) xs) (first_of (λ y. where_true (test y) (no_turn.Waits (of y))) xs) rest

undone_is : (m : Member) → option_map (λ (tx : Digest). no_turn.Waits tx) (first_of (waiting_one m.held m.executed) m.sequence.admission.admitted) ≡ first_of (not_done m) m.sequence.admission.admitted
undone_is m = waits_so (λ (a : Admitted). not (is_done m.held m.executed a)) (λ (a : Admitted). a.digest) m.sequence.admission.admitted

pub one_waits : (m : Member) (tx : Digest) → Some tx ≡ first_of (waiting_one m.held m.executed) m.sequence.admission.admitted → first_of (not_done m) m.sequence.admission.admitted ≡ Some (no_turn.Waits tx)
one_waits m tx is = sym (undone_is m) ∙ ap (λ (o : Option Digest). option_map (λ (x : Digest). no_turn.Waits x) o) (sym is)

pub none_waits : (m : Member) → None ≡ first_of (waiting_one m.held m.executed) m.sequence.admission.admitted → first_of (not_done m) m.sequence.admission.admitted ≡ None
none_waits m is = sym (undone_is m) ∙ ap (λ (o : Option Digest). option_map (λ (x : Digest). no_turn.Waits x) o) (sym is)

-- ---- what is answered and due

pub turn_goes : (m : Member) (txs : List Digest) → free ≡ unless_refused (first_some (turn_cases m)) tt → txs ≡ reverted m → turn_answer bare m ≡ Ok txs
unfolding turn_answer
turn_goes m txs goes is = ap (λ (o : Option TurnRefusal). unless_refused o (reverted m)) (none_stops (first_some (turn_cases m)) goes) ∙ ap (λ (ds : List Digest). Ok ds) (sym is)

turn_stops : (m : Member) (refusal : TurnRefusal) → stop refusal ≡ unless_refused (first_some (turn_cases m)) tt → turn_answer bare m ≡ Err refusal
unfolding turn_answer
turn_stops m refusal stopped = ap (λ (o : Option TurnRefusal). unless_refused o (reverted m)) (stopped_by (first_some (turn_cases m)) refusal stopped)

turn_as : (said : Result (List Digest) TurnRefusal) (refusal : TurnRefusal) → said ≡ Err refusal → Turns said (Err refusal)
turn_as said no_turn.Down h = h
turn_as said (no_turn.Halted first second) h = h
turn_as said no_turn.Full h = h
turn_as said no_turn.NotEnded h = h
turn_as said (no_turn.Waits tx) h = h
turn_as said no_turn.KeepFault h = tt
turn_as said no_turn.OutOfMemory h = tt

pub turn_refused : (m : Member) (refusal : TurnRefusal) → stop refusal ≡ unless_refused (first_some (turn_cases m)) tt → Turns (turn_answer bare m) (Err refusal)
turn_refused m refusal e = turn_as (turn_answer bare m) refusal (turn_stops m refusal e)

no_turn_due : (m : Member) (refusal : TurnRefusal) → stop refusal ≡ unless_refused (first_some (turn_cases m)) tt → due bare m turns ≡ None
unfolding due
no_turn_due m refusal e = ap turn_record (turn_stops m refusal e)

becomes_same : (next m : Member) (e : Ended) → m ≡ next → Becomes next m e
becomes_same next m answered is = is
becomes_same next m fell is = tt

pub turn_stays : (m : Member) (refusal : TurnRefusal) → stop refusal ≡ unless_refused (first_some (turn_cases m)) tt → Becomes (called bare m turns) m (turn_ended (Err refusal))
turn_stays m refusal e = becomes_same (called bare m turns) m (turn_ended (Err refusal)) (ap (after_due bare m) (sym (no_turn_due m refusal e)))

pub turn_unkept : (m : Member) (refusal : TurnRefusal) (lists : Option Journals) (member : ℕ) → stop refusal ≡ unless_refused (first_some (turn_cases m)) tt → Journaled lists lists member (due bare m turns) (turn_ended (Err refusal))
turn_unkept m refusal lists member e = journals_same lists member (due bare m turns) (turn_ended (Err refusal)) (no_turn_due m refusal e)

pub turn_due : (m : Member) → free ≡ unless_refused (first_some (turn_cases m)) tt → due bare m turns ≡ Some record_as.Turn
unfolding due
turn_due m goes = ap turn_record (turn_goes m (reverted m) goes refl)

pub turn_owed : (m : Member) → free ≡ unless_refused (first_some (turn_cases m)) tt → is_some (due bare m turns) ≡ true
turn_owed m goes = ap (λ (o : Option Record). is_some o) (turn_due m goes)

pub turn_called : (m next : Member) → free ≡ unless_refused (first_some (turn_cases m)) tt → next ≡ turning m → next ≡ called bare m turns
unfolding after
turn_called m next goes step = step ∙ ap (after_due bare m) (sym (turn_due m goes))

pub turn_maybe_kept : (before now : Option Journals) (member : ℕ) (d x : Option Record) (why : JournalFault) → d ≡ x → Keeps before now member x ⊎ KeepsJournals before now → Journaled before now member d (turn_ended (Err (unkept_turn why)))
turn_maybe_kept before now member d x unkept.KeepFault is kept = maybe_kept before now member d x is kept
turn_maybe_kept before now member d x unkept.OutOfMemory is kept = maybe_kept before now member d x is kept

-- ---- a record that is read back

may_turn : (o : Option TurnRefusal) (txs : List Digest) (result : Result (Unit {0}) TurnRefusal) (b : Bool) → result ≡ unless_refused o tt → is_err result ≡ b → not b ≡ is_ok (unless_refused o txs)
may_turn None txs result b is bad = ap not (sym bad ∙ ap (λ (x : Result (Unit {0}) TurnRefusal). is_err x) is)
may_turn (Some refusal) txs result b is bad = ap not (sym bad ∙ ap (λ (x : Result (Unit {0}) TurnRefusal). is_err x) is)

pub turn_allowed : (m : Member) (result : Result (Unit {0}) TurnRefusal) → result ≡ unless_refused (first_some (turn_cases m)) tt → is_err result ≡ false → true ≡ is_ok (turn_answer bare m)
unfolding turn_answer
turn_allowed m result is good = may_turn (first_some (turn_cases m)) (reverted m) result false is good

pub turn_not_allowed : (m : Member) (result : Result (Unit {0}) TurnRefusal) → result ≡ unless_refused (first_some (turn_cases m)) tt → is_err result ≡ true → false ≡ is_ok (turn_answer bare m)
unfolding turn_answer
turn_not_allowed m result is bad = may_turn (first_some (turn_cases m)) (reverted m) result true is bad

-- ---- at the seat

pub turn_settles : (old : Seated) (mid state : Member) (e : Ended) → old.up ≡ true → Becomes (called bare old.state turns) mid e → state ≡ cond (has_fallen e) (fresh []) mid → Behaves (bare_rules old) turns old (seat_with old state e) e
turn_settles old mid state e up h left = settles (bare_rules old) turns old mid state e up (subst (λ (next : Member). Becomes next mid e) (turn_called_alike bare (bare_rules old) old.state) h) left

pub turn_at : (old : Seated) (answer : Result (List Digest) TurnRefusal) → old.up ≡ true → Turns (turn_answer bare old.state) answer → Turns (turn_said (bare_rules old) old) answer
turn_at old answer up h =
    subst (λ said. Turns said answer) (turn_answer_alike bare (bare_rules old) old.state ∙ ap (λ (b : Bool). cond b (turn_answer (bare_rules old) old.state) (Err no_turn.Down)) (sym up)) h

pub turn_due_at : (old : Seated) (before now : Option Journals) (e : Ended) → old.up ≡ true → Journaled before now old.member (due bare old.state turns) e → Journaled before now old.member (due_at (bare_rules old) old turns) e
turn_due_at old before now e up h =
    subst (λ (x : Option Record). Journaled before now old.member x e) (turn_due_alike bare (bare_rules old) old.state ∙ ap (λ (b : Bool). cond b (due (bare_rules old) old.state turns) None) (sym up)) h

pub turn_owed_at : (old : Seated) → old.up ≡ true → is_some (due bare old.state turns) ≡ true → is_some (due_at (bare_rules old) old turns) ≡ true
turn_owed_at old up h = owed_at (bare_rules old) old turns up (sym (ap (λ (o : Option Record). is_some o) (turn_due_alike bare (bare_rules old) old.state)) ∙ h)
