-- Runs and closes: what is answered and due, and the state after it.
use Rattle.std.proofs.Common.{◌≡◌, ℕ, Bool, true, false, cond, not, List, [], ◌∷◌, ◌++◌, map, Option, Some, None, inr, refl, ap, sym, subst, ◌∙◌, append-nil}
use Rattle.std.specs.Prelude.{◌⊎◌, Result, Ok, Err, is_some}
use Rattle.outside.specs.Lists.{Journals, KeepsJournals}
use Rattle.journal_core.specs.declared.records.RanItem.{RanItem}
use Rattle.journal_core.specs.declared.records.Record.{Record}
use Rattle.journal_core.specs.declared.records.Record.TheVariants as record_as
use Rattle.protocol_spec.specs.declared.answers.Ran.{Ran}
use Rattle.protocol_spec.specs.declared.refusals.RunRefusal.{RunRefusal}
use Rattle.protocol_spec.specs.declared.refusals.RunRefusal.TheVariants as no_run
use Rattle.protocol_spec.specs.declared.refusals.CloseRefusal.{CloseRefusal}
use Rattle.protocol_spec.specs.declared.refusals.CloseRefusal.TheVariants as no_close
use Rattle.protocol_spec.specs.Chain.Words.{unless_refused, where_true}
use Rattle.protocol_spec.specs.Member.Versions.{Execution}
use Rattle.protocol_spec.specs.Member.Rounds.{rounds}
use Rattle.protocol_spec.specs.Member.Member.{Member, after, books, fresh, with_rounds}
use Rattle.protocol_spec.specs.Member.Calls.{after_due, called, close_answer, close_record, closes, due, ran_as, ran_item, ran_items, ran_record, run_answer, run_record, runs}
use Rattle.validator_core.specs.Answers.{bare, close_stopped, run_stopped}
use Rattle.validator_core.specs.Steps.{closing, counted_where}
use Rattle.validator_core.specs.declared.keeping.JournalFault.{JournalFault}
use Rattle.validator_core.specs.declared.keeping.JournalFault.TheVariants as unkept
use Rattle.validator_core.specs.Calls.{Closes, Runs, close_ended, close_said, run_ended, run_said, unkept_close, unkept_run}
use Rattle.validator_core.specs.Seats.{Becomes, Behaves, Ended, Journaled, Keeps, answered, fell, has_fallen}
use Rattle.world_spec.proofs.RulesAside.{close_answer_alike, close_called_alike, close_due_alike, run_answer_alike, run_called_alike, run_due_alike}
use Rattle.world_spec.specs.Seats.{Seated, bare_rules, due_at}
use Rattle.validator_core.proofs.Settling.{keeps_same, owed_at, seat_with, settles}

-- ---- records that are due

pub is_kept : (before now : Option Journals) (member : ℕ) (d x : Option Record) → d ≡ x → Keeps before now member x → Keeps before now member d
is_kept before now member d x is kept = subst (λ (y : Option Record). Keeps before now member y) (sym is) kept

pub maybe_kept : (before now : Option Journals) (member : ℕ) (d x : Option Record) → d ≡ x → Keeps before now member x ⊎ KeepsJournals before now → Keeps before now member d ⊎ KeepsJournals before now
maybe_kept before now member d x is kept = subst (λ (y : Option Record). Keeps before now member y ⊎ KeepsJournals before now) (sym is) kept

-- ---- a run

abbrev pub run_stop : RunRefusal → Result (Unit {0}) RunRefusal
run_stop refusal = Err refusal

abbrev pub run_free : Result (Unit {0}) RunRefusal
run_free = Ok tt

goes_on : (o : Option RunRefusal) (x : Ran) → run_free ≡ unless_refused o tt → unless_refused o x ≡ Ok x
goes_on None x e = refl
goes_on (Some refusal) x e = absurd (cc)

stops_so : (o : Option RunRefusal) (x : Ran) (refusal : RunRefusal) → run_stop refusal ≡ unless_refused o tt → unless_refused o x ≡ Err refusal
stops_so None x refusal e = absurd (cc)
stops_so (Some other) x refusal e = ap (λ (r : RunRefusal). Err r) (same other e)
  where
    same : (r : RunRefusal) → run_stop refusal ≡ Err r → r ≡ refusal
    same r e = cc

pub run_goes : (m : Member) (ran : Ran) → run_free ≡ unless_refused (run_stopped m) tt → ran ≡ ran_as m (rounds (books m) m.executed) (with_rounds m) → run_answer bare m ≡ Ok ran
unfolding run_answer
run_goes m ran e is = goes_on (run_stopped m) _ e ∙ ap (λ (x : Ran). Ok x) (sym is)

run_stops : (m : Member) (refusal : RunRefusal) → run_stop refusal ≡ unless_refused (run_stopped m) tt → run_answer bare m ≡ Err refusal
unfolding run_answer
run_stops m refusal e = stops_so (run_stopped m) _ refusal e

answer_as : (said : Result Ran RunRefusal) (refusal : RunRefusal) → said ≡ Err refusal → Runs said (Err refusal)
answer_as said no_run.Down h = h
answer_as said (no_run.Halted first second) h = h
answer_as said no_run.Full h = h
answer_as said no_run.KeepFault h = tt
answer_as said no_run.OutOfMemory h = tt

-- a refused run answers so, changes nothing, and has no record
pub run_refused : (m : Member) (refusal : RunRefusal) → run_stop refusal ≡ unless_refused (run_stopped m) tt → Runs (run_answer bare m) (Err refusal)
run_refused m refusal e = answer_as (run_answer bare m) refusal (run_stops m refusal e)

none_due : (m : Member) (refusal : RunRefusal) → run_stop refusal ≡ unless_refused (run_stopped m) tt → due bare m runs ≡ None
unfolding due
none_due m refusal e = ap (run_record m) (run_stops m refusal e)

becomes_same : (next m : Member) (e : Ended) → m ≡ next → Becomes next m e
becomes_same next m answered is = is
becomes_same next m fell is = tt

pub run_stays : (m : Member) (refusal : RunRefusal) → run_stop refusal ≡ unless_refused (run_stopped m) tt → Becomes (called bare m runs) m (run_ended (Err refusal))
run_stays m refusal e = becomes_same (called bare m runs) m (run_ended (Err refusal)) (ap (after_due bare m) (sym (none_due m refusal e)))

pub journals_same : (lists : Option Journals) (member : ℕ) (x : Option Record) (e : Ended) → x ≡ None → Journaled lists lists member x e
journals_same lists member x answered none = subst (λ (d : Option Record). Keeps lists lists member d) (sym none) (keeps_same lists)
journals_same lists member x fell none = inr (keeps_same lists)

pub run_unkept : (m : Member) (refusal : RunRefusal) (lists : Option Journals) (member : ℕ) → run_stop refusal ≡ unless_refused (run_stopped m) tt → Journaled lists lists member (due bare m runs) (run_ended (Err refusal))
run_unkept m refusal lists member e = journals_same lists member (due bare m runs) (run_ended (Err refusal)) (none_due m refusal e)

-- the record that is due lists what was executed
pub run_due : (m : Member) (ran : Ran) (items : List RanItem) → run_answer bare m ≡ Ok ran → items ≡ ran_items m → due bare m runs ≡ ran_record items
unfolding due
run_due m ran items e is = ap (run_record m) e ∙ ap ran_record (sym is)

pub run_owed : (m : Member) (ran : Ran) (items : List RanItem) → run_answer bare m ≡ Ok ran → items ≡ ran_items m → is_some (ran_record items) ≡ true → is_some (due bare m runs) ≡ true
run_owed m ran items e is some = ap (λ (o : Option Record). is_some o) (run_due m ran items e is) ∙ some

-- a run that says KeepFault has it from its record
pub run_fault_kept : (why : JournalFault) (e : RunRefusal) (r : Result Ran RunRefusal) → e ≡ unkept_run why → r ≡ Err e → r ≡ Err no_run.KeepFault → why ≡ unkept.KeepFault
run_fault_kept unkept.KeepFault e r is one fault = refl
run_fault_kept unkept.OutOfMemory e r is one fault = absurd (cc)

behind_rounds : (m : Member) (xs : List Execution) → rounds (books m) m.executed ≡ xs → counted_where (ran_record (map ran_item xs)) (with_rounds m) ≡ after_due bare m (ran_record (map ran_item xs))
unfolding after
behind_rounds m [] none = ap (λ (ys : List Execution). record m { executed = m.executed ++ ys }) none ∙ ap (λ (ys : List Execution). record m { executed = ys }) (append-nil m.executed)
behind_rounds m (x ∷ xs) some = refl

pub run_called : (m next : Member) (ran : Ran) (items : List RanItem) → run_answer bare m ≡ Ok ran → items ≡ ran_items m → next ≡ counted_where (ran_record items) (with_rounds m) → next ≡ called bare m runs
run_called m next ran items e is step =
    step
    ∙ ap (λ (xs : List RanItem). counted_where (ran_record xs) (with_rounds m)) is
    ∙ behind_rounds m (rounds (books m) m.executed) refl
    ∙ ap (λ (xs : List RanItem). after_due bare m (ran_record xs)) (sym is)
    ∙ ap (after_due bare m) (sym (run_due m ran items e is))

pub run_maybe_kept : (before now : Option Journals) (member : ℕ) (d x : Option Record) (why : JournalFault) → d ≡ x → Keeps before now member x ⊎ KeepsJournals before now → Journaled before now member d (run_ended (Err (unkept_run why)))
run_maybe_kept before now member d x unkept.KeepFault is kept = maybe_kept before now member d x is kept
run_maybe_kept before now member d x unkept.OutOfMemory is kept = maybe_kept before now member d x is kept

-- ---- a close

abbrev pub close_stop : CloseRefusal → Result (Unit {0}) CloseRefusal
close_stop refusal = Err refusal

abbrev pub close_free : Result (Unit {0}) CloseRefusal
close_free = Ok tt

close_goes_on : (o : Option CloseRefusal) (new : Bool) → close_free ≡ unless_refused o tt → unless_refused o new ≡ Ok new
close_goes_on None new e = refl
close_goes_on (Some refusal) new e = absurd (cc)

close_stops_so : (o : Option CloseRefusal) (new : Bool) (refusal : CloseRefusal) → close_stop refusal ≡ unless_refused o tt → unless_refused o new ≡ Err refusal
close_stops_so None new refusal e = absurd (cc)
close_stops_so (Some other) new refusal e = ap (λ (r : CloseRefusal). Err r) (same other e)
  where
    same : (r : CloseRefusal) → close_stop refusal ≡ Err r → r ≡ refusal
    same r e = cc

pub close_goes : (m : Member) (closed : Bool) → close_free ≡ unless_refused (close_stopped m) tt → m.closed ≡ closed → close_answer bare m ≡ Ok (not closed)
unfolding close_answer
close_goes m closed e is = close_goes_on (close_stopped m) (not m.closed) e ∙ ap (λ (b : Bool). Ok (not b)) is

close_stops : (m : Member) (refusal : CloseRefusal) → close_stop refusal ≡ unless_refused (close_stopped m) tt → close_answer bare m ≡ Err refusal
unfolding close_answer
close_stops m refusal e = close_stops_so (close_stopped m) (not m.closed) refusal e

close_as : (said : Result Bool CloseRefusal) (refusal : CloseRefusal) → said ≡ Err refusal → Closes said (Err refusal)
close_as said no_close.Down h = h
close_as said (no_close.Halted first second) h = h
close_as said no_close.Full h = h
close_as said no_close.KeepFault h = tt
close_as said no_close.OutOfMemory h = tt

pub close_refused : (m : Member) (refusal : CloseRefusal) → close_stop refusal ≡ unless_refused (close_stopped m) tt → Closes (close_answer bare m) (Err refusal)
close_refused m refusal e = close_as (close_answer bare m) refusal (close_stops m refusal e)

no_close_due : (m : Member) (refusal : CloseRefusal) → close_stop refusal ≡ unless_refused (close_stopped m) tt → due bare m closes ≡ None
unfolding due
no_close_due m refusal e = ap close_record (close_stops m refusal e)

pub close_stays : (m : Member) (refusal : CloseRefusal) → close_stop refusal ≡ unless_refused (close_stopped m) tt → Becomes (called bare m closes) m (close_ended (Err refusal))
close_stays m refusal e = becomes_same (called bare m closes) m (close_ended (Err refusal)) (ap (after_due bare m) (sym (no_close_due m refusal e)))

pub close_unkept : (m : Member) (refusal : CloseRefusal) (lists : Option Journals) (member : ℕ) → close_stop refusal ≡ unless_refused (close_stopped m) tt → Journaled lists lists member (due bare m closes) (close_ended (Err refusal))
close_unkept m refusal lists member e = journals_same lists member (due bare m closes) (close_ended (Err refusal)) (no_close_due m refusal e)

pub close_due : (m : Member) (new : Bool) → close_answer bare m ≡ Ok new → due bare m closes ≡ where_true new record_as.Close
unfolding due
close_due m new e = ap close_record e

pub close_owed : (m : Member) → close_free ≡ unless_refused (close_stopped m) tt → m.closed ≡ false → is_some (due bare m closes) ≡ true
close_owed m goes open_ = ap (λ (o : Option Record). is_some o) (close_due m true (close_goes m false goes open_))

pub close_maybe_kept : (before now : Option Journals) (member : ℕ) (d x : Option Record) (why : JournalFault) → d ≡ x → Keeps before now member x ⊎ KeepsJournals before now → Journaled before now member d (close_ended (Err (unkept_close why)))
close_maybe_kept before now member d x unkept.KeepFault is kept = maybe_kept before now member d x is kept
close_maybe_kept before now member d x unkept.OutOfMemory is kept = maybe_kept before now member d x is kept

-- the member closes, or was closed
pub close_called : (m next : Member) → close_answer bare m ≡ Ok true → next ≡ closing m → next ≡ called bare m closes
unfolding after
close_called m next e step = step ∙ ap (after_due bare m) (sym (close_due m true e))

pub closed_called : (m : Member) → close_answer bare m ≡ Ok false → m ≡ called bare m closes
closed_called m e = ap (after_due bare m) (sym (close_due m false e))

-- ---- at the seat

pub run_settles : (old : Seated) (mid state : Member) (e : Ended) → old.up ≡ true → Becomes (called bare old.state runs) mid e → state ≡ cond (has_fallen e) (fresh []) mid → Behaves (bare_rules old) runs old (seat_with old state e) e
run_settles old mid state e up h left = settles (bare_rules old) runs old mid state e up (subst (λ (next : Member). Becomes next mid e) (run_called_alike bare (bare_rules old) old.state) h) left

pub run_at : (old : Seated) (answer : Result Ran RunRefusal) → old.up ≡ true → Runs (run_answer bare old.state) answer → Runs (run_said (bare_rules old) old) answer
run_at old answer up h =
    subst (λ said. Runs said answer) (run_answer_alike bare (bare_rules old) old.state ∙ ap (λ (b : Bool). cond b (run_answer (bare_rules old) old.state) (Err no_run.Down)) (sym up)) h

pub run_due_at : (old : Seated) (before now : Option Journals) (e : Ended) → old.up ≡ true → Journaled before now old.member (due bare old.state runs) e → Journaled before now old.member (due_at (bare_rules old) old runs) e
run_due_at old before now e up h =
    subst (λ (x : Option Record). Journaled before now old.member x e) (run_due_alike bare (bare_rules old) old.state ∙ ap (λ (b : Bool). cond b (due (bare_rules old) old.state runs) None) (sym up)) h

pub run_owed_at : (old : Seated) → old.up ≡ true → is_some (due bare old.state runs) ≡ true → is_some (due_at (bare_rules old) old runs) ≡ true
run_owed_at old up h = owed_at (bare_rules old) old runs up (sym (ap (λ (o : Option Record). is_some o) (run_due_alike bare (bare_rules old) old.state)) ∙ h)

pub close_owed_at : (old : Seated) → old.up ≡ true → is_some (due bare old.state closes) ≡ true → is_some (due_at (bare_rules old) old closes) ≡ true
close_owed_at old up h = owed_at (bare_rules old) old closes up (sym (ap (λ (o : Option Record). is_some o) (close_due_alike bare (bare_rules old) old.state)) ∙ h)

pub close_settles : (old : Seated) (mid state : Member) (e : Ended) → old.up ≡ true → Becomes (called bare old.state closes) mid e → state ≡ cond (has_fallen e) (fresh []) mid → Behaves (bare_rules old) closes old (seat_with old state e) e
close_settles old mid state e up h left = settles (bare_rules old) closes old mid state e up (subst (λ (next : Member). Becomes next mid e) (close_called_alike bare (bare_rules old) old.state) h) left

pub close_at : (old : Seated) (answer : Result Bool CloseRefusal) → old.up ≡ true → Closes (close_answer bare old.state) answer → Closes (close_said (bare_rules old) old) answer
close_at old answer up h =
    subst (λ said. Closes said answer) (close_answer_alike bare (bare_rules old) old.state ∙ ap (λ (b : Bool). cond b (close_answer (bare_rules old) old.state) (Err no_close.Down)) (sym up)) h

pub close_due_at : (old : Seated) (before now : Option Journals) (e : Ended) → old.up ≡ true → Journaled before now old.member (due bare old.state closes) e → Journaled before now old.member (due_at (bare_rules old) old closes) e
close_due_at old before now e up h =
    subst (λ (x : Option Record). Journaled before now old.member x e) (close_due_alike bare (bare_rules old) old.state ∙ ap (λ (b : Bool). cond b (due (bare_rules old) old.state closes) None) (sym up)) h
