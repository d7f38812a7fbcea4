-- A line, by its own method, as a step.
use Rattle.std.proofs.Common.{◌≡◌, ◌∙◌, sym, refl, subst, arith, ℕ, Bool, true, false, List, Option, None, Result, Ok, Err}
use Rattle.std.specs.Prelude.{IfOk, IsErrOf, OnErr, OnOk, slice_get}
use Rattle.outside.specs.Lists.{Journals, KeepsJournals}
use Rattle.report_text.specs.declared.lines.Line.{Line}
use Rattle.schedule_text.specs.declared.words.Event.{Event}
use Rattle.schedule_text.specs.declared.words.Event.TheVariants as events
use Rattle.wire_bcs.specs.declared.seq.OutOfMemory.{OutOfMemory}
use Rattle.world_lines.specs.Pushed.{GrowsToward}
use Rattle.world_spec.specs.World.{Said}
use Rattle.world_spec.specs.Moves.{Move, is_start_move, starts_again, move_of}
use Rattle.world_spec.specs.Scene.{Scene, rules_in}
use Rattle.world_spec.specs.SceneSteps.{lines_in, steps_to, work_of}
use Rattle.world_core.specs.Steps.{lines_after, scene_after}
use Rattle.world_spec.specs.SceneWorlds.{is_restart}
use Rattle.protocol_spec.specs.Chain.Certificates.{Rules}
use Rattle.world_spec.specs.Setting.{Trust}
use Rattle.world_core.specs.declared.reply.SeatFault.{SeatFault}
use Rattle.world_core.specs.declared.reply.SeatFault.TheVariants as seat_fault
use Rattle.world_core.specs.declared.world.WorldFault.{WorldFault}
use Rattle.world_core.specs.declared.world.WorldFault.TheVariants as fault
use Rattle.world_core.specs.Cuts.{LineCut, SeenCut, books_in, orders_end, still_in}
use Rattle.world_core.specs.Kept.{LeavesAs, is_quiet}
use Rattle.world_core.specs.Restarts.{Accepting, MayStart, RestartsAs}
use Rattle.world_core.specs.Served.{KeeperAfter, LineAfter, StepAfter, call_outcome, quiet_outcome}
use Rattle.world_core.proofs.Cuts.{idle_line_on, loud_posts, on_err, quiet_line, same_books, start_posts, still_books, still_posts}
use Rattle.world_core.proofs.Leaving.{quiet_leaves}
use Rattle.world_core.proofs.Stated.{grew_as, unsaid_start}
use Rattle.world_core.proofs.Steps.{lines_are, said_is, step_is}
use Rattle.world_core.proofs.Stays.{restart_stays, step_stays}

pub on_ok : {A E : Type 0} (P : Type 0) (result : Result A E) → P → OnOk result P
on_ok P (Ok a) p = p
on_ok P (Err x) p = tt

-- ---- a bad record comes of a start only

ok_good : (lines : List Line) (m place : ℕ) → IsErrOf (let y : Result (List Line) WorldFault = Ok lines in y) (fault.BadRecord m place) → ⊥
ok_good lines m place f = absurd (cc)

keep_good : (m place : ℕ) → IsErrOf (let y : Result (List Line) WorldFault = Err fault.KeepFault in y) (fault.BadRecord m place) → ⊥
keep_good m place f = absurd (cc)

memory_good : (m place : ℕ) → IsErrOf (let y : Result (List Line) WorldFault = Err fault.OutOfMemory in y) (fault.BadRecord m place) → ⊥
memory_good m place f = absurd (cc)

no_start : (accepts : Accepting) (told : Option Journals) (old new : Scene) (mv : Move) (result : Result (List Line) WorldFault) → is_start_move mv ≡ false → MayStart accepts told old new mv result
no_start accepts told old new (starts_again m) result other = absurd (cc)
no_start accepts told old new mv result other = tt

-- what was said goes on toward what the step of the definitions says
grew_by : (trust : Trust) (sc : Scene) (e : Event) (said : List Said) → GrowsToward sc.said said (scene_after trust sc e).said → GrowsToward sc.said said (steps_to trust sc e).said
grew_by trust sc e said is = grew_as sc.said said (scene_after trust sc e).said (steps_to trust sc e).said (sym (said_is trust sc e)) is

-- ---- a line that calls a member

module _ (trust : Trust) (sc new : Scene) (e : Event) (before now : Option Journals) (other : is_restart e ≡ false) where
  step_of : (given : Result (List Line) SeatFault) → LineAfter trust sc e new before now given → StepAfter trust sc e new before now (call_outcome given)
  step_of (Ok lines) is = record {
    world = λ _. is.world ∙ sym (step_is trust sc e other);
    lines = λ _. is.lines ∙ sym (lines_are trust sc e other);
    kept = is.kept;
    restart = no_start trust.accepts before sc new (move_of e) (let y : Result (List Line) WorldFault = Ok lines in y) other;
    stay = step_stays trust sc new e is.world;
    cut = tt;
    books = tt;
    quiet = tt;
    said = tt;
    bad = λ m place f. absurd (ok_good lines m place f);
  }
  step_of (Err seat_fault.KeepFault) is = record {
    world = tt;
    lines = tt;
    kept = is.kept;
    restart = no_start trust.accepts before sc new (move_of e) (let y : Result (List Line) WorldFault = Err fault.KeepFault in y) other;
    stay = tt;
    cut = is.cut;
    books = is.books;
    quiet = is.quiet;
    said = grew_by trust sc e new.said is.said;
    bad = λ m place f. absurd (keep_good m place f);
  }
  step_of (Err seat_fault.OutOfMemory) is = record {
    world = tt;
    lines = tt;
    kept = is.kept;
    restart = no_start trust.accepts before sc new (move_of e) (let y : Result (List Line) WorldFault = Err fault.OutOfMemory in y) other;
    stay = tt;
    cut = is.cut;
    books = is.books;
    quiet = is.quiet;
    said = grew_by trust sc e new.said is.said;
    bad = λ m place f. absurd (memory_good m place f);
  }

  pub call_step : (whole : Event) (given : Result (List Line) SeatFault) (result : Result (List Line) WorldFault) → whole ≡ e → result ≡ call_outcome given → LineAfter trust sc e new before now given → StepAfter trust sc whole new before now result
  call_step whole given result same outcome is =
      subst (λ (x : Event). StepAfter trust sc x new before now result) (sym same) (subst (λ (y : Result (List Line) WorldFault). StepAfter trust sc e new before now y) (sym outcome) (step_of given is))

-- that hands it entries
pub see_after : (trust : Trust) (sc new : Scene) (e : Event) (before now : Option Journals) (given : Result (List Line) SeatFault) → is_quiet e ≡ false → OnOk given (new ≡ scene_after trust sc e) → IfOk given (λ lines. lines ≡ lines_after trust sc e)
    → LeavesAs (rules_in trust.accepts sc) sc (work_of sc e) before now given → OnErr given (LineCut (rules_in trust.accepts sc) sc (work_of sc e) new.posts before now) → books_in new ≡ books_in sc → OnErr given (GrowsToward sc.said new.said (scene_after trust sc e).said)
    → LineAfter trust sc e new before now given
see_after trust sc new e before now given loud world lines kept cut books said = record {
  world = world;
  lines = lines;
  kept = kept;
  cut = cut;
  books = on_err (SeenCut books_in trust sc (orders_end e) new) given (same_books trust sc new (orders_end e) books);
  quiet = on_err (is_quiet e ≡ true → new.posts ≡ sc.posts) given (loud_posts sc new e loud);
  said = said;
}

-- ---- a line that touches no record

module _ (trust : Trust) (sc new : Scene) (e : Event) (told : Option Journals) (other : is_restart e ≡ false) (quiet : is_quiet e ≡ true) where
  still_step : (given : Result (List Line) OutOfMemory) → OnOk given (new ≡ scene_after trust sc e) → IfOk given (λ lines. lines ≡ lines_after trust sc e) → OnErr given (SeenCut still_in trust sc (orders_end e) new) → OnErr given (GrowsToward sc.said new.said (scene_after trust sc e).said)
      → StepAfter trust sc e new told told (quiet_outcome given)
  still_step (Ok given) world lines still said = record {
    world = λ _. world ∙ sym (step_is trust sc e other);
    lines = λ _. lines ∙ sym (lines_are trust sc e other);
    kept = quiet_leaves trust sc e told (let y : Result (List Line) WorldFault = Ok given in y) quiet;
    restart = no_start trust.accepts told sc new (move_of e) (let y : Result (List Line) WorldFault = Ok given in y) other;
    stay = step_stays trust sc new e world;
    cut = tt;
    books = tt;
    quiet = tt;
    said = tt;
    bad = λ m place f. absurd (ok_good given m place f);
  }
  still_step (Err x) world lines still said = record {
    world = tt;
    lines = tt;
    kept = quiet_leaves trust sc e told (let y : Result (List Line) WorldFault = Err fault.OutOfMemory in y) quiet;
    restart = no_start trust.accepts told sc new (move_of e) (let y : Result (List Line) WorldFault = Err fault.OutOfMemory in y) other;
    stay = tt;
    cut = quiet_line trust (rules_in trust.accepts sc) sc new (orders_end e) (work_of sc e) told still;
    books = still_books trust sc new (orders_end e) still;
    quiet = λ _. still_posts trust sc new (orders_end e) still;
    said = grew_by trust sc e new.said said;
    bad = λ m place f. absurd (memory_good m place f);
  }

  pub quiet_step : (whole : Event) (given : Result (List Line) OutOfMemory) (result : Result (List Line) WorldFault) → whole ≡ e → result ≡ quiet_outcome given
      → OnOk given (new ≡ scene_after trust sc e) → IfOk given (λ lines. lines ≡ lines_after trust sc e) → OnErr given (SeenCut still_in trust sc (orders_end e) new) → OnErr given (GrowsToward sc.said new.said (scene_after trust sc e).said)
      → StepAfter trust sc whole new told told result
  quiet_step whole given result same outcome world lines still said =
      subst (λ (x : Event). StepAfter trust sc x new told told result) (sym same) (subst (λ (y : Result (List Line) WorldFault). StepAfter trust sc e new told told y) (sym outcome) (still_step given world lines still said))

-- ---- a start

never_ok : {A E : Type 0} (P : Type 0) (b : Bool) (result : Result A E) → b ≡ true → OnOk result (b ≡ false → P)
never_ok P true (Ok a) is = λ (f : true ≡ false). absurd (cc)
never_ok P false (Ok a) is = absurd (cc)
never_ok P b (Err x) is = tt

never_says : {A E : Type 0} (P : A → Type 0) (b : Bool) (result : Result A E) → b ≡ true → IfOk result (λ a. b ≡ false → P a)
never_says P true (Ok a) is = λ (f : true ≡ false). absurd (cc)
never_says P false (Ok a) is = absurd (cc)
never_says P b (Err x) is = tt

starts_leave : {E : Type 0} (trust : Trust) (sc : Scene) (m : ℕ) (before now : Option Journals) (result : Result (List Line) E) → KeepsJournals before now → LeavesAs (rules_in trust.accepts sc) sc (work_of sc (events.Restart m)) before now result
unfolding work_of
starts_leave trust sc m before now (Ok lines) keeps = keeps
starts_leave trust sc m before now (Err x) keeps = keeps

starts_cut : {A E : Type 0} (r : Rules) (sc new : Scene) (m : ℕ) (before now : Option Journals) (result : Result A E) → OnErr result (new ≡ sc) → KeepsJournals before now → OnErr result (LineCut r sc (work_of sc (events.Restart m)) new.posts before now)
unfolding work_of
starts_cut r sc new m before now result same keeps = idle_line_on r sc new before now result same keeps

starts_books : {A E : Type 0} (trust : Trust) (sc new : Scene) (m : Option ℕ) (result : Result A E) → books_in new ≡ books_in sc → OnErr result (SeenCut books_in trust sc m new)
starts_books trust sc new m result same = on_err (SeenCut books_in trust sc m new) result (same_books trust sc new m same)

pub start_step : (trust : Trust) (sc new : Scene) (m : ℕ) (whole : Event) (before now : Option Journals) (result : Result (List Line) WorldFault) → whole ≡ events.Restart m → RestartsAs trust.accepts before m sc new (slice_get sc.posts m) result → KeepsJournals before now
    → OnErr result (new ≡ sc) → books_in new ≡ books_in sc → StepAfter trust sc whole new before now result
start_step trust sc new m whole before now result same is keeps stay books =
    subst (λ (x : Event). StepAfter trust sc x new before now result) (sym same)
    (record {
      world = never_ok (new ≡ steps_to trust sc (events.Restart m)) true result refl;
      lines = never_says (λ lines. lines ≡ lines_in trust sc (events.Restart m)) true result refl;
      kept = starts_leave trust sc m before now result keeps;
      restart = is;
      stay = restart_stays trust.accepts before m sc new (slice_get sc.posts m) result is;
      cut = starts_cut (rules_in trust.accepts sc) sc new m before now result stay keeps;
      books = starts_books trust sc new None result books;
      quiet = start_posts sc new (events.Restart m) result stay;
      said = subst (λ (xs : List Said). OnErr result (GrowsToward sc.said new.said xs)) (sym (said_is trust sc (events.Restart m))) (unsaid_start trust sc new (events.Restart m) result stay);
      bad = λ n place f. refl;
    })

-- ---- the keeper

was_kept : (given : Result (List Line) SeatFault) → IsErrOf (call_outcome given) fault.KeepFault → IsErrOf given seat_fault.KeepFault
was_kept (Ok lines) f = absurd (cc)
was_kept (Err seat_fault.KeepFault) f = refl
was_kept (Err seat_fault.OutOfMemory) f = absurd (cc)

pub keeper_call : {wide widened failed risen : ℕ} (given : Result (List Line) SeatFault) (result : Result (List Line) WorldFault) → result ≡ call_outcome given → KeeperAfter wide widened failed risen (IsErrOf given seat_fault.KeepFault)
    → KeeperAfter wide widened failed risen (IsErrOf result fault.KeepFault)
keeper_call given result outcome is = record { width = is.width; later = is.later; fault = λ f. is.fault (was_kept given (sym outcome ∙ f)) }

not_kept : (given : Result (List Line) OutOfMemory) → IsErrOf (quiet_outcome given) fault.KeepFault → ⊥
not_kept (Ok lines) f = absurd (cc)
not_kept (Err x) f = absurd (cc)

pub keeper_quiet : (wide failed : ℕ) (given : Result (List Line) OutOfMemory) (result : Result (List Line) WorldFault) → result ≡ quiet_outcome given → KeeperAfter wide wide failed failed (IsErrOf result fault.KeepFault)
keeper_quiet wide failed given result outcome = record { width = refl; later = omega arith; fault = λ f. absurd (not_kept given (sym outcome ∙ f)) }
