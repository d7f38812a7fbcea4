-- What a `run` line executes: all that is ready, if its member can run.
use Rattle.std.proofs.Common.{inl, inr, refl, sym, subst, ap, append-nil, ◌∙◌}
use Rattle.std.specs.Prelude.{◌≡◌, ◌⊎◌, ℕ, Bool, true, false, cond, List, [], ◌∷◌, ◌++◌, map, slice_get, Option, Some, None, Ok}
use Rattle.journal_core.specs.declared.records.Record.{Record}
use Rattle.journal_core.specs.declared.records.Record.TheVariants as record_as
use Rattle.protocol_spec.specs.declared.answers.Ran.{Ran}
use Rattle.report_text.specs.declared.lines.Line.{Line}
use Rattle.schedule_text.specs.declared.words.Event.{Event}
use Rattle.schedule_text.specs.declared.words.Event.TheVariants as event
use Rattle.protocol_spec.proofs.ListLemmas.{has_left, has_map, set_get}
use Rattle.protocol_spec.specs.Chain.Words.{Has}
use Rattle.protocol_spec.specs.Member.Versions.{Execution}
use Rattle.protocol_spec.specs.Member.Rounds.{rounds}
use Rattle.protocol_spec.specs.Member.Member.{Member, after, books}
use Rattle.protocol_spec.specs.Member.Calls.{due, ran_item, ran_record, run_answer, run_record, runs}
use Rattle.world_spec.specs.Setting.{Setting}
use Rattle.world_spec.specs.World.{Seat, World, answers, appended, behind, called_over, called_seat, finds_down, member_in, reached_over, reached_at, reached_seat, reached_up}
use Rattle.world_spec.specs.Step.{happens, happens_over}
use Rattle.world_spec.specs.Report.{checkpoint_lines, effects_line, left_line, lines_of, run_answered, run_reached, lines_over}
use Rattle.world_spec.specs.Run.{world_after}
use Rattle.safety_law.proofs.Apart.{state-push}
use Rattle.safety_law.proofs.Grown.{world-append}
use Rattle.headline_law.specs.Runs.{IsKeptOutBehind, RunsAs}
use Rattle.headline_law.proofs.Completing.{runs-complete}
use Rattle.headline_law.specs.Executing.{CanRun, LineExecutes, ReadyIsExecuted}

module _ (s : Setting) (seat : Seat) where
  -- what a run leaves in the records, if so much was executed
  run-due : (ran : Ran) → run_answer s.rules (member_in s seat) ≡ Ok ran → due s.rules (member_in s seat) runs ≡ ran_record (map ran_item (rounds (books (member_in s seat)) (member_in s seat).executed))
  unfolding due
  run-due ran e = ap (run_record (member_in s seat)) e

  abbrev left-behind : Option Record → Seat
  left-behind x = record seat { records = appended seat.records x }

  -- after it all rounds are executed
  ran-executed : (executed : List Execution) → rounds (books (member_in s seat)) (member_in s seat).executed ≡ executed
      → (member_in s (left-behind (ran_record (map ran_item executed)))).executed ≡ (member_in s seat).executed ++ executed
  unfolding after
  ran-executed [] e = sym (append-nil (member_in s seat).executed)
  ran-executed (x ∷ xs) e =
      ap (λ (m : Member). m.executed) (state-push s.rules s.opening seat.records (record_as.Ran2 (ran_item x ∷ map ran_item xs)))
      ∙ ap (λ (ys : List Execution). (member_in s seat).executed ++ ys) e

  run-reached : CanRun s seat → reached_seat s runs seat ≡ answers (member_in s seat) (due s.rules (member_in s seat) runs)
  run-reached can = go seat.up seat.armed can.up can.unarmed
    where
      go : (up : Bool) (armed : Option Bool) → up ≡ true → armed ≡ None → cond up (reached_up (member_in s seat) armed (due s.rules (member_in s seat) runs)) finds_down ≡ answers (member_in s seat) (due s.rules (member_in s seat) runs)
      go true None u a = refl
      go true (Some k) u a = absurd (cc)
      go false armed u a = absurd (cc)

module _ (s : Setting) (events : List Event) (m workers : ℕ) (seat : Seat) (at : slice_get (world_after s events).seats m ≡ Some seat) (can : CanRun s seat) where
  abbrev w : World
  w = world_after s events

  abbrev executed : List Execution
  executed = rounds (books (member_in s seat)) (member_in s seat).executed

  abbrev new : Seat
  new = left-behind s seat (ran_record (map ran_item executed))

  -- the world after the line
  world-behind : (ran : Ran) → run_answer s.rules (member_in s seat) ≡ Ok ran → happens s w (event.Run m workers) ≡ behind s w m runs seat (answers (member_in s seat) (ran_record (map ran_item executed)))
  unfolding happens_over called_over
  world-behind ran e =
      ap (called_seat s w m runs) at
      ∙ (ap (behind s w m runs seat) (run-reached s seat can)
      ∙ ap (λ (x : Option Record). behind s w m runs seat (answers (member_in s seat) x)) (run-due s seat ran e))

  seat-behind : (ran : Ran) → run_answer s.rules (member_in s seat) ≡ Ok ran → slice_get (world_after s (events ++ event.Run m workers ∷ [])).seats m ≡ Some new
  seat-behind ran e =
      ap (λ (v : World). slice_get v.seats m) (world-append s events (event.Run m workers ∷ []) ∙ world-behind ran e)
      ∙ set_get w.seats m seat new at

  -- the lines of the run
  lines-are : (ran : Ran) → run_answer s.rules (member_in s seat) ≡ Ok ran → lines_of s w (event.Run m workers) ≡ run_answered s w m (Ok ran)
  unfolding lines_over reached_over
  lines-are ran e =
      ap (λ (o : Option Seat). run_reached s w m (reached_at s runs o)) at
      ∙ (ap (run_reached s w m) (run-reached s seat can) ∙ ap (run_answered s w m) e)

  executes : (x : Execution) → RunsAs s.rules (member_in s seat) x → LineExecutes s events m workers x
  executes x it = record {
    seat = new;
    there = seat-behind it.ran it.answer;
    executed = subst (λ (xs : List Execution). Has xs x) (sym (ran-executed s seat executed refl)) it.stands;
    told = subst (λ (ls : List Line). Has ls (effects_line w x.gave.effects)) (sym (lines-are it.ran it.answer))
        (inr (has_left (map (effects_line w) it.ran.executed) (map (left_line s w) it.ran.left ++ checkpoint_lines w it.ran.built) (effects_line w x.gave.effects) (has_map (effects_line w) it.ran.executed x.gave.effects it.told)));
  }

pub ready-is-executed : (s : Setting) (events : List Event) → ReadyIsExecuted s events
ready-is-executed s events m workers seat at can n h x held e = go (runs-complete s.rules (member_in s seat) can.runs_on can.room n h x held e)
  where
    go : RunsAs s.rules (member_in s seat) x ⊎ IsKeptOutBehind n (member_in s seat) h x → LineExecutes s events m workers x ⊎ IsKeptOutBehind n (member_in s seat) h x
    go (inl it) = inl (executes s events m workers seat at can x it)
    go (inr out) = inr out
