-- Each event gives a line.
use Rattle.std.specs.Prelude.{◌≤◌, ℕ, min, Bool, true, false, List, [], ◌∷◌, length, slice_get, Option, Some, None, Result, Ok, Err}
use Rattle.std.proofs.lemmas.List.{length-append}
use native.Mathlib.Omega.{arith}
use Rattle.digest_core.specs.declared.Digest.{Digest}
use Rattle.protocol_spec.specs.declared.answers.Ran.{Ran}
use Rattle.protocol_spec.specs.declared.refusals.RunRefusal.{RunRefusal}
use Rattle.protocol_spec.specs.declared.refusals.RunRefusal.TheVariants as no_run
use Rattle.protocol_spec.specs.declared.refusals.TurnRefusal.{TurnRefusal}
use Rattle.protocol_spec.specs.declared.refusals.TurnRefusal.TheVariants as no_turn
use Rattle.schedule_text.specs.declared.words.Event.{Event}
use Rattle.schedule_text.specs.declared.words.Event.TheVariants as event
use Rattle.report_text.specs.declared.lines.Line.{Line}
use Rattle.protocol_spec.specs.Member.Member.{Member, Fork, fork_of}
use Rattle.protocol_spec.specs.Member.Calls.{runs, turns, run_answer, turn_answer}
use Rattle.world_spec.specs.Setting.{Name, Setting}
use Rattle.world_spec.specs.World.{Made, World, Reached, finds_down, stops, answers, new_world, reached, member_at, is_seat_up, by_records}
use Rattle.world_spec.specs.Names.{made_named}
use Rattle.world_spec.specs.Step.{happens, entries_left}
use Rattle.world_spec.specs.Report.{lines_of, vote_lines, fvote_lines, cert_lines, final_lines, ack_lines, none_taken, see_halted, see_up, entries_lines, run_reached, run_answered, turn_reached, turn_answered, show_up, lines_over}
use Rattle.world_spec.specs.Run.{report_from, report}

abbrev IsLine : List Line → Type 0
IsLine lines = 1 ≤ length lines

of-vote : (s : Setting) (w : World) (m : ℕ) (tx : Name) (t : Option Made) → IsLine (vote_lines (by_records s) s w m tx t)
of-vote s w m tx None = omega arith
of-vote s w m tx (Some t) = omega arith

of-fvote : (w : World) (m : ℕ) (tx : Name) (words : List (Option Name)) (t : Option Made) → IsLine (fvote_lines w m tx words t)
of-fvote w m tx words None = omega arith
of-fvote w m tx words (Some t) = omega arith

of-cert : (s : Setting) (w : World) (tx : Name) (ms : List ℕ) (t : Option Made) → IsLine (cert_lines s w tx ms t)
of-cert s w tx ms None = omega arith
of-cert s w tx ms (Some t) = omega arith

of-final : (s : Setting) (w : World) (tx : Name) (ms : List ℕ) (t : Option Made) → IsLine (final_lines s w tx ms t)
of-final s w tx ms None = omega arith
of-final s w tx ms (Some t) = omega arith

of-ack : (s : Setting) (w : World) (m : ℕ) (tx : Name) (t : Option Made) → IsLine (ack_lines (by_records s) s w m tx t)
of-ack s w m tx None = omega arith
of-ack s w m tx (Some t) = omega arith

of-none : (m : ℕ) (lines : List Line) → IsLine (none_taken m lines)
of-none m [] = omega arith
of-none m (l ∷ lines) = omega arith

of-halted : (s : Setting) (w : World) (m n : ℕ) (fork : Option Fork) → IsLine (see_halted (by_records s) s w m n fork)
of-halted s w m n (Some fork) = omega arith
of-halted s w m n None = of-none m (entries_lines (by_records s) s n w m)

of-see : (s : Setting) (w : World) (m n : ℕ) (up : Bool) (member : Option Member) → IsLine (see_up (by_records s) s w m n up member)
of-see s w m n true (Some member) = of-halted s w m (min n (entries_left w (Some member))) (fork_of member)
of-see s w m n true None = omega arith
of-see s w m n false member = omega arith

of-ran : (s : Setting) (w : World) (m : ℕ) (answer : Result Ran RunRefusal) → IsLine (run_answered s w m answer)
of-ran s w m (Ok ran) = omega arith
of-ran s w m (Err no_run.Down) = omega arith
of-ran s w m (Err (no_run.Halted first second)) = omega arith
of-ran s w m (Err no_run.Full) = omega arith
of-ran s w m (Err no_run.KeepFault) = omega arith
of-ran s w m (Err no_run.OutOfMemory) = omega arith

of-run : (s : Setting) (w : World) (m : ℕ) (r : Reached) → IsLine (run_reached s w m r)
of-run s w m finds_down = omega arith
of-run s w m (stops kept x) = omega arith
of-run s w m (answers before x) = of-ran s w m (run_answer s.rules before)

of-turned : (w : World) (m : ℕ) (before : Member) (answer : Result (List Digest) TurnRefusal) → IsLine (turn_answered w m before answer)
of-turned w m before (Ok txs) = omega arith
of-turned w m before (Err no_turn.Down) = omega arith
of-turned w m before (Err (no_turn.Halted first second)) = omega arith
of-turned w m before (Err no_turn.Full) = omega arith
of-turned w m before (Err no_turn.NotEnded) = omega arith
of-turned w m before (Err (no_turn.Waits tx)) = omega arith
of-turned w m before (Err no_turn.KeepFault) = omega arith
of-turned w m before (Err no_turn.OutOfMemory) = omega arith

of-turn : (s : Setting) (w : World) (m : ℕ) (r : Reached) → IsLine (turn_reached s w m r)
of-turn s w m finds_down = omega arith
of-turn s w m (stops kept x) = omega arith
of-turn s w m (answers before x) = of-turned w m before (turn_answer s.rules before)

of-show : (s : Setting) (w : World) (m : ℕ) (up : Bool) (member : Option Member) → IsLine (show_up s w m up member)
of-show s w m true (Some member) = omega arith
of-show s w m true None = omega arith
of-show s w m false member = omega arith

line-of : (s : Setting) (w : World) (e : Event) → IsLine (lines_of s w e)
unfolding lines_over
line-of s w (event.Vote m tx) = of-vote s w m tx (made_named w tx)
line-of s w (event.Fvote m tx origins) = of-fvote w m tx origins (made_named w tx)
line-of s w (event.Cert tx members) = of-cert s w tx members (made_named w tx)
line-of s w (event.See m entries) = of-see s w m entries (is_seat_up (slice_get w.seats m)) (member_at s w m)
line-of s w (event.Run m workers) = of-run s w m (reached s w m runs)
line-of s w (event.Turn m) = of-turn s w m (reached s w m turns)
line-of s w (event.Show m) = of-show s w m (is_seat_up (slice_get w.seats m)) (member_at s w m)
line-of s w (event.Ack m tx spoiled) = of-ack s w m tx (made_named w tx)
line-of s w (event.Final tx members) = of-final s w tx members (made_named w tx)
line-of s w e = omega arith

lines-from : (s : Setting) (events : List Event) (w : World) → length events ≤ length (report_from s events w)
lines-from s [] w = omega arith
lines-from s (e ∷ events) w =
    let more = lines-from s events (happens s w e) in
    let one = line-of s w e in
    let both = length-append (lines_of s w e) (report_from s events (happens s w e)) in
    omega (arith, more, one, both)

pub all-reported : (s : Setting) (events : List Event) → length events ≤ length (report s events)
unfolding report
all-reported s events = lines-from s events (new_world s)
