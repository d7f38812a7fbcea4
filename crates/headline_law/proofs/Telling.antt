-- Only a `final` line of a schedule gives a line of the report that says so.
use Rattle.std.proofs.Common.{inl, inr, refl}
use Rattle.std.specs.Prelude.{◌≡◌, ◌⊎◌, ℕ, zero, suc, min, Bool, true, false, List, [], ◌∷◌, ◌++◌, map, slice_get, Option, Some, None, Result, Ok, Err}
use Rattle.digest_core.specs.declared.Digest.{Digest}
use Rattle.chain_types.specs.declared.objects.ObjectKey.{ObjectKey}
use Rattle.checkpoint_core.specs.declared.checkpoints.Checkpoint.{Checkpoint}
use Rattle.effects_core.specs.declared.effects.Status.{Status}
use Rattle.effects_core.specs.declared.effects.Status.TheVariants as status
use Rattle.protocol_spec.specs.declared.answers.Ran.{Ran}
use Rattle.protocol_spec.specs.declared.answers.Seen.{Seen}
use Rattle.protocol_spec.specs.declared.refusals.RunRefusal.{RunRefusal}
use Rattle.protocol_spec.specs.declared.refusals.RunRefusal.TheVariants as no_run
use Rattle.protocol_spec.specs.declared.refusals.SeeRefusal.{SeeRefusal}
use Rattle.protocol_spec.specs.declared.refusals.SeeRefusal.TheVariants as no_see
use Rattle.protocol_spec.specs.declared.refusals.TurnRefusal.{TurnRefusal}
use Rattle.protocol_spec.specs.declared.refusals.TurnRefusal.TheVariants as no_turn
use Rattle.schedule_text.specs.declared.words.Event.{Event}
use Rattle.schedule_text.specs.declared.words.Event.TheVariants as event
use Rattle.report_text.specs.declared.lines.Line.{Line}
use Rattle.report_text.specs.declared.lines.Line.TheVariants as line
use Rattle.protocol_spec.proofs.ListLemmas.{each_join}
use Rattle.protocol_spec.specs.Chain.Words.{Each}
use Rattle.protocol_spec.specs.Member.Member.{Fork, Member, fork_of, live_objects}
use Rattle.protocol_spec.specs.Member.Calls.{Call, votes, holds, sees, runs, closes, ends, turns, acks, run_answer, see_answer, turn_answer}
use Rattle.world_spec.specs.Setting.{Name, Setting}
use Rattle.world_spec.specs.Names.{made_named, shown_order, tx_name}
use Rattle.world_spec.specs.World.{Made, Reached, World, finds_down, stops, answers, called_if, member_at, next_call, reached, is_seat_up, by_records}
use Rattle.world_spec.specs.Step.{entries_left}
use Rattle.world_spec.specs.Report.{Lines, ack_lines, and_lines, call_lines, cert_lines, checkpoint_line, checkpoint_lines, effects_line, entries_lines, entry_lines, entry_reached, fvote_lines, left_line, left_line_of, lines_of, none_taken, object_line, run_answered, run_reached, see_halted, see_up, show_up, status_line, turn_answered, turn_reached, vote_lines, lines_over}

-- whether a line of the report speaks of finality
abbrev pub is_final_line : Line → Bool
is_final_line (line.Final tx text) = true
is_final_line l = false

abbrev pub IsOther : Line → Type 0
IsOther l = is_final_line l ≡ false

each-mapped : {A : Type 0} (f : A → Line) (xs : List A) → ((x : A) → IsOther (f x)) → Each IsOther (map f xs)
each-mapped f [] each = tt
each-mapped f (x ∷ xs) each = (each x, each-mapped f xs each)

module _ (s : Setting) (w : World) where
  other-checkpoints : (cs : List Checkpoint) → Each IsOther (checkpoint_lines w cs)
  other-checkpoints cs = each-mapped (checkpoint_line w) cs (λ c. refl)

  other-vote : (m : ℕ) (tx : Name) (t : Option Made) → Each IsOther (vote_lines (by_records s) s w m tx t)
  other-vote m tx None = (refl, tt)
  other-vote m tx (Some t) = (refl, tt)

  other-fvote : (m : ℕ) (tx : Name) (words : List (Option Name)) (t : Option Made) → Each IsOther (fvote_lines w m tx words t)
  other-fvote m tx words None = (refl, tt)
  other-fvote m tx words (Some t) = (refl, tt)

  other-cert : (tx : Name) (ms : List ℕ) (t : Option Made) → Each IsOther (cert_lines s w tx ms t)
  other-cert tx ms None = (refl, tt)
  other-cert tx ms (Some t) = (refl, tt)

  other-ack : (m : ℕ) (tx : Name) (t : Option Made) → Each IsOther (ack_lines (by_records s) s w m tx t)
  other-ack m tx None = (refl, tt)
  other-ack m tx (Some t) = (refl, tt)

  -- ---- see

  other-entry : (m number : ℕ) (answer : Result Seen SeeRefusal) → Each IsOther (entry_lines s w m number answer).0
  other-entry m number (Ok seen) = (refl, other-checkpoints seen.built)
  other-entry m number (Err no_see.Down) = (refl, tt)
  other-entry m number (Err (no_see.Halted first second)) = (refl, tt)
  other-entry m number (Err no_see.Full) = (refl, tt)
  other-entry m number (Err no_see.Over) = tt
  other-entry m number (Err (no_see.Gap had want)) = tt
  other-entry m number (Err no_see.KeepFault) = (refl, tt)
  other-entry m number (Err (no_see.Fork key first second)) = (refl, tt)
  other-entry m number (Err no_see.OutOfMemory) = (refl, tt)

  other-reached : (m number : ℕ) (bytes : List ℕ) (r : Reached) → Each IsOther (entry_reached s w m number bytes r).0
  other-reached m number bytes finds_down = (refl, tt)
  other-reached m number bytes (stops kept x) = (refl, tt)
  other-reached m number bytes (answers before x) = other-entry m number (see_answer s.rules before number bytes)

  other-call : (m : ℕ) (call : Option Call) → Each IsOther (call_lines (by_records s) s w m call).0
  other-call m None = tt
  other-call m (Some (sees number bytes)) = other-reached m number bytes (reached s w m (sees number bytes))
  other-call m (Some (votes bytes)) = tt
  other-call m (Some (holds bytes)) = tt
  other-call m (Some runs) = tt
  other-call m (Some closes) = tt
  other-call m (Some ends) = tt
  other-call m (Some turns) = tt
  other-call m (Some (acks tx)) = tt

other-and : (ls : Lines) (rest : List Line) → Each IsOther ls.0 → Each IsOther rest → Each IsOther (and_lines ls rest)
other-and (ls, true) rest one two = each_join IsOther ls rest one two
other-and (ls, false) rest one two = one

other-none : (m : ℕ) (ls : List Line) → Each IsOther ls → Each IsOther (none_taken m ls)
other-none m [] each = (refl, tt)
other-none m (l ∷ ls) each = each

module _ (s : Setting) where
  other-entries : (n : ℕ) (w : World) (m : ℕ) → Each IsOther (entries_lines (by_records s) s n w m)
  other-entries zero w m = tt
  other-entries (suc n) w m = other-and (call_lines (by_records s) s w m (next_call s w m)) (entries_lines (by_records s) s n (called_if s w m (next_call s w m)) m) (other-call s w m (next_call s w m)) (other-entries n (called_if s w m (next_call s w m)) m)

  other-halted : (w : World) (m n : ℕ) (fork : Option Fork) → Each IsOther (see_halted (by_records s) s w m n fork)
  other-halted w m n (Some fork) = (refl, tt)
  other-halted w m n None = other-none m (entries_lines (by_records s) s n w m) (other-entries n w m)

  other-see : (w : World) (m n : ℕ) (up : Bool) (member : Option Member) → Each IsOther (see_up (by_records s) s w m n up member)
  other-see w m n true (Some member) = other-halted w m (min n (entries_left w (Some member))) (fork_of member)
  other-see w m n true None = (refl, tt)
  other-see w m n false member = (refl, tt)

  -- ---- run, turn, show

  other-status : (tx : Name) (version gas : ℕ) (st : Status) → IsOther (status_line tx version gas st)
  other-status tx version gas status.Done = refl
  other-status tx version gas (status.Failed command cause) = refl
  other-status tx version gas (status.Aborted command code) = refl

  other-left : (w : World) (tx : Digest) (key : Option ObjectKey) → IsOther (left_line_of s w tx key)
  other-left w tx (Some key) = refl
  other-left w tx None = refl

  other-run : (w : World) (m : ℕ) (answer : Result Ran RunRefusal) → Each IsOther (run_answered s w m answer)
  other-run w m (Ok ran) = (
    refl,
    each_join IsOther (map (effects_line w) ran.executed) (map (left_line s w) ran.left ++ checkpoint_lines w ran.built) (each-mapped (effects_line w) ran.executed (λ e. other-status (tx_name w e.tx) e.version e.gas e.status))
        (each_join IsOther (map (left_line s w) ran.left) (checkpoint_lines w ran.built) (each-mapped (left_line s w) ran.left (λ l. other-left w l.tx l.key)) (other-checkpoints s w ran.built)),
  )
  other-run w m (Err no_run.Down) = (refl, tt)
  other-run w m (Err (no_run.Halted first second)) = (refl, tt)
  other-run w m (Err no_run.Full) = (refl, tt)
  other-run w m (Err no_run.KeepFault) = (refl, tt)
  other-run w m (Err no_run.OutOfMemory) = (refl, tt)

  other-ran : (w : World) (m : ℕ) (r : Reached) → Each IsOther (run_reached s w m r)
  other-ran w m finds_down = (refl, tt)
  other-ran w m (stops kept x) = (refl, tt)
  other-ran w m (answers before x) = other-run w m (run_answer s.rules before)

  other-turn : (w : World) (m : ℕ) (before : Member) (answer : Result (List Digest) TurnRefusal) → Each IsOther (turn_answered w m before answer)
  other-turn w m before (Ok txs) = (refl, each-mapped (λ tx. line.Reverted (tx_name w tx)) txs (λ tx. refl))
  other-turn w m before (Err no_turn.Down) = (refl, tt)
  other-turn w m before (Err (no_turn.Halted first second)) = (refl, tt)
  other-turn w m before (Err no_turn.Full) = (refl, tt)
  other-turn w m before (Err no_turn.NotEnded) = (refl, tt)
  other-turn w m before (Err (no_turn.Waits tx)) = (refl, tt)
  other-turn w m before (Err no_turn.KeepFault) = (refl, tt)
  other-turn w m before (Err no_turn.OutOfMemory) = (refl, tt)

  other-turned : (w : World) (m : ℕ) (r : Reached) → Each IsOther (turn_reached s w m r)
  other-turned w m finds_down = (refl, tt)
  other-turned w m (stops kept x) = (refl, tt)
  other-turned w m (answers before x) = other-turn w m before (turn_answer s.rules before)

  other-show : (w : World) (m : ℕ) (up : Bool) (member : Option Member) → Each IsOther (show_up s w m up member)
  other-show w m true (Some member) = (refl, each-mapped (object_line s w) (shown_order s w (live_objects member)) (λ o. refl))
  other-show w m true None = (refl, tt)
  other-show w m false member = (refl, tt)

-- ---- a line of a schedule

-- it asks for finality, or none of its lines speaks of it
pub record IsAsking (e : Event) : Type 0 where
  pub name : Name
  pub members : List ℕ
  pub is : e ≡ event.Final name members

pub asks-or-other : (s : Setting) (w : World) (e : Event) → IsAsking e ⊎ Each IsOther (lines_of s w e)
unfolding lines_over
asks-or-other s w (event.Vote m tx) = inr (other-vote s w m tx (made_named w tx))
asks-or-other s w (event.Fvote m tx origins) = inr (other-fvote s w m tx origins (made_named w tx))
asks-or-other s w (event.Cert tx members) = inr (other-cert s w tx members (made_named w tx))
asks-or-other s w (event.See m entries) = inr (other-see s w m entries (is_seat_up (slice_get w.seats m)) (member_at s w m))
asks-or-other s w (event.Run m workers) = inr (other-ran s w m (reached s w m runs))
asks-or-other s w (event.Turn m) = inr (other-turned s w m (reached s w m turns))
asks-or-other s w (event.Show m) = inr (other-show s w m (is_seat_up (slice_get w.seats m)) (member_at s w m))
asks-or-other s w (event.Ack m tx spoiled) = inr (other-ack s w m tx (made_named w tx))
asks-or-other s w (event.Final tx members) = inl (record { name = tx; members = members; is = refl })
asks-or-other s w e = inr (refl, tt)
