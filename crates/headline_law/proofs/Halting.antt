-- A line of the report that says that a member met two certificates that consume one version comes of a member that
-- holds two such, before the line or after it.
use Rattle.std.proofs.Common.{inl, inr, refl, sym, subst, ap, append_assoc, append-nil, ◌∙◌}
use Rattle.std.specs.Prelude.{◌≡◌, ◌⊎◌, ℕ, zero, suc, min, Bool, true, false, cond, not, ◌==◌, List, [], ◌∷◌, ◌++◌, slice_get, Option, Some, None, option_map, option_and_then, Ok}
use Rattle.chain_messages.specs.Messages as messages
use Rattle.chain_messages.specs.declared.messages.Certificate.{Certificate}
use Rattle.chain_messages.specs.declared.messages.Entry.{Entry}
use Rattle.chain_types.specs.Transactions as transactions
use Rattle.journal_core.specs.declared.records.Record.{Record}
use Rattle.journal_core.specs.declared.records.Record.TheVariants as record_as
use Rattle.protocol_spec.specs.declared.answers.Held.{Held}
use Rattle.protocol_spec.specs.declared.answers.Ran.{Ran}
use Rattle.protocol_spec.specs.declared.refusals.SeeRefusal.{SeeRefusal}
use Rattle.protocol_spec.specs.declared.refusals.SeeRefusal.TheVariants as no_see
use Rattle.schedule_text.specs.declared.words.Event.{Event}
use Rattle.schedule_text.specs.declared.words.Event.TheVariants as event
use Rattle.report_text.specs.declared.lines.Line.{Line}
use Rattle.report_text.specs.declared.lines.AckText.TheVariants as ack_text
use Rattle.protocol_spec.proofs.ListLemmas.{set_get, each_join}
use Rattle.protocol_spec.specs.Chain.Words.{Each, first_some, where_true}
use Rattle.protocol_spec.specs.Member.Sequence.{held_as}
use Rattle.protocol_spec.specs.Member.Member.{Fork, Member, after, fork_in, fork_of, fork_with, live_objects}
use Rattle.protocol_spec.specs.Member.Calls.{Call, votes, holds, sees, runs, closes, ends, turns, acks, due, full, hold_answer, hold_record, run_answer, see_record}
use Rattle.world_spec.specs.Setting.{Name, Setting}
use Rattle.world_spec.specs.World.{Made, Reached, Seat, World, finds_down, stops, answers, behind, called_if, called_in, called_seat, is_honest, member_at, member_in, next_call, next_call_of, next_entry, numbered_call, reached, reached_at, reached_up, sees_on, state_of, called_over, reached_over, is_seat_up, by_records}
use Rattle.world_spec.specs.Names.{cert_named, made_named, shown_order}
use Rattle.world_spec.specs.Moves.{held_call}
use Rattle.world_spec.specs.Step.{entries_left, happens, happens_over}
use Rattle.world_spec.specs.Report.{Lines, ack_lines, ack_reached, and_lines, call_lines, cert_lines, close_reached, end_reached, entries_lines, entry_reached, final_lines, fvote_lines, hold_reached, hold_said, lines_of, none_taken, object_line, run_reached, see_halted, see_up, send_said, show_up, turn_reached, vote_lines, vote_reached, vote_said, lines_over}
use Rattle.safety_law.proofs.Apart.{state-push}
use Rattle.headline_law.specs.Alarms.{halts_ack, halts_close, halts_end, halts_send, halts_vote}
use Rattle.headline_law.proofs.Calming.{IsCalmLine, MeetsFork, SeesFork, ack-calm, calm-mapped, close-calm, end-calm, hold-calm, run-calm, see-calm, turn-calm, vote-calm}

-- a fork with what is held last is a fork
fork-last : (earlier hs : List Held) (h : Held) (f : Fork) → fork_with (earlier ++ hs) h ≡ Some f → (g : Fork) × (fork_in earlier (hs ++ h ∷ []) ≡ Some g)
fork-last earlier [] h f e = (f, ap (λ (o : Option Fork). first_some (o ∷ None ∷ [])) (sym (ap (λ (xs : List Held). fork_with xs h) (append-nil earlier)) ∙ e))
fork-last earlier (k ∷ hs) h f e = go (fork_with earlier k) (fork-last (earlier ++ k ∷ []) hs h f (ap (λ (xs : List Held). fork_with xs h) (append_assoc earlier (k ∷ []) hs) ∙ e))
  where
    go : (o : Option Fork) → (g : Fork) × (fork_in (earlier ++ k ∷ []) (hs ++ h ∷ []) ≡ Some g) → (g : Fork) × (first_some (o ∷ fork_in (earlier ++ k ∷ []) (hs ++ h ∷ []) ∷ []) ≡ Some g)
    go (Some g) rest = (g, refl)
    go None rest = (rest.0, ap (λ (o : Option Fork). first_some (None ∷ o ∷ [])) rest.1)

module _ (s : Setting) where
  -- ---- which members hold two certificates that consume one version

  pub record IsForked (w : World) (m : ℕ) : Type 0 where
    pub seat : Seat
    pub at : slice_get w.seats m ≡ Some seat
    pub fork : Fork
    pub is : fork_of (member_in s seat) ≡ Some fork

  abbrev NotForked : World → ℕ → Type 0
  NotForked w m = (seat : Seat) → slice_get w.seats m ≡ Some seat → fork_of (member_in s seat) ≡ None

  abbrev pub NoneForked : World → Type 0
  NoneForked w = (m : ℕ) (seat : Seat) → slice_get w.seats m ≡ Some seat → fork_of (member_in s seat) ≡ None

  not-both : {A : Type 0} (w : World) (m : ℕ) → NoneForked w → IsForked w m → A
  not-both w m none it = absurd (let no = none m it.seat it.at in let yes = it.is in cc)

  forked-or-not : (w : World) (m : ℕ) → IsForked w m ⊎ NotForked w m
  forked-or-not w m = go (slice_get w.seats m) refl
    where
      same : (x y : Seat) → Some x ≡ Some y → x ≡ y
      same x y e = cc

      of_seat : (seat : Seat) → slice_get w.seats m ≡ Some seat → (f : Option Fork) → fork_of (member_in s seat) ≡ f → IsForked w m ⊎ NotForked w m
      of_seat seat at (Some f) e = inl (record { seat = seat; at = at; fork = f; is = e })
      of_seat seat at None e = inr (λ other there. subst (λ (x : Seat). fork_of (member_in s x) ≡ None) (same seat other (sym at ∙ there)) e)

      go : (o : Option Seat) → slice_get w.seats m ≡ o → IsForked w m ⊎ NotForked w m
      go None at = inr (λ seat there. absurd (let no = at in cc))
      go (Some seat) at = of_seat seat at (fork_of (member_in s seat)) refl

  -- ---- a call that is answered

  record IsAnswered (w : World) (m : ℕ) (call : Call) (before : Member) (x : Option Record) : Type 0 where
    seat : Seat
    at : slice_get w.seats m ≡ Some seat
    same : member_in s seat ≡ before
    due_is : due s.rules (member_in s seat) call ≡ x
    behind_is : called_in s w m call ≡ behind s w m call seat (answers before x)

  answered : (w : World) (m : ℕ) (call : Call) (before : Member) (x : Option Record) → reached s w m call ≡ answers before x → IsAnswered w m call before x
  unfolding reached_over called_over
  answered w m call before x e = go (slice_get w.seats m) refl e
    where
      first : (a : Member) (y : Option Record) → answers a y ≡ answers before x → a ≡ before
      first a y e = cc

      second : (a : Member) (y : Option Record) → answers a y ≡ answers before x → y ≡ x
      second a y e = cc

      of_seat : (seat : Seat) (up : Bool) (armed : Option Bool) (y : Option Record) → due s.rules (member_in s seat) call ≡ y → cond up (reached_up (member_in s seat) armed y) finds_down ≡ answers before x
          → (member_in s seat ≡ before) × (due s.rules (member_in s seat) call ≡ x)
      of_seat seat false armed y d e = absurd (cc)
      of_seat seat true None y d e = (first (member_in s seat) y e, d ∙ second (member_in s seat) y e)
      of_seat seat true (Some k) None d e = (first (member_in s seat) None e, d ∙ second (member_in s seat) None e)
      of_seat seat true (Some k) (Some z) d e = absurd (cc)

      go : (o : Option Seat) → slice_get w.seats m ≡ o → reached_at s call o ≡ answers before x → IsAnswered w m call before x
      go None at e = absurd (cc)
      go (Some seat) at e =
          let is = of_seat seat seat.up seat.armed (due s.rules (member_in s seat) call) refl e in
          record {
            seat = seat;
            at = at;
            same = is.0;
            due_is = is.1;
            behind_is = ap (called_seat s w m call) at ∙ ap (behind s w m call seat) e;
          }

  answered-free : (w : World) (m : ℕ) (call : Call) (before : Member) (x : Option Record) → NotForked w m → reached s w m call ≡ answers before x → fork_of before ≡ None
  answered-free w m call before x none e = let it = answered w m call before x e in subst (λ (n : Member). fork_of n ≡ None) it.same (none it.seat it.at)

  -- a record that leaves two such certificates leaves a forked member
  forked-behind : (w : World) (m : ℕ) (call : Call) (before : Member) (x : Option Record) → reached s w m call ≡ answers before x → (y : Record) → due s.rules before call ≡ Some y → (f : Fork) → fork_of (after s.rules before y) ≡ Some f
      → IsForked (called_in s w m call) m
  forked-behind w m call before x e y d f q =
      let it = answered w m call before x e in
      let kept : x ≡ Some y = sym it.due_is ∙ (ap (λ (n : Member). due s.rules n call) it.same ∙ d) in
      let left : called_in s w m call ≡ behind s w m call it.seat (answers before (Some y)) = it.behind_is ∙ ap (λ (z : Option Record). behind s w m call it.seat (answers before z)) kept in
      let new : Seat = record it.seat { records = it.seat.records ++ y ∷ [] } in
      subst (λ (v : World). IsForked v m) (sym left) (record {
        seat = new;
        at = set_get w.seats m it.seat new it.at;
        fork = f;
        is = ap fork_of (state-push s.rules s.opening it.seat.records y) ∙ (ap (λ (n : Member). fork_of (after s.rules n y)) it.same ∙ q);
      })

  -- ---- hold

  due-fork : (w : World) (m : Member) (bytes : List ℕ) (it : MeetsFork s w m bytes) → due s.rules m (holds bytes) ≡ Some (record_as.Hold it.cert)
  unfolding due
  due-fork w m bytes it = ap (λ r. hold_record r (hold_answer s.rules m bytes)) it.read ∙ ap (hold_record (Ok it.cert)) it.answer

  held-fork : (m : Member) (c : Certificate) (f : Fork) → fork_with m.held (held_as c) ≡ Some f → (g : Fork) × (fork_of (after s.rules m (record_as.Hold c)) ≡ Some g)
  unfolding fork_of after
  held-fork m c f e = fork-last [] m.held (held_as c) f e

  hold-said : (w : World) (m : ℕ) (bytes : List ℕ) → NotForked w m → (halts_send (hold_said (by_records s) s w m bytes) ≡ false) ⊎ IsForked (called_in s w m (holds bytes)) m
  hold-said w m bytes none = go (reached s w m (holds bytes)) refl
    where
      met : (before : Member) (x : Option Record) → reached s w m (holds bytes) ≡ answers before x → MeetsFork s w before bytes → IsForked (called_in s w m (holds bytes)) m
      met before x e it =
          let f = held-fork before it.cert it.fork it.meets in
          forked-behind w m (holds bytes) before x e (record_as.Hold it.cert) (due-fork w before bytes it) f.0 f.1

      either : (before : Member) (x : Option Record) → reached s w m (holds bytes) ≡ answers before x → (halts_send (hold_reached s w bytes (answers before x)) ≡ false) ⊎ MeetsFork s w before bytes
          → (halts_send (hold_reached s w bytes (answers before x)) ≡ false) ⊎ IsForked (called_in s w m (holds bytes)) m
      either before x e (inl calm) = inl calm
      either before x e (inr it) = inr (met before x e it)

      go : (r : Reached) → reached s w m (holds bytes) ≡ r → (halts_send (hold_reached s w bytes r) ≡ false) ⊎ IsForked (called_in s w m (holds bytes)) m
      go finds_down e = inl refl
      go (stops kept x) e = inl refl
      go (answers before x) e = either before x e (hold-calm s w before bytes (answered-free w m (holds bytes) before x none e))

  -- ---- see

  due-seen : (w : World) (m : Member) (number : ℕ) (bytes : List ℕ) (it : SeesFork s w m number bytes) → due s.rules m (sees number bytes) ≡ Some (record_as.See bytes)
  unfolding due
  due-seen w m number bytes it = ap (see_record m number bytes) it.taken

  call-calm : (w : World) (m : ℕ) (call : Option Call) → NotForked w m → Each IsCalmLine (call_lines (by_records s) s w m call).0 ⊎ IsForked (called_if s w m call) m
  call-calm w m None none = inl tt
  call-calm w m (Some (votes bytes)) none = inl tt
  call-calm w m (Some (holds bytes)) none = inl tt
  call-calm w m (Some runs) none = inl tt
  call-calm w m (Some closes) none = inl tt
  call-calm w m (Some ends) none = inl tt
  call-calm w m (Some turns) none = inl tt
  call-calm w m (Some (acks tx)) none = inl tt
  call-calm w m (Some (sees number bytes)) none = go (reached s w m (sees number bytes)) refl
    where
      either : (before : Member) (x : Option Record) → reached s w m (sees number bytes) ≡ answers before x → Each IsCalmLine (entry_reached s w m number bytes (answers before x)).0 ⊎ SeesFork s w before number bytes
          → Each IsCalmLine (entry_reached s w m number bytes (answers before x)).0 ⊎ IsForked (called_in s w m (sees number bytes)) m
      either before x e (inl calm) = inl calm
      either before x e (inr it) = inr (forked-behind w m (sees number bytes) before x e (record_as.See bytes) (due-seen w before number bytes it) it.fork it.meets)

      go : (r : Reached) → reached s w m (sees number bytes) ≡ r → Each IsCalmLine (entry_reached s w m number bytes r).0 ⊎ IsForked (called_in s w m (sees number bytes)) m
      go finds_down e = inl (refl, tt)
      go (stops kept x) e = inl (refl, tt)
      go (answers before x) e = either before x e (see-calm s w m before number bytes (answered-free w m (sees number bytes) before x none e))

  -- a forked member sees nothing more
  due-forked : (m : Member) (f : Fork) → fork_of m ≡ Some f → (number : ℕ) (bytes : List ℕ) → due s.rules m (sees number bytes) ≡ None
  unfolding due
  due-forked m f e number bytes = ap (λ (o : Option Fork). see_record m number bytes (first_some (option_map (λ (g : Fork). no_see.Halted g.first g.second) o ∷ rest))) e
    where
      rest : List (Option SeeRefusal)
      rest = full no_see.Full m ∷ where_true m.sequence.ended no_see.Over ∷ where_true (not (number == m.sequence.number)) (no_see.Gap number m.sequence.number) ∷ []

  stays-forked : (w : World) (m : ℕ) (number : ℕ) (bytes : List ℕ) → IsForked w m → IsForked (called_in s w m (sees number bytes)) m
  unfolding called_over
  stays-forked w m number bytes it = subst (λ (o : Option Seat). IsForked (called_seat s w m (sees number bytes) o) m) (sym it.at) (go it.seat.up it.seat.armed (due s.rules (member_in s it.seat) (sees number bytes)) (due-forked (member_in s it.seat) it.fork it.is number bytes))
    where
      same : IsForked (behind s w m (sees number bytes) it.seat (answers (member_in s it.seat) None)) m
      same = record { seat = record it.seat { records = it.seat.records }; at = set_get w.seats m it.seat (record it.seat { records = it.seat.records }) it.at; fork = it.fork; is = it.is }

      go : (up : Bool) (armed : Option Bool) (x : Option Record) → x ≡ None → IsForked (behind s w m (sees number bytes) it.seat (cond up (reached_up (member_in s it.seat) armed x) finds_down)) m
      go false armed x e = it
      go true None None e = same
      go true (Some k) None e = same
      go true armed (Some x) e = absurd (cc)

  next-forked : (w : World) (m : ℕ) → IsForked w m → IsForked (called_if s w m (next_call s w m)) m
  next-forked w m it = of_member (member_at s w m)
    where
      of_entry : (number : ℕ) (o : Option Entry) → IsForked (called_if s w m (option_map (numbered_call number) o)) m
      of_entry number None = it
      of_entry number (Some e) = stays-forked w m number (messages.entry.spell e) it

      of_member : (o : Option Member) → IsForked (called_if s w m (option_and_then (next_call_of w) o)) m
      of_member None = it
      of_member (Some member) = of_entry member.sequence.number (next_entry w member)

  sees-forked : (n : ℕ) (w : World) (m : ℕ) → IsForked w m → IsForked (sees_on s n w m) m
  sees-forked zero w m it = it
  sees-forked (suc n) w m it = sees-forked n (called_if s w m (next_call s w m)) m (next-forked w m it)

  and-calm : (ls : Lines) (rest : List Line) → Each IsCalmLine ls.0 → Each IsCalmLine rest → Each IsCalmLine (and_lines ls rest)
  and-calm (ls, true) rest one two = each_join IsCalmLine ls rest one two
  and-calm (ls, false) rest one two = one

  entries-calm : (n : ℕ) (w : World) (m : ℕ) → NotForked w m → Each IsCalmLine (entries_lines (by_records s) s n w m) ⊎ IsForked (sees_on s n w m) m
  entries-calm zero w m none = inl tt
  entries-calm (suc n) w m none = go (call-calm w m (next_call s w m) none) (forked-or-not next m) (entries-calm n next m)
    where
      next : World
      next = called_if s w m (next_call s w m)

      joined : Each IsCalmLine (call_lines (by_records s) s w m (next_call s w m)).0 → Each IsCalmLine (entries_lines (by_records s) s n next m) ⊎ IsForked (sees_on s n next m) m
          → Each IsCalmLine (and_lines (call_lines (by_records s) s w m (next_call s w m)) (entries_lines (by_records s) s n next m)) ⊎ IsForked (sees_on s n next m) m
      joined one (inl rest) = inl (and-calm (call_lines (by_records s) s w m (next_call s w m)) (entries_lines (by_records s) s n next m) one rest)
      joined one (inr it) = inr it

      go : Each IsCalmLine (call_lines (by_records s) s w m (next_call s w m)).0 ⊎ IsForked next m → IsForked next m ⊎ NotForked next m → (NotForked next m → Each IsCalmLine (entries_lines (by_records s) s n next m) ⊎ IsForked (sees_on s n next m) m)
          → Each IsCalmLine (and_lines (call_lines (by_records s) s w m (next_call s w m)) (entries_lines (by_records s) s n next m)) ⊎ IsForked (sees_on s n next m) m
      go (inr it) other rest = inr (sees-forked n next m it)
      go (inl one) (inl it) rest = inr (sees-forked n next m it)
      go (inl one) (inr free) rest = joined one (rest free)

  taken-calm : (m : ℕ) (ls : List Line) → Each IsCalmLine ls → Each IsCalmLine (none_taken m ls)
  taken-calm m [] each = (refl, tt)
  taken-calm m (l ∷ ls) each = each

  -- ---- a line of a schedule

  module _ (w : World) (free : NoneForked w) where
    vote-said : (m : ℕ) (bytes : List ℕ) → halts_vote (vote_said (by_records s) s w m bytes) ≡ false
    vote-said m bytes = go (reached s w m (votes bytes)) refl
      where
        go : (r : Reached) → reached s w m (votes bytes) ≡ r → halts_vote (vote_reached s w bytes r) ≡ false
        go finds_down e = refl
        go (stops kept x) e = refl
        go (answers before x) e = vote-calm s w before bytes (answered-free w m (votes bytes) before x (free m) e)

    vote-line : (m : ℕ) (tx : Name) (t : Option Made) → Each IsCalmLine (vote_lines (by_records s) s w m tx t)
    vote-line m tx None = (refl, tt)
    vote-line m tx (Some t) = (vote-said m (transactions.signed.spell t.signed), tt)

    fvote-line : (m : ℕ) (tx : Name) (words : List (Option Name)) (t : Option Made) → Each IsCalmLine (fvote_lines w m tx words t)
    fvote-line m tx words None = (refl, tt)
    fvote-line m tx words (Some t) = (refl, tt)

    cert-line : (tx : Name) (ms : List ℕ) (t : Option Made) → Each IsCalmLine (cert_lines s w tx ms t)
    cert-line tx ms None = (refl, tt)
    cert-line tx ms (Some t) = (refl, tt)

    final-line : (tx : Name) (ms : List ℕ) (t : Option Made) → Each IsCalmLine (final_lines s w tx ms t)
    final-line tx ms None = (refl, tt)
    final-line tx ms (Some t) = (refl, tt)

    hold-here : (m : ℕ) (bytes : List ℕ) → NoneForked (called_in s w m (holds bytes)) → halts_send (hold_said (by_records s) s w m bytes) ≡ false
    hold-here m bytes later = go (hold-said w m bytes (free m))
      where
        go : (halts_send (hold_said (by_records s) s w m bytes) ≡ false) ⊎ IsForked (called_in s w m (holds bytes)) m → halts_send (hold_said (by_records s) s w m bytes) ≡ false
        go (inl calm) = calm
        go (inr it) = not-both (called_in s w m (holds bytes)) m later it

    send-here : (m : ℕ) (c : Option Certificate) → NoneForked (called_if s w m (option_map held_call c)) → halts_send (send_said (by_records s) s w m c) ≡ false
    send-here m None later = refl
    send-here m (Some c) later = hold-here m (messages.certificate.spell c) later

    see-here : (m n : ℕ) (up : Bool) (member : Option Member) → member_at s w m ≡ member → NoneForked (sees_on s (min n (entries_left w member)) w m) → Each IsCalmLine (see_up (by_records s) s w m n up member)
    see-here m n false member at later = (refl, tt)
    see-here m n true None at later = (refl, tt)
    see-here m n true (Some member) at later = go (fork_of member) (none (slice_get w.seats m) refl at) (entries-calm (min n (entries_left w (Some member))) w m (free m))
      where
        none : (o : Option Seat) → slice_get w.seats m ≡ o → option_and_then (state_of s) o ≡ Some member → fork_of member ≡ None
        none None there e = absurd (cc)
        none (Some seat) there e = subst (λ (x : Member). fork_of x ≡ None) (same (member_in s seat) e) (free m seat there)
          where
            same : (x : Member) → Some x ≡ Some member → x ≡ member
            same x e = cc

        go : (f : Option Fork) → f ≡ None → Each IsCalmLine (entries_lines (by_records s) s (min n (entries_left w (Some member))) w m) ⊎ IsForked (sees_on s (min n (entries_left w (Some member))) w m) m
            → Each IsCalmLine (see_halted (by_records s) s w m (min n (entries_left w (Some member))) f)
        go (Some f) e lines = absurd (cc)
        go None e (inl calm) = taken-calm m (entries_lines (by_records s) s (min n (entries_left w (Some member))) w m) calm
        go None e (inr it) = not-both (sees_on s (min n (entries_left w (Some member))) w m) m later it

    run-here : (m : ℕ) → ((seat : Seat) → slice_get w.seats m ≡ Some seat → (ran : Ran) → run_answer s.rules (member_in s seat) ≡ Ok ran → ran.left ≡ []) → Each IsCalmLine (run_reached s w m (reached s w m runs))
    run-here m leaves = go (reached s w m runs) refl
      where
        go : (r : Reached) → reached s w m runs ≡ r → Each IsCalmLine (run_reached s w m r)
        go finds_down e = (refl, tt)
        go (stops kept x) e = (refl, tt)
        go (answers before x) e =
            let it = answered w m runs before x e in
            run-calm s w m before (answered-free w m runs before x (free m) e) (subst (λ (n : Member). (ran : Ran) → run_answer s.rules n ≡ Ok ran → ran.left ≡ []) it.same (leaves it.seat it.at))

    close-here : (m : ℕ) → halts_close (close_reached s w (reached s w m closes)) ≡ false
    close-here m = go (reached s w m closes) refl
      where
        go : (r : Reached) → reached s w m closes ≡ r → halts_close (close_reached s w r) ≡ false
        go finds_down e = refl
        go (stops kept x) e = refl
        go (answers before x) e = close-calm s w before (answered-free w m closes before x (free m) e)

    end-here : (m : ℕ) → halts_end (end_reached s w (reached s w m ends)) ≡ false
    end-here m = go (reached s w m ends) refl
      where
        go : (r : Reached) → reached s w m ends ≡ r → halts_end (end_reached s w r) ≡ false
        go finds_down e = refl
        go (stops kept x) e = refl
        go (answers before x) e = end-calm s w before (answered-free w m ends before x (free m) e)

    turn-here : (m : ℕ) → Each IsCalmLine (turn_reached s w m (reached s w m turns))
    turn-here m = go (reached s w m turns) refl
      where
        go : (r : Reached) → reached s w m turns ≡ r → Each IsCalmLine (turn_reached s w m r)
        go finds_down e = (refl, tt)
        go (stops kept x) e = (refl, tt)
        go (answers before x) e = turn-calm s w m before (answered-free w m turns before x (free m) e)

    ack-line : (m : ℕ) (tx : Name) (t : Option Made) → Each IsCalmLine (ack_lines (by_records s) s w m tx t)
    ack-line m tx None = (refl, tt)
    ack-line m tx (Some t) = (said (is_honest w m), tt)
      where
        go : (r : Reached) → reached s w m (acks t.digest) ≡ r → halts_ack (ack_reached s w t.digest r) ≡ false
        go finds_down e = refl
        go (stops kept x) e = refl
        go (answers before x) e = ack-calm s w before t.digest (answered-free w m (acks t.digest) before x (free m) e)

        said : (honest : Bool) → halts_ack (cond honest (ack_reached s w t.digest (reached s w m (acks t.digest))) ack_text.Said) ≡ false
        said true = go (reached s w m (acks t.digest)) refl
        said false = refl

    show-here : (m : ℕ) (up : Bool) (member : Option Member) → Each IsCalmLine (show_up s w m up member)
    show-here m true (Some member) = (refl, calm-mapped (object_line s w) (shown_order s w (live_objects member)) (λ o. refl))
    show-here m true None = (refl, tt)
    show-here m false member = (refl, tt)

    -- no line says so if no member is forked before it or after it, and no run leaves anything
    pub line-calm : (e : Event) → NoneForked (happens s w e) → ((m : ℕ) (seat : Seat) → slice_get w.seats m ≡ Some seat → (ran : Ran) → run_answer s.rules (member_in s seat) ≡ Ok ran → ran.left ≡ []) → Each IsCalmLine (lines_of s w e)
    unfolding lines_over happens_over
    line-calm (event.Vote m tx) later leaves = vote-line m tx (made_named w tx)
    line-calm (event.Fvote m tx origins) later leaves = fvote-line m tx origins (made_named w tx)
    line-calm (event.Cert tx members) later leaves = cert-line tx members (made_named w tx)
    line-calm (event.Send m tx) later leaves = (send-here m (cert_named w tx) later, tt)
    line-calm (event.See m entries) later leaves = see-here m entries (is_seat_up (slice_get w.seats m)) (member_at s w m) refl later
    line-calm (event.Run m workers) later leaves = run-here m (leaves m)
    line-calm (event.Close m) later leaves = (close-here m, tt)
    line-calm (event.End m) later leaves = (end-here m, tt)
    line-calm (event.Turn m) later leaves = turn-here m
    line-calm (event.Show m) later leaves = show-here m (is_seat_up (slice_get w.seats m)) (member_at s w m)
    line-calm (event.RawVote m bytes) later leaves = (vote-said m bytes, tt)
    line-calm (event.RawHold m bytes) later leaves = (hold-here m bytes later, tt)
    line-calm (event.Ack m tx spoiled) later leaves = ack-line m tx (made_named w tx)
    line-calm (event.Final tx members) later leaves = final-line tx members (made_named w tx)
    line-calm e later leaves = (refl, tt)
