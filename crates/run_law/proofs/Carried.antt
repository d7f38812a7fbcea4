-- Two kinds of seats: if the seats of one are carried to those of the other, so are each line's step and its lines.
use Rattle.std.proofs.Common.{refl, sym, ap, ◌∙◌, inl, inr}
use Rattle.std.specs.Prelude.{◌≡◌, ◌⊎◌, ℕ, zero, suc, min, Bool, true, false, cond, List, [], ◌∷◌, ◌++◌, ◌+◌, ◌&&◌, ◌==◌, map, filter_map, length, slice_get, slice_set, Option, Some, None, option_map, option_and_then}
use Rattle.std.specs.List.{enumerate_from}
use Rattle.digest_core.specs.declared.Digest.{Digest}
use Rattle.chain_types.specs.declared.objects.Object.{Object}
use Rattle.chain_types.specs.declared.objects.ObjectId.{ObjectId}
use Rattle.chain_types.specs.declared.objects.ObjectRef.{ObjectRef}
use Rattle.chain_types.specs.declared.transactions.Input.{Input}
use Rattle.chain_types.specs.declared.transactions.Input.TheVariants as inputs_as
use Rattle.chain_types.specs.declared.transactions.Transaction.{Transaction}
use Rattle.chain_types.specs.Transactions as transactions
use Rattle.chain_messages.specs.declared.messages.Certificate.{Certificate}
use Rattle.chain_messages.specs.declared.messages.Entry.{Entry}
use Rattle.chain_messages.specs.declared.messages.Entry.TheVariants as entry
use Rattle.chain_messages.specs.declared.messages.Statement.{Statement}
use Rattle.chain_messages.specs.declared.messages.Statement.TheVariants as statement
use Rattle.chain_messages.specs.Messages as messages
use Rattle.journal_core.specs.declared.records.Record.{Record}
use Rattle.schedule_text.specs.declared.words.Event.{Event}
use Rattle.schedule_text.specs.declared.words.Event.TheVariants as event
use Rattle.schedule_text.specs.declared.words.ObjWord.{ObjWord}
use Rattle.schedule_text.specs.declared.words.ObjWord.TheVariants as object_word
use Rattle.schedule_text.specs.declared.words.RefWord.{RefWord}
use Rattle.schedule_text.specs.declared.words.InputWord.{InputWord}
use Rattle.schedule_text.specs.declared.words.InputWord.TheVariants as input_word
use Rattle.report_text.specs.declared.lines.Line.{Line}
use Rattle.report_text.specs.declared.lines.Line.TheVariants as line
use Rattle.report_text.specs.declared.lines.AckText.{AckText}
use Rattle.report_text.specs.declared.lines.AckText.TheVariants as ack_text
use Rattle.report_text.specs.declared.lines.CloseText.{CloseText}
use Rattle.report_text.specs.declared.lines.EndText.{EndText}
use Rattle.report_text.specs.declared.lines.OrderText.{OrderText}
use Rattle.report_text.specs.declared.lines.OrderEndText.{OrderEndText}
use Rattle.report_text.specs.declared.lines.OrderEndText.TheVariants as order_end_text
use Rattle.report_text.specs.declared.lines.SendText.{SendText}
use Rattle.report_text.specs.declared.lines.VoteText.{VoteText}
use Rattle.protocol_spec.proofs.ListLemmas.{set_get}
use Rattle.protocol_spec.specs.Chain.Certificates.{Rules}
use Rattle.protocol_spec.specs.Chain.Collecting.{Collected, lacks, short, differ, whole}
use Rattle.protocol_spec.specs.Chain.Words.{first_some, first_of}
use Rattle.protocol_spec.specs.Member.Member.{Fork, Member, fork_of, live_objects}
use Rattle.protocol_spec.specs.Member.Calls.{Call, votes, holds, sees, runs, closes, ends, turns, acks, due, vote_answer, hold_answer, see_answer, run_answer, close_answer, end_answer, turn_answer, ack_answer}
use Rattle.world_spec.specs.Setting.{Name, Setting, User}
use Rattle.world_spec.specs.World.{Made, Drawn, WorldOf, Seating, Deed, keeps, halts, arms, starts, Reached, finds_down, stops, answers, reached_up, reached_by, reached_where, reached_over, behind_over, called_where, called_over, member_over, next_call_of, next_over, if_called, sees_over, with_seat, state_in, placed, reseated, seat_is, honest_in, says_over, sealed_by, stated}
use Rattle.world_spec.specs.Names.{made_named, cert_named, drawn_by}
use Rattle.world_spec.specs.Making.{TxLine, digest_or_zero, drawn_input, drawn_list, drawn_word, held_digest, id_of, input_over, made_as, made_over, ref_over, reference_over, spoiled_if, transaction_over, with_made}
use Rattle.world_spec.specs.Moves.{Move, looks_on, makes_tx, requests, delivers, claims, certifies, submits, submits_end, arms_stop, starts_again, Request, vote_named, hold_named, direct, claims_vote, claims_ack, cert_submitted, mark_submitted, is_start_move, move_of, requested}
use Rattle.world_spec.specs.Step.{acked_over, appended_entry, end_by, end_in, entries_left, executed_digest, false_ack_over, formed, formed_as, fvoted_by, happens_over, has_ended, honest_end, last_said, moved, no_origins, on_seat, open_entries, ordered, ordered_end, origin_word, origins_by, origins_or, risen_if, says, sealed_end, vote_by, vote_in, votes_collected}
use Rattle.world_spec.specs.Report.{Lines, ack_lines, ack_reached, ack_said, acks_collected, and_lines, call_lines, cert_lines, close_reached, end_reached, entries_lines, entry_reached, final_lines, fvote_lines_by, hold_reached, hold_said, honest_end_said, lines_over, none_taken, order_end_by, order_said, origin_name, origin_names, run_reached, see_halted, see_up, send_said, show_up, turn_reached, vote_lines, vote_reached, vote_said}
use Rattle.world_spec.specs.SceneWorlds.{is_restart}
use Rattle.world_spec.proofs.LineWorlds.{ack_same, close_same, end_same, hold_same, run_same, see_same, shown_same, turn_same, vote_same}
use Rattle.quorum_core.specs.declared.signer.Signer.{Signer}

abbrev pub is_start : Deed → Bool
is_start (keeps x) = false
is_start (halts kept x) = false
is_start (arms kept) = false
is_start starts = true

-- the seats of one kind are carried to those of another, each by its number
pub record IsCarried {A B : Type 0} (a : Seating A) (b : Seating B) (h : ℕ → A → B) : Type 0 where
  pub honest : (k : ℕ) (x : A) → a.honest x ≡ b.honest (h k x)
  pub up : (k : ℕ) (x : A) → a.up x ≡ b.up (h k x)
  pub armed : (k : ℕ) (x : A) → a.armed x ≡ b.armed (h k x)
  pub state : (k : ℕ) (x : A) → a.up x ≡ true → a.state x ≡ b.state (h k x)
  pub acts : (k : ℕ) (x : A) (d : Deed) → is_start d ≡ false → h k (a.acts x d) ≡ b.acts (h k x) d
  pub stays : (x : A) (y : Option Record) → a.up (a.acts x (keeps y)) ≡ a.up x
  pub seal : a.seal ≡ b.seal

-- the setting with other flags, opening objects and users, and the same rules, things and seals
abbrev pub aside : Setting → List Bool → List Object → List User → Setting
aside s honest opening users = record { rules = s.rules; honest = honest; opening = opening; things = s.things; users = users; seal = s.seal }

-- ---- seats

-- the number of the seat at this place, if the first has number k
abbrev pub place : ℕ → ℕ → ℕ
place k zero = k
place k (suc m) = place (suc k) m

pub placed-get : {A B : Type 0} (h : ℕ → A → B) (k : ℕ) (xs : List A) (m : ℕ) → option_map (h (place k m)) (slice_get xs m) ≡ slice_get (placed h k xs) m
placed-get h k [] m = refl
placed-get h k (x ∷ xs) zero = refl
placed-get h k (x ∷ xs) (suc m) = placed-get h (suc k) xs m

pub placed-set : {A B : Type 0} (h : ℕ → A → B) (k : ℕ) (xs : List A) (m : ℕ) (x : A) → placed h k (slice_set xs m x) ≡ slice_set (placed h k xs) m (h (place k m) x)
placed-set h k [] m x = refl
placed-set h k (y ∷ xs) zero x = refl
placed-set {A} {B} h k (y ∷ xs) (suc m) x = ap (λ (ys : List B). h k y ∷ ys) (placed-set h (suc k) xs m x)

test-carried : {A B : Type 0} (h : A → B) (f : A → Bool) (g : B → Bool) → ((x : A) → f x ≡ g (h x)) → (o : Option A) → seat_is f o ≡ seat_is g (option_map h o)
test-carried h f g same None = refl
test-carried h f g same (Some x) = same x

-- ---- a member is up, or no call changes anything

module _ {S : Type 0} (k : Seating S) where
  pub record IsUp (w : WorldOf S) (m : ℕ) : Type 0 where
    pub seat : S
    pub at : slice_get w.seats m ≡ Some seat
    pub up : k.up seat ≡ true

  abbrev pub IsDown : WorldOf S → ℕ → Type 0
  IsDown w m = seat_is k.up (slice_get w.seats m) ≡ false

  stands-if : (w : WorldOf S) (m : ℕ) (x : S) (up : Bool) → slice_get w.seats m ≡ Some x → k.up x ≡ up → IsUp w m ⊎ IsDown w m
  stands-if w m x true at is = inl (record { seat = x; at = at; up = is })
  stands-if w m x false at is = inr (ap (λ (o : Option S). seat_is k.up o) at ∙ is)

  stands-at : (w : WorldOf S) (m : ℕ) (o : Option S) → slice_get w.seats m ≡ o → IsUp w m ⊎ IsDown w m
  stands-at w m None at = inr (ap (λ (o : Option S). seat_is k.up o) at)
  stands-at w m (Some x) at = stands-if w m x (k.up x) at refl

  pub stands : (w : WorldOf S) (m : ℕ) → IsUp w m ⊎ IsDown w m
  stands w m = stands-at w m (slice_get w.seats m) refl

  pub up-is : (w : WorldOf S) (m : ℕ) (is : IsUp w m) → seat_is k.up (slice_get w.seats m) ≡ true
  up-is w m is = ap (λ (o : Option S). seat_is k.up o) is.at ∙ is.up

  pub up-member : (w : WorldOf S) (m : ℕ) (is : IsUp w m) → member_over k w m ≡ Some (k.state is.seat)
  up-member w m is = ap (λ (o : Option S). option_and_then (state_in k) o) is.at

  module _ (r : Rules) where
    asleep-where : (w : WorldOf S) (m : ℕ) (call : Call) (o : Option S) → seat_is k.up o ≡ false → called_where k r w m call o ≡ w
    asleep-where w m call None down = refl
    asleep-where w m call (Some x) down =
        ap (λ (up : Bool). behind_over k r w m call x (cond up (reached_up (k.state x) (k.armed x) (due r (k.state x) call)) finds_down)) down

    pub asleep-if : (w : WorldOf S) (m : ℕ) (call : Option Call) → IsDown w m → if_called k r w m call ≡ w
    unfolding called_over
    asleep-if w m None down = refl
    asleep-if w m (Some call) down = asleep-where w m call (slice_get w.seats m) down

    pub asleep-sees : (n : ℕ) (w : WorldOf S) (m : ℕ) → IsDown w m → sees_over k r n w m ≡ w
    asleep-sees zero w m down = refl
    asleep-sees (suc n) w m down = ap (λ (v : WorldOf S). sees_over k r n v m) (asleep-if w m (next_over k w m) down) ∙ asleep-sees n w m down

    up-called : (w : WorldOf S) (m : ℕ) (call : Call) (is : IsUp w m) → called_over k r w m call ≡ behind_over k r w m call is.seat (reached_over k r w m call)
    unfolding called_over reached_over
    up-called w m call is =
        ap (λ (o : Option S). called_where k r w m call o) is.at
        ∙ ap (λ (o : Option S). behind_over k r w m call is.seat (reached_where k r call o)) (sym is.at)

    -- a member that answers stays up
    pub answered-up : ((x : S) (y : Option Record) → k.up (k.acts x (keeps y)) ≡ k.up x) → (w : WorldOf S) (m : ℕ) (call : Call) (before : Member) (x : Option Record)
        → IsUp w m → reached_over k r w m call ≡ answers before x → IsUp (called_over k r w m call) m
    answered-up stays w m call before x is e =
        let seat : S = k.acts is.seat (keeps x) in
        let same : called_over k r w m call ≡ behind_over k r w m call is.seat (answers before x) = up-called w m call is ∙ ap (λ (o : Reached). behind_over k r w m call is.seat o) e in
        record { seat = seat; at = ap (λ (v : WorldOf S). slice_get v.seats m) same ∙ set_get w.seats m is.seat seat is.at; up = stays is.seat x ∙ is.up }

module _ {A B : Type 0} (a : Seating A) (b : Seating B) (h : ℕ → A → B) (s : Setting) (honest : List Bool) (opening : List Object) (users : List User) (carried : IsCarried a b h) where
  abbrev pub t : Setting
  t = aside s honest opening users

  abbrev pub r : Rules
  r = s.rules

  abbrev pub look : WorldOf A → WorldOf B
  look w = reseated h w

  abbrev pub at_place : ℕ → A → B
  at_place m x = h (place 0 m) x

  -- ---- a call

  reached-up : (call : Call) (k : ℕ) (x : A) (up : Bool) → a.up x ≡ up
      → cond up (reached_up (a.state x) (a.armed x) (due r (a.state x) call)) finds_down ≡ cond up (reached_up (b.state (h k x)) (b.armed (h k x)) (due r (b.state (h k x)) call)) finds_down
  reached-up call k x false is = refl
  reached-up call k x true is =
      ap (λ (m : Member). reached_up m (a.armed x) (due r m call)) (carried.state k x is)
      ∙ ap (λ (armed : Option Bool). reached_up (b.state (h k x)) armed (due r (b.state (h k x)) call)) (carried.armed k x)

  reached-seat : (call : Call) (k : ℕ) (x : A) → reached_by a r call x ≡ reached_by b r call (h k x)
  reached-seat call k x =
      reached-up call k x (a.up x) refl
      ∙ ap (λ (up : Bool). cond up (reached_up (b.state (h k x)) (b.armed (h k x)) (due r (b.state (h k x)) call)) finds_down) (carried.up k x)

  reached-at : (call : Call) (k : ℕ) (o : Option A) → reached_where a r call o ≡ reached_where b r call (option_map (h k) o)
  reached-at call k None = refl
  reached-at call k (Some x) = reached-seat call k x

  pub reached-same : (w : WorldOf A) (m : ℕ) (call : Call) → reached_over a r w m call ≡ reached_over b r (look w) m call
  unfolding reached_over
  reached-same w m call = reached-at call (place 0 m) (slice_get w.seats m) ∙ ap (λ (o : Option B). reached_where b r call o) (placed-get h 0 w.seats m)

  set-looks : (w : WorldOf A) (m : ℕ) (x : A) (d : Deed) → is_start d ≡ false → look (with_seat w m (a.acts x d)) ≡ with_seat (look w) m (b.acts (at_place m x) d)
  set-looks w m x d other =
      ap (λ (seats : List B). record (look w) { seats = seats })
      (placed-set h 0 w.seats m (a.acts x d) ∙ ap (λ (y : B). slice_set (placed h 0 w.seats) m y) (carried.acts (place 0 m) x d other))

  behind-looks : (w : WorldOf A) (m : ℕ) (call : Call) (x : A) (o : Reached) → look (behind_over a r w m call x o) ≡ behind_over b r (look w) m call (at_place m x) o
  behind-looks w m call x finds_down = refl
  behind-looks w m call x (stops kept y) = set-looks w m x (halts kept y) refl
  behind-looks w m call x (answers before y) =
      ap (λ (seal : Signer → List ℕ → Digest). record (look (with_seat w m (a.acts x (keeps y)))) { said = w.said ++ map (sealed_by seal m) (stated r before call) }) carried.seal
      ∙ ap (λ (v : WorldOf B). record v { said = (behind_over b r (look w) m call (at_place m x) (answers before y)).said }) (set-looks w m x (keeps y) refl)

  where-looks : (w : WorldOf A) (m : ℕ) (call : Call) (o : Option A) → look (called_where a r w m call o) ≡ called_where b r (look w) m call (option_map (at_place m) o)
  where-looks w m call None = refl
  where-looks w m call (Some x) =
      behind-looks w m call x (reached_by a r call x)
      ∙ ap (λ (o : Reached). behind_over b r (look w) m call (at_place m x) o) (reached-seat call (place 0 m) x)

  pub called-looks : (w : WorldOf A) (m : ℕ) (call : Call) → look (called_over a r w m call) ≡ called_over b r (look w) m call
  unfolding called_over
  called-looks w m call =
      where-looks w m call (slice_get w.seats m)
      ∙ ap (λ (o : Option B). called_where b r (look w) m call o) (placed-get h 0 w.seats m)

  if-looks : (w : WorldOf A) (m : ℕ) (call : Option Call) → look (if_called a r w m call) ≡ if_called b r (look w) m call
  if-looks w m None = refl
  if-looks w m (Some call) = called-looks w m call

  -- ---- up in both, or down in both

  test-looks : (f : A → Bool) (g : B → Bool) → ((k : ℕ) (x : A) → f x ≡ g (h k x)) → (w : WorldOf A) (m : ℕ) → seat_is f (slice_get w.seats m) ≡ seat_is g (slice_get (placed h 0 w.seats) m)
  test-looks f g same w m =
      test-carried (at_place m) f g (same (place 0 m)) (slice_get w.seats m)
      ∙ ap (λ (o : Option B). seat_is g o) (placed-get h 0 w.seats m)

  abbrev up-there : (w : WorldOf A) (m : ℕ) → IsUp a w m → IsUp b (look w) m
  up-there w m is = record {
    seat = at_place m is.seat;
    at = sym (placed-get h 0 w.seats m) ∙ ap (λ (o : Option A). option_map (at_place m) o) is.at;
    up = sym (carried.up (place 0 m) is.seat) ∙ is.up;
  }

  down-there : (w : WorldOf A) (m : ℕ) → IsDown a w m → IsDown b (look w) m
  down-there w m down = sym (test-looks a.up b.up carried.up w m) ∙ down

  state-same : (w : WorldOf A) (m : ℕ) (is : IsUp a w m) → a.state is.seat ≡ b.state (at_place m is.seat)
  state-same w m is = carried.state (place 0 m) is.seat is.up

  member-same : (w : WorldOf A) (m : ℕ) → IsUp a w m → member_over a w m ≡ member_over b (look w) m
  member-same w m is = up-member a w m is ∙ ap (λ (n : Member). Some n) (state-same w m is) ∙ sym (up-member b (look w) m (up-there w m is))

  next-same : (w : WorldOf A) (m : ℕ) → IsUp a w m → next_over a w m ≡ next_over b (look w) m
  next-same w m is = ap (λ (n : Option Member). option_and_then (next_call_of w) n) (member-same w m is)

  -- ---- entries

  next-by : (w : WorldOf A) (m : ℕ) → IsUp a w m ⊎ IsDown a w m → look (if_called a r w m (next_over a w m)) ≡ if_called b r (look w) m (next_over b (look w) m)
  next-by w m (inl is) = if-looks w m (next_over a w m) ∙ ap (λ (call : Option Call). if_called b r (look w) m call) (next-same w m is)
  next-by w m (inr down) =
      ap (λ (v : WorldOf A). look v) (asleep-if a r w m (next_over a w m) down)
      ∙ sym (asleep-if b r (look w) m (next_over b (look w) m) (down-there w m down))

  sees-looks : (n : ℕ) (w : WorldOf A) (m : ℕ) → look (sees_over a r n w m) ≡ sees_over b r n (look w) m
  sees-looks zero w m = refl
  sees-looks (suc n) w m =
      sees-looks n (if_called a r w m (next_over a w m)) m
      ∙ ap (λ (v : WorldOf B). sees_over b r n v m) (next-by w m (stands a w m))

  left-same : (w : WorldOf A) (o : Option Member) → entries_left w o ≡ entries_left (look w) o
  left-same w None = refl
  left-same w (Some n) = refl

  see-by : (w : WorldOf A) (m entries : ℕ) → IsUp a w m ⊎ IsDown a w m
      → look (sees_over a r (min entries (entries_left w (member_over a w m))) w m) ≡ sees_over b r (min entries (entries_left (look w) (member_over b (look w) m))) (look w) m
  see-by w m entries (inl is) =
      sees-looks (min entries (entries_left w (member_over a w m))) w m
      ∙ ap (λ (k : ℕ). sees_over b r (min entries k) (look w) m) (left-same w (member_over a w m) ∙ ap (λ (n : Option Member). entries_left (look w) n) (member-same w m is))
  see-by w m entries (inr down) =
      ap (λ (v : WorldOf A). look v) (asleep-sees a r (min entries (entries_left w (member_over a w m))) w m down)
      ∙ sym (asleep-sees b r (min entries (entries_left (look w) (member_over b (look w) m))) (look w) m (down-there w m down))

  -- ---- requests, certificates, stops

  requested-looks : (w : WorldOf A) (ask : Request) → requested w ask ≡ requested (look w) ask
  requested-looks w (vote_named tx) = refl
  requested-looks w (hold_named tx) = refl
  requested-looks w (direct call) = refl

  formed-as : (w : WorldOf A) (x : Made) (ms : List ℕ) (c : Collected) → look (formed_as w x ms c) ≡ formed_as (look w) x ms c
  formed-as w x ms (lacks m) = refl
  formed-as w x ms (short weight total) = refl
  formed-as w x ms (differ o p) = refl
  formed-as w x ms whole = refl

  formed-looks : (w : WorldOf A) (ms : List ℕ) (x : Option Made) → look (formed s w ms x) ≡ formed t (look w) ms x
  unfolding votes_collected
  formed-looks w ms None = refl
  formed-looks w ms (Some x) = formed-as w x ms (votes_collected s w x ms)

  on-looks : (w : WorldOf A) (m : ℕ) (d : Deed) → is_start d ≡ false → (o : Option A) → look (on_seat w m (λ x. a.acts x d) o) ≡ on_seat (look w) m (λ y. b.acts y d) (option_map (at_place m) o)
  on-looks w m d other None = refl
  on-looks w m d other (Some x) = set-looks w m x d other

  stop-looks : (w : WorldOf A) (m : ℕ) (kept : Bool) → look (on_seat w m (λ x. a.acts x (arms kept)) (slice_get w.seats m)) ≡ on_seat (look w) m (λ y. b.acts y (arms kept)) (slice_get (placed h 0 w.seats) m)
  stop-looks w m kept =
      on-looks w m (arms kept) refl (slice_get w.seats m)
      ∙ ap (λ (o : Option B). on_seat (look w) m (λ y. b.acts y (arms kept)) o) (placed-get h 0 w.seats m)

  -- ---- what the first honest member says that is up

  says-one : {X : Type 0} (say : Member → Option X) (k : ℕ) (x : A) (honest up : Bool) → a.up x ≡ up → cond (honest && up) (say (a.state x)) None ≡ cond (honest && up) (say (b.state (h k x))) None
  says-one say k x true true is = ap (λ (m : Member). say m) (carried.state k x is)
  says-one say k x true false is = refl
  says-one say k x false up is = refl

  says-looks : {X : Type 0} (say : Member → Option X) (k : ℕ) (xs : List A) → says_over a say xs ≡ says_over b say (placed h k xs)
  says-looks say k [] = refl
  says-looks {X} say k (x ∷ xs) =
      ap (λ (d : Option X). first_some (d ∷ says_over a say xs ∷ []))
      (says-one say k x (a.honest x) (a.up x) refl
      ∙ ap (λ (honest : Bool). cond (honest && a.up x) (say (b.state (h k x))) None) (carried.honest k x)
      ∙ ap (λ (up : Bool). cond (b.honest (h k x) && up) (say (b.state (h k x))) None) (carried.up k x))
      ∙ ap (λ (d : Option X). first_some (cond (b.honest (h k x) && b.up (h k x)) (say (b.state (h k x))) None ∷ d ∷ [])) (says-looks say (suc k) xs)

  -- ---- tx

  id-looks : (w : WorldOf A) (o : ObjWord) → id_of s w o ≡ id_of t (look w) o
  id-looks w (object_word.Setup name) = refl
  id-looks w (object_word.Created tx number) = refl

  ref-looks : (w : WorldOf A) (x : RefWord) → ref_over a s w x ≡ ref_over b t (look w) x
  ref-looks w x =
      ap (λ (id : ObjectId). reference_over a w id x.version x.spoiled) (id-looks w x.object)
      ∙ ap (λ (d : Option Digest). let ref : ObjectRef = record { id = id_of t (look w) x.object; version = x.version; digest = spoiled_if x.spoiled (digest_or_zero d) } in ref)
      (says-looks (held_digest (record { id = id_of t (look w) x.object; version = x.version })) 0 w.seats)

  input-looks : (w : WorldOf A) (i : InputWord) → input_over a s w i ≡ input_over b t (look w) i
  input-looks w (input_word.Number n) = refl
  input-looks w (input_word.Address name) = refl
  input-looks w (input_word.Bytes bytes) = refl
  input-looks w (input_word.Owned x) = ap (λ (ref : ObjectRef). inputs_as.Owned ref) (ref-looks w x)
  input-looks w (input_word.Immutable x) = ap (λ (ref : ObjectRef). inputs_as.Immutable ref) (ref-looks w x)
  input-looks w (input_word.Shared object initial mutable) = ap (λ (id : ObjectId). inputs_as.Shared id initial mutable) (id-looks w object)

  transaction-looks : (w : WorldOf A) (l : TxLine) → transaction_over a s w l ≡ transaction_over b t (look w) l
  transaction-looks w l =
      ap (λ (gas : ObjectRef). let tx : Transaction = record (transaction_over a s w l) { gas = gas } in tx) (ref-looks w l.gas)
      ∙ ap (λ (f : InputWord → Input). let tx : Transaction = record (transaction_over b t (look w) l) { inputs = map f l.inputs } in tx) (λ i word. input-looks w word i)

  word-looks : (w : WorldOf A) (o : ObjWord) → drawn_word w o ≡ drawn_word (look w) o
  word-looks w (object_word.Setup name) = refl
  word-looks w (object_word.Created tx number) = refl

  drawn-looks : (w : WorldOf A) (i : InputWord) → drawn_input w i ≡ drawn_input (look w) i
  drawn-looks w (input_word.Number n) = refl
  drawn-looks w (input_word.Address name) = refl
  drawn-looks w (input_word.Bytes bytes) = refl
  drawn-looks w (input_word.Owned x) = word-looks w x.object
  drawn-looks w (input_word.Immutable x) = word-looks w x.object
  drawn-looks w (input_word.Shared object initial mutable) = word-looks w object

  with-looks : (w : WorldOf A) (l : TxLine) (x : Made) → look (with_made w l x) ≡ with_made (look w) l x
  with-looks w l x =
      ap (λ (gas : Option Drawn). record (with_made (look w) l x) { drawn = w.drawn ++ (drawn_list gas ++ (filter_map (drawn_input w) l.inputs ++ drawn_by x.digest x.signed.tx)) }) (word-looks w l.gas.object)
      ∙ ap (λ (f : InputWord → Option Drawn). record (with_made (look w) l x) { drawn = w.drawn ++ (drawn_list (drawn_word (look w) l.gas.object) ++ (filter_map f l.inputs ++ drawn_by x.digest x.signed.tx)) }) (λ i word. drawn-looks w word i)

  made-looks : (w : WorldOf A) (l : TxLine) → look (made_over a s w l) ≡ made_over b t (look w) l
  unfolding made_over
  made-looks w l =
      with-looks w l (made_as s l.name l.spoiled (transaction_over a s w l))
      ∙ ap (λ (tx : Transaction). with_made (look w) l (made_as s l.name l.spoiled tx)) (transaction-looks w l)

  -- ---- false votes

  honest-looks : (w : WorldOf A) (m : ℕ) → honest_in a.honest w m ≡ honest_in b.honest (look w) m
  honest-looks w m = test-looks a.honest b.honest carried.honest w m

  votes-look : (w : WorldOf A) (made : Made) (n k : ℕ) (xs : List A)
      → first_of (vote_by a.honest w made) (enumerate_from n xs) ≡ first_of (vote_by b.honest (look w) made) (enumerate_from n (placed h k xs))
  votes-look w made n k [] = refl
  votes-look w made n k (x ∷ xs) =
      ap (λ (rest : Option (List (Option Digest))). first_some (vote_by a.honest w made (n, x) ∷ rest ∷ [])) (votes-look w made (n + 1) (suc k) xs)
      ∙ ap (λ (honest : Bool). first_some (cond honest (last_said (vote_in made.signed.tx.epoch made.digest) n w.said) None ∷ first_of (vote_by b.honest (look w) made) (enumerate_from (n + 1) (placed h (suc k) xs)) ∷ [])) (carried.honest k x)

  origin-looks : (w : WorldOf A) (o : Option Name) → origin_word w o ≡ origin_word (look w) o
  origin-looks w None = refl
  origin-looks w (Some name) = refl

  origins-look : (w : WorldOf A) (x : Made) (words : List (Option Name)) → origins_by a.honest w x words ≡ origins_by b.honest (look w) x words
  origins-look w x [] = ap (λ (found : Option (List (Option Digest))). origins_or (no_origins x.signed.tx) found) (votes-look w x 0 0 w.seats)
  origins-look w x (word ∷ words) = ap (λ (f : Option Name → Option Digest). map f (word ∷ words)) (λ i o. origin-looks w o i)

  says-if : (w : WorldOf A) (m : ℕ) (st : Statement) (honest : Bool) → look (cond honest w (says s.seal w m st)) ≡ cond honest (look w) (says s.seal (look w) m st)
  says-if w m st true = refl
  says-if w m st false = refl

  fvoted-looks : (w : WorldOf A) (m : ℕ) (words : List (Option Name)) (x : Option Made) → look (fvoted_by a.honest s w m words x) ≡ fvoted_by b.honest t (look w) m words x
  fvoted-looks w m words None = refl
  fvoted-looks w m words (Some x) =
      says-if w m (statement.Vote x.signed.tx.epoch x.digest (origins_by a.honest w x words)) (honest_in a.honest w m)
      ∙ ap (λ (honest : Bool). cond honest (look w) (says s.seal (look w) m (statement.Vote x.signed.tx.epoch x.digest (origins_by a.honest w x words)))) (honest-looks w m)
      ∙ ap (λ (origins : List (Option Digest)). cond (honest_in b.honest (look w) m) (look w) (says s.seal (look w) m (statement.Vote x.signed.tx.epoch x.digest origins))) (origins-look w x words)

  -- ---- the order

  entry-if : (w : WorldOf A) (e : Entry) (is : Bool) → look (cond is (appended_entry w e) w) ≡ cond is (appended_entry (look w) e) (look w)
  entry-if w e true = refl
  entry-if w e false = refl

  order-looks : (w : WorldOf A) (c : Option Certificate) → look (ordered w c) ≡ ordered (look w) c
  order-looks w None = refl
  order-looks w (Some c) = entry-if w (entry.Cert c) (c.tx.epoch == w.epoch)

  rise-if : (w : WorldOf A) (is : Bool) → look (risen_if is w) ≡ risen_if is (look w)
  rise-if w true = refl
  rise-if w false = refl

  end-looks : (w : WorldOf A) (m epoch : ℕ) → look (ordered_end s w m epoch) ≡ ordered_end t (look w) m epoch
  end-looks w m epoch = rise-if (appended_entry w (sealed_end s m epoch)) (has_ended s (appended_entry w (sealed_end s m epoch)))

  end-if : (w : WorldOf A) (m epoch : ℕ) (is : Bool) → look (cond is (ordered_end s w m epoch) w) ≡ cond is (ordered_end t (look w) m epoch) (look w)
  end-if w m epoch true = end-looks w m epoch
  end-if w m epoch false = refl

  honest-end : (w : WorldOf A) (m : ℕ) (epoch : Option ℕ) → look (honest_end s w m epoch) ≡ honest_end t (look w) m epoch
  honest-end w m None = refl
  honest-end w m (Some epoch) = end-if w m epoch (epoch == w.epoch)

  ends-by : (w : WorldOf A) (m : ℕ) (honest : Bool)
      → look (cond honest (honest_end s w m (last_said end_in m w.said)) (ordered_end s (says s.seal w m (statement.End w.epoch)) m w.epoch))
      ≡ cond honest (honest_end t (look w) m (last_said end_in m w.said)) (ordered_end t (says s.seal (look w) m (statement.End w.epoch)) m w.epoch)
  ends-by w m true = honest-end w m (last_said end_in m w.said)
  ends-by w m false = end-looks (says s.seal w m (statement.End w.epoch)) m w.epoch

  end-order-looks : (w : WorldOf A) (m : ℕ) → look (end_by a.honest s w m) ≡ end_by b.honest t (look w) m
  end-order-looks w m =
      ends-by w m (honest_in a.honest w m)
      ∙ ap (λ (honest : Bool). cond honest (honest_end t (look w) m (last_said end_in m w.said)) (ordered_end t (says s.seal (look w) m (statement.End w.epoch)) m w.epoch)) (honest-looks w m)

  -- ---- acknowledgements

  acks-if : (w : WorldOf A) (m : ℕ) (x : Made) (spoiled honest : Bool)
      → look (cond honest (called_over a r w m (acks x.digest)) (says a.seal w m (false_ack_over a w x spoiled))) ≡ cond honest (called_over b r (look w) m (acks x.digest)) (says b.seal (look w) m (false_ack_over b (look w) x spoiled))
  acks-if w m x spoiled true = called-looks w m (acks x.digest)
  acks-if w m x spoiled false = ap (λ (d : Option Digest). says b.seal (look w) m (statement.Ack x.signed.tx.epoch x.digest (spoiled_if spoiled (digest_or_zero d)))) (says-looks (executed_digest x.digest) 0 w.seats)

  acked-looks : (w : WorldOf A) (m : ℕ) (spoiled : Bool) (x : Option Made) → look (acked_over a r w m spoiled x) ≡ acked_over b r (look w) m spoiled x
  acked-looks w m spoiled None = refl
  acked-looks w m spoiled (Some x) =
      acks-if w m x spoiled (honest_in a.honest w m)
      ∙ ap (λ (honest : Bool). cond honest (called_over b r (look w) m (acks x.digest)) (says b.seal (look w) m (false_ack_over b (look w) x spoiled))) (honest-looks w m)

  -- ---- each move but a start, and each line but a restart

  move-looks : (w : WorldOf A) (mv : Move) → is_start_move mv ≡ false → look (moved a s w mv) ≡ moved b t (look w) mv
  move-looks w looks_on other = refl
  move-looks w (makes_tx l) other = made-looks w l
  move-looks w (requests m ask) other = if-looks w m (requested w ask) ∙ ap (λ (call : Option Call). if_called b r (look w) m call) (requested-looks w ask)
  move-looks w (delivers m entries) other = see-by w m entries (stands a w m)
  move-looks w (claims m tx (claims_vote origins)) other = fvoted-looks w m origins (made_named w tx)
  move-looks w (claims m tx (claims_ack spoiled)) other = acked-looks w m spoiled (made_named w tx)
  move-looks w (certifies tx members) other = formed-looks w members (made_named w tx)
  move-looks w (submits (cert_submitted tx)) other = order-looks w (cert_named w tx)
  move-looks w (submits mark_submitted) other = refl
  move-looks w (submits_end m) other = end-order-looks w m
  move-looks w (arms_stop m kept) other = stop-looks w m kept
  move-looks w (starts_again m) other = absurd (cc)

  pub step-looks : (w : WorldOf A) (e : Event) → is_restart e ≡ false → look (happens_over a s w e) ≡ happens_over b t (look w) e
  unfolding happens_over
  step-looks w e other = move-looks w (move_of e) other

  -- ---- what is said of answers

  vote-text : (w : WorldOf A) (bytes : List ℕ) (o : Reached) → vote_reached s w bytes o ≡ vote_reached t (look w) bytes o
  vote-text w bytes finds_down = refl
  vote-text w bytes (stops kept x) = refl
  vote-text w bytes (answers m x) = vote_same s w (vote_answer r m bytes) ∙ sym (vote_same t (look w) (vote_answer r m bytes))

  hold-text : (w : WorldOf A) (bytes : List ℕ) (o : Reached) → hold_reached s w bytes o ≡ hold_reached t (look w) bytes o
  hold-text w bytes finds_down = refl
  hold-text w bytes (stops kept x) = refl
  hold-text w bytes (answers m x) = hold_same s w (hold_answer r m bytes) ∙ sym (hold_same t (look w) (hold_answer r m bytes))

  entry-text : (w : WorldOf A) (m number : ℕ) (bytes : List ℕ) (o : Reached) → entry_reached s w m number bytes o ≡ entry_reached t (look w) m number bytes o
  entry-text w m number bytes finds_down = refl
  entry-text w m number bytes (stops kept x) = refl
  entry-text w m number bytes (answers before x) = see_same s w m number (see_answer r before number bytes) ∙ sym (see_same t (look w) m number (see_answer r before number bytes))

  run-text : (w : WorldOf A) (m : ℕ) (o : Reached) → run_reached s w m o ≡ run_reached t (look w) m o
  run-text w m finds_down = refl
  run-text w m (stops kept x) = refl
  run-text w m (answers before x) = run_same s w m (run_answer r before) ∙ sym (run_same t (look w) m (run_answer r before))

  close-text : (w : WorldOf A) (o : Reached) → close_reached s w o ≡ close_reached t (look w) o
  close-text w finds_down = refl
  close-text w (stops kept x) = refl
  close-text w (answers m x) = close_same s w (close_answer r m) ∙ sym (close_same t (look w) (close_answer r m))

  end-text : (w : WorldOf A) (o : Reached) → end_reached s w o ≡ end_reached t (look w) o
  end-text w finds_down = refl
  end-text w (stops kept x) = refl
  end-text w (answers m x) = end_same s w (end_answer r m) ∙ sym (end_same t (look w) (end_answer r m))

  turn-text : (w : WorldOf A) (m : ℕ) (o : Reached) → turn_reached s w m o ≡ turn_reached t (look w) m o
  turn-text w m finds_down = refl
  turn-text w m (stops kept x) = refl
  turn-text w m (answers before x) = turn_same s w m before (turn_answer r before) ∙ sym (turn_same t (look w) m before (turn_answer r before))

  ack-text : (w : WorldOf A) (tx : Digest) (o : Reached) → ack_reached s w tx o ≡ ack_reached t (look w) tx o
  ack-text w tx finds_down = refl
  ack-text w tx (stops kept x) = refl
  ack-text w tx (answers m x) = ack_same s w (ack_answer r m tx) ∙ sym (ack_same t (look w) (ack_answer r m tx))

  -- ---- the lines of calls

  vote-said : (w : WorldOf A) (m : ℕ) (bytes : List ℕ) → vote_said a s w m bytes ≡ vote_said b t (look w) m bytes
  vote-said w m bytes = vote-text w bytes (reached_over a r w m (votes bytes)) ∙ ap (λ (o : Reached). vote_reached t (look w) bytes o) (reached-same w m (votes bytes))

  vote-lines : (w : WorldOf A) (m : ℕ) (tx : Name) (x : Option Made) → vote_lines a s w m tx x ≡ vote_lines b t (look w) m tx x
  vote-lines w m tx None = refl
  vote-lines w m tx (Some x) = ap (λ (text : VoteText). line.Vote m tx text ∷ []) (vote-said w m (transactions.signed.spell x.signed))

  hold-said : (w : WorldOf A) (m : ℕ) (bytes : List ℕ) → hold_said a s w m bytes ≡ hold_said b t (look w) m bytes
  hold-said w m bytes = hold-text w bytes (reached_over a r w m (holds bytes)) ∙ ap (λ (o : Reached). hold_reached t (look w) bytes o) (reached-same w m (holds bytes))

  send-said : (w : WorldOf A) (m : ℕ) (c : Option Certificate) → send_said a s w m c ≡ send_said b t (look w) m c
  send-said w m None = refl
  send-said w m (Some c) = hold-said w m (messages.certificate.spell c)

  ack-said : (w : WorldOf A) (m : ℕ) (tx : Digest) → ack_said a s w m tx ≡ ack_said b t (look w) m tx
  ack-said w m tx =
      ap (λ (text : AckText). cond (honest_in a.honest w m) text ack_text.Said) (ack-text w tx (reached_over a r w m (acks tx)))
      ∙ ap (λ (o : Reached). cond (honest_in a.honest w m) (ack_reached t (look w) tx o) ack_text.Said) (reached-same w m (acks tx))
      ∙ ap (λ (honest : Bool). cond honest (ack_reached t (look w) tx (reached_over b r (look w) m (acks tx))) ack_text.Said) (honest-looks w m)

  ack-lines : (w : WorldOf A) (m : ℕ) (tx : Name) (x : Option Made) → ack_lines a s w m tx x ≡ ack_lines b t (look w) m tx x
  ack-lines w m tx None = refl
  ack-lines w m tx (Some x) = ap (λ (text : AckText). line.Ack m tx text ∷ []) (ack-said w m x.digest)

  -- ---- false votes, certificates, the order

  name-looks : (w : WorldOf A) (o : Option Digest) → origin_name w o ≡ origin_name (look w) o
  name-looks w None = refl
  name-looks w (Some tx) = refl

  fvote-lines : (w : WorldOf A) (m : ℕ) (tx : Name) (words : List (Option Name)) (x : Option Made) → fvote_lines_by a.honest w m tx words x ≡ fvote_lines_by b.honest (look w) m tx words x
  fvote-lines w m tx words None = refl
  fvote-lines w m tx words (Some x) =
      ap (λ (f : Option Digest → Option Name). line.Fvote m tx (map f (origins_by a.honest w x words)) ∷ []) (λ i o. name-looks w o i)
      ∙ ap (λ (origins : List (Option Digest)). line.Fvote m tx (origin_names (look w) origins) ∷ []) (origins-look w x words)

  cert-lines : (w : WorldOf A) (tx : Name) (ms : List ℕ) (x : Option Made) → cert_lines s w tx ms x ≡ cert_lines t (look w) tx ms x
  unfolding votes_collected
  cert-lines w tx ms None = refl
  cert-lines w tx ms (Some x) = refl

  final-look : (w : WorldOf A) (tx : Name) (ms : List ℕ) (x : Option Made) → final_lines s w tx ms x ≡ final_lines t (look w) tx ms x
  unfolding acks_collected
  final-look w tx ms None = refl
  final-look w tx ms (Some x) = refl

  order-text : (w : WorldOf A) (c : Option Certificate) → order_said w c ≡ order_said (look w) c
  order-text w None = refl
  order-text w (Some c) = refl

  honest-text : (w : WorldOf A) (epoch : Option ℕ) → honest_end_said w epoch ≡ honest_end_said (look w) epoch
  honest-text w None = refl
  honest-text w (Some epoch) = refl

  end-order-text : (w : WorldOf A) (m : ℕ) → order_end_by a.honest w m ≡ order_end_by b.honest (look w) m
  end-order-text w m =
      ap (λ (text : OrderEndText). cond (honest_in a.honest w m) text (order_end_text.Entry (length (open_entries w)))) (honest-text w (last_said end_in m w.said))
      ∙ ap (λ (honest : Bool). cond honest (honest_end_said (look w) (last_said end_in m w.said)) (order_end_text.Entry (length (open_entries w)))) (honest-looks w m)

  -- ---- show

  show-look : (w : WorldOf A) (m : ℕ) → IsUp a w m ⊎ IsDown a w m
      → show_up s w m (seat_is a.up (slice_get w.seats m)) (member_over a w m) ≡ show_up t (look w) m (seat_is b.up (slice_get (placed h 0 w.seats) m)) (member_over b (look w) m)
  show-look w m (inl is) =
      let n = a.state is.seat in
      ap (λ (up : Bool). show_up s w m up (member_over a w m)) (up-is a w m is)
      ∙ ap (λ (o : Option Member). show_up s w m true o) (up-member a w m is)
      ∙ (shown_same s w m n.epoch (live_objects n) ∙ sym (shown_same t (look w) m n.epoch (live_objects n)))
      ∙ ap (λ (o : Option Member). show_up t (look w) m true o) (sym (up-member a w m is) ∙ member-same w m is)
      ∙ ap (λ (up : Bool). show_up t (look w) m up (member_over b (look w) m)) (sym (up-is b (look w) m (up-there w m is)))
  show-look w m (inr down) =
      ap (λ (up : Bool). show_up s w m up (member_over a w m)) down
      ∙ ap (λ (up : Bool). show_up t (look w) m up (member_over b (look w) m)) (sym (down-there w m down))

  -- ---- see

  -- after a call, if the line goes on only once the member has answered
  entry-then : (w : WorldOf A) (m number : ℕ) (bytes : List ℕ) (rest there : List Line) (o : Reached) → ((before : Member) (x : Option Record) → o ≡ answers before x → rest ≡ there)
      → and_lines (entry_reached s w m number bytes o) rest ≡ and_lines (entry_reached t (look w) m number bytes o) there
  entry-then w m number bytes rest there finds_down same = refl
  entry-then w m number bytes rest there (stops kept x) same = refl
  entry-then w m number bytes rest there (answers before x) same =
      ap (λ (ls : List Line). and_lines (entry_reached s w m number bytes (answers before x)) ls) (same before x refl)
      ∙ ap (λ (ls : Lines). and_lines ls there) (entry-text w m number bytes (answers before x))

  -- one entry more, if those after it are the same
  one-more : (n m : ℕ) → ((v : WorldOf A) → IsUp a v m → entries_lines a s n v m ≡ entries_lines b t n (look v) m) → (w : WorldOf A) (call : Option Call) → IsUp a w m
      → and_lines (call_lines a s w m call) (entries_lines a s n (if_called a r w m call) m) ≡ and_lines (call_lines b t (look w) m call) (entries_lines b t n (if_called b r (look w) m call) m)
  one-more n m more w None is = refl
  one-more n m more w (Some (votes bytes)) is = refl
  one-more n m more w (Some (holds bytes)) is = refl
  one-more n m more w (Some runs) is = refl
  one-more n m more w (Some closes) is = refl
  one-more n m more w (Some ends) is = refl
  one-more n m more w (Some turns) is = refl
  one-more n m more w (Some (acks tx)) is = refl
  one-more n m more w (Some (sees number bytes)) is =
      let call = sees number bytes in
      entry-then w m number bytes (entries_lines a s n (called_over a r w m call) m) (entries_lines b t n (called_over b r (look w) m call) m) (reached_over a r w m call)
      (λ before x e. more (called_over a r w m call) (answered-up a r carried.stays w m call before x is e) ∙ ap (λ (v : WorldOf B). entries_lines b t n v m) (called-looks w m call))
      ∙ ap (λ (o : Reached). and_lines (entry_reached t (look w) m number bytes o) (entries_lines b t n (called_over b r (look w) m call) m)) (reached-same w m call)

  entries-look : (n : ℕ) (w : WorldOf A) (m : ℕ) → IsUp a w m → entries_lines a s n w m ≡ entries_lines b t n (look w) m
  entries-look zero w m is = refl
  entries-look (suc n) w m is =
      one-more n m (λ v up. entries-look n v m up) w (next_over a w m) is
      ∙ ap (λ (call : Option Call). and_lines (call_lines b t (look w) m call) (entries_lines b t n (if_called b r (look w) m call) m)) (next-same w m is)

  halted-look : (w : WorldOf A) (m n : ℕ) (fork : Option Fork) → IsUp a w m → see_halted a s w m n fork ≡ see_halted b t (look w) m n fork
  halted-look w m n (Some fork) is = refl
  halted-look w m n None is = ap (λ (ls : List Line). none_taken m ls) (entries-look n w m is)

  see-look : (w : WorldOf A) (m n : ℕ) → IsUp a w m ⊎ IsDown a w m
      → see_up a s w m n (seat_is a.up (slice_get w.seats m)) (member_over a w m) ≡ see_up b t (look w) m n (seat_is b.up (slice_get (placed h 0 w.seats) m)) (member_over b (look w) m)
  see-look w m n (inl is) =
      let member = a.state is.seat in
      ap (λ (up : Bool). see_up a s w m n up (member_over a w m)) (up-is a w m is)
      ∙ ap (λ (o : Option Member). see_up a s w m n true o) (up-member a w m is)
      ∙ halted-look w m (min n (entries_left w (Some member))) (fork_of member) is
      ∙ ap (λ (o : Option Member). see_up b t (look w) m n true o) (sym (up-member a w m is) ∙ member-same w m is)
      ∙ ap (λ (up : Bool). see_up b t (look w) m n up (member_over b (look w) m)) (sym (up-is b (look w) m (up-there w m is)))
  see-look w m n (inr down) =
      ap (λ (up : Bool). see_up a s w m n up (member_over a w m)) down
      ∙ ap (λ (up : Bool). see_up b t (look w) m n up (member_over b (look w) m)) (sym (down-there w m down))

  -- ---- the lines of each line but a restart

  pub lines-look : (w : WorldOf A) (e : Event) → is_restart e ≡ false → lines_over a s w e ≡ lines_over b t (look w) e
  unfolding lines_over
  lines-look w (event.Vote m tx) other = vote-lines w m tx (made_named w tx)
  lines-look w (event.Fvote m tx origins) other = fvote-lines w m tx origins (made_named w tx)
  lines-look w (event.Cert tx members) other = cert-lines w tx members (made_named w tx)
  lines-look w (event.Send m tx) other = ap (λ (text : SendText). line.Send m tx text ∷ []) (send-said w m (cert_named w tx))
  lines-look w (event.Order tx) other = ap (λ (text : OrderText). line.Order tx text ∷ []) (order-text w (cert_named w tx))
  lines-look w (event.OrderEnd m) other = ap (λ (text : OrderEndText). line.OrderEnd m text ∷ []) (end-order-text w m)
  lines-look w (event.See m entries) other = see-look w m entries (stands a w m)
  lines-look w (event.Run m workers) other = run-text w m (reached_over a r w m runs) ∙ ap (λ (o : Reached). run_reached t (look w) m o) (reached-same w m runs)
  lines-look w (event.Close m) other =
      ap (λ (text : CloseText). line.Close m text ∷ []) (close-text w (reached_over a r w m closes) ∙ ap (λ (o : Reached). close_reached t (look w) o) (reached-same w m closes))
  lines-look w (event.End m) other =
      ap (λ (text : EndText). line.End m text ∷ []) (end-text w (reached_over a r w m ends) ∙ ap (λ (o : Reached). end_reached t (look w) o) (reached-same w m ends))
  lines-look w (event.Turn m) other = turn-text w m (reached_over a r w m turns) ∙ ap (λ (o : Reached). turn_reached t (look w) m o) (reached-same w m turns)
  lines-look w (event.Show m) other = show-look w m (stands a w m)
  lines-look w (event.Restart m) other = absurd (cc)
  lines-look w (event.RawVote m bytes) other = ap (λ (text : VoteText). line.RawVote m text ∷ []) (vote-said w m bytes)
  lines-look w (event.RawHold m bytes) other = ap (λ (text : SendText). line.RawHold m text ∷ []) (hold-said w m bytes)
  lines-look w (event.Ack m tx spoiled) other = ack-lines w m tx (made_named w tx)
  lines-look w (event.Final tx members) other = final-look w tx members (made_named w tx)
  lines-look w e other = refl
