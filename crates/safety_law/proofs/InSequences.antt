-- What holds of no records, is kept by each record that is due, and is kept when the world's sequences grow holds
-- of every seat of every run, with the sequences at the run's end.
use Rattle.std.proofs.Common.{refl, sym, subst}
use Rattle.std.specs.Prelude.{◌≡◌, ℕ, zero, suc, min, Bool, true, false, List, [], ◌∷◌, ◌++◌, slice_get, Option, Some, None, option_map, option_and_then, if◌then◌else◌}
use Rattle.chain_types.specs.Transactions as transactions
use Rattle.chain_messages.specs.Messages as messages
use Rattle.chain_messages.specs.declared.messages.Certificate.{Certificate}
use Rattle.chain_messages.specs.declared.messages.Entry.{Entry}
use Rattle.journal_core.specs.declared.records.Record.{Record}
use Rattle.schedule_text.specs.declared.words.Event.{Event}
use Rattle.protocol_spec.proofs.ListLemmas.{each_as, each_at}
use Rattle.protocol_spec.specs.Chain.Words.{Each}
use Rattle.protocol_spec.specs.Member.Member.{Member, state}
use Rattle.protocol_spec.specs.Member.Calls.{Call, votes, holds, sees, runs, closes, ends, turns, acks, due}
use Rattle.world_spec.specs.Setting.{Setting}
use Rattle.world_spec.specs.World.{Seat, Made, World, Reached, finds_down, stops, answers, new_world, member_in, state_of, by_records, reached_seat, stopped_seat, appended, behind, called_seat, called_in, called_if, sees_on, next_call_of, next_call, numbered_call, entries_at, member_at, called_over}
use Rattle.world_spec.specs.Names.{made_named, cert_named}
use Rattle.world_spec.specs.Moves.{Move, requests, delivers, claims, vote_named, hold_named, direct, claims_ack, move_of}
use Rattle.world_spec.specs.Step.{happens, entries_left, moved, happens_over}
use Rattle.world_spec.specs.Run.{run, world_after}
use Rattle.world_spec.specs.Assumptions.{vote_call, send_call, ack_call, calls_by}
use Rattle.safety_law.proofs.InWorld.{each-set, kept-move, new-seats, stopped-due, answered-due}
use Rattle.safety_law.proofs.Growth.{Grown, grows-move, called_if-same}
use Rattle.safety_law.proofs.Steps.{HandsNoEntry, no-entry}

-- a call with an entry has the bytes of the next one of the member's epoch
abbrev pub Comes : List (List Entry) → Member → Call → Type 0
Comes sequences m (votes bytes) = Unit {0}
Comes sequences m (holds bytes) = Unit {0}
Comes sequences m (sees number bytes) = (e : Entry) × (slice_get (entries_at sequences m.epoch) m.sequence.number ≡ Some e) × (bytes ≡ messages.entry.spell e)
Comes sequences m runs = Unit {0}
Comes sequences m closes = Unit {0}
Comes sequences m ends = Unit {0}
Comes sequences m turns = Unit {0}
Comes sequences m (acks tx) = Unit {0}

module _ (s : Setting) (P : List (List Entry) → List Record → Type 0)
    (more : (old new : List (List Entry)) (records : List Record) → Grown old new → P old records → P new records)
    (step : (sequences : List (List Entry)) (records : List Record) (call : Call) (x : Record) → Comes sequences (state s.rules s.opening records) call → due s.rules (state s.rules s.opening records) call ≡ Some x → P sequences records → P sequences (records ++ x ∷ [])) where
  -- with these sequences at every seat
  abbrev With : List (List Entry) → List Seat → Type 0
  With sequences seats = Each (λ (seat : Seat). P sequences seat.records) seats

  abbrev AllSeats : World → Type 0
  AllSeats w = With w.sequences w.seats

  -- a call that keeps P with these sequences
  abbrev Keeps : List (List Entry) → Call → Type 0
  Keeps sequences call = (records : List Record) (x : Record) → due s.rules (state s.rules s.opening records) call ≡ Some x → P sequences records → P sequences (records ++ x ∷ [])

  -- ---- the call of a `see` line

  module _ (sequences : List (List Entry)) (w : World) (m : ℕ) (call : Call) (seat : Seat) (at : slice_get w.seats m ≡ Some seat)
      (keeps : (x : Record) → due s.rules (member_in s seat) call ≡ Some x → P sequences seat.records → P sequences (seat.records ++ x ∷ [])) where
    kept-stop : (kept : Bool) (x : Record) → due s.rules (member_in s seat) call ≡ Some x → P sequences seat.records → P sequences (stopped_seat seat kept x).records
    kept-stop true x d p = keeps x d p
    kept-stop false x d p = p

    kept-answer : (x : Option Record) → due s.rules (member_in s seat) call ≡ x → P sequences seat.records → P sequences (appended seat.records x)
    kept-answer None d p = p
    kept-answer (Some x) d p = keeps x d p

    kept-behind : (r : Reached) → reached_seat s call seat ≡ r → With sequences w.seats → With sequences (behind s w m call seat r).seats
    kept-behind finds_down e all = all
    kept-behind (stops kept x) e all = each-set (λ (y : Seat). P sequences y.records) w.seats m (stopped_seat seat kept x) all
        (kept-stop kept x (stopped-due s (Keeps sequences) (P sequences) (λ records call x g d p. g records x d p) seat call kept x e) (each_at (λ (y : Seat). P sequences y.records) w.seats m seat all at))
    kept-behind (answers before x) e all = each-set (λ (y : Seat). P sequences y.records) w.seats m (record seat { records = appended seat.records x }) all
        (kept-answer x (answered-due s (Keeps sequences) (P sequences) (λ records call x g d p. g records x d p) seat call before x e) (each_at (λ (y : Seat). P sequences y.records) w.seats m seat all at))

    kept-called : With sequences w.seats → With sequences (called_in s w m call).seats
    unfolding called_over
    kept-called all = subst (λ (o : Option Seat). With sequences (called_seat s w m call o).seats) (sym at) (kept-behind (reached_seat s call seat) refl all)

  sees-entry : (w : World) (m : ℕ) (seat : Seat) → slice_get w.seats m ≡ Some seat → (ended : Bool) (e : Option Entry) → slice_get (entries_at w.sequences (member_in s seat).epoch) (member_in s seat).sequence.number ≡ e → AllSeats w
      → With w.sequences (called_if s w m (option_map (numbered_call (member_in s seat).sequence.number) (if ended then None else e))).seats
  sees-entry w m seat at true e next all = all
  sees-entry w m seat at false None next all = all
  sees-entry w m seat at false (Some e) next all = kept-called w.sequences w m (numbered_call (member_in s seat).sequence.number e) seat at
      (λ x d p. step w.sequences seat.records (numbered_call (member_in s seat).sequence.number e) x (e, next, refl) d p) all

  sees-one : (w : World) (m : ℕ) (seat : Option Seat) → slice_get w.seats m ≡ seat → AllSeats w → With w.sequences (called_if s w m (option_and_then (next_call_of w) (option_and_then (state_of s) seat))).seats
  sees-one w m None at all = all
  sees-one w m (Some seat) at all = sees-entry w m seat at (member_in s seat).sequence.ended (slice_get (entries_at w.sequences (member_in s seat).epoch) (member_in s seat).sequence.number) refl all

  sees-all : (n : ℕ) (w : World) (m : ℕ) → AllSeats w → AllSeats (sees_on s n w m)
  sees-all zero w m all = all
  sees-all (suc n) w m all = sees-all n (called_if s w m (next_call s w m)) m
      (subst (λ (qs : List (List Entry)). With qs (called_if s w m (next_call s w m)).seats) (sym (called_if-same s w m (next_call s w m))) (sees-one w m (slice_get w.seats m) refl all))

  -- ---- the other lines

  other : (w : World) (mv : Move) → Each (Keeps w.sequences) (calls_by s w mv) → AllSeats w → AllSeats (moved (by_records s) s w mv)
  other w mv keeps all =
      let next = moved (by_records s) s w mv in
      each_as (λ (seat : Seat). P w.sequences seat.records) (λ (seat : Seat). P next.sequences seat.records) next.seats
      (λ seat p. more w.sequences next.sequences seat.records (grows-move s w mv) p)
      (kept-move s (Keeps w.sequences) (P w.sequences) (λ records call x g d p. g records x d p) w mv keeps all)

  keeps-voted : (w : World) (t : Option Made) → Each (Keeps w.sequences) (vote_call t)
  keeps-voted w None = tt
  keeps-voted w (Some t) = (λ records x d p. step w.sequences records (votes (transactions.signed.spell t.signed)) x tt d p, tt)

  keeps-sent : (w : World) (c : Option Certificate) → Each (Keeps w.sequences) (send_call c)
  keeps-sent w None = tt
  keeps-sent w (Some c) = (λ records x d p. step w.sequences records (holds (messages.certificate.spell c)) x tt d p, tt)

  keeps-acked : (w : World) (t : Option Made) → Each (Keeps w.sequences) (ack_call t)
  keeps-acked w None = tt
  keeps-acked w (Some t) = (λ records x d p. step w.sequences records (acks t.digest) x tt d p, tt)

  kept-move-of : (w : World) (mv : Move) → HandsNoEntry mv → AllSeats w → AllSeats (moved (by_records s) s w mv)
  kept-move-of w (requests m (vote_named tx)) own all = other w (requests m (vote_named tx)) (keeps-voted w (made_named w tx)) all
  kept-move-of w (requests m (hold_named tx)) own all = other w (requests m (hold_named tx)) (keeps-sent w (cert_named w tx)) all
  kept-move-of w (requests m (direct (sees number bytes))) own all = absurd own
  kept-move-of w (requests m (direct call)) own all = other w (requests m (direct call)) (λ records x d p. step w.sequences records call x tt d p, tt) all
  kept-move-of w (delivers m entries) own all = sees-all (min entries (entries_left w (member_at s w m))) w m all
  kept-move-of w (claims m tx (claims_ack spoiled)) own all = other w (claims m tx (claims_ack spoiled)) (keeps-acked w (made_named w tx)) all
  kept-move-of w mv own all = other w mv tt all

  kept : (w : World) (e : Event) → AllSeats w → AllSeats (happens s w e)
  unfolding happens_over
  kept w e all = kept-move-of w (move_of e) (no-entry e) all

  kept-run : (events : List Event) (w : World) → AllSeats w → AllSeats (run s events w)
  kept-run [] w all = all
  kept-run (e ∷ events) w all = kept-run events (happens s w e) (kept w e all)

  pub in_sequences : P ([] ∷ []) [] → (events : List Event) (m : ℕ) (seat : Seat) → slice_get (world_after s events).seats m ≡ Some seat → P (world_after s events).sequences seat.records
  unfolding world_after new_world
  in_sequences none events m seat e = each_at (λ (y : Seat). P (run s events (new_world s)).sequences y.records) (run s events (new_world s)).seats m seat
      (kept-run events (new_world s) (new-seats s (Keeps ([] ∷ [])) (P ([] ∷ [])) (λ records call x g d p. g records x d p) s.honest none)) e
