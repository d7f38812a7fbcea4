-- What a call on one member keeps of all seats, and what a line does, if the seats that it reaches are known.
use Rattle.std.proofs.Common.{refl, subst}
use Rattle.std.specs.Prelude.{◌≡◌, ℕ, zero, suc, min, Bool, true, false, cond, List, [], ◌∷◌, ◌++◌, slice_get, Option, Some, None, option_map, option_and_then}
use Rattle.chain_messages.specs.declared.messages.Entry.{Entry}
use Rattle.journal_core.specs.declared.records.Record.{Record}
use Rattle.schedule_text.specs.declared.words.Event.{Event}
use Rattle.protocol_spec.proofs.ListLemmas.{each_at, each_join}
use Rattle.protocol_spec.specs.Chain.Words.{Each}
use Rattle.protocol_spec.specs.Member.Member.{state}
use Rattle.protocol_spec.specs.Member.Calls.{Call, acks, due}
use Rattle.world_spec.specs.Setting.{Setting}
use Rattle.world_spec.specs.World.{Seat, Made, World, Reached, finds_down, stops, answers, by_records, member_in, reached_seat, stopped_seat, appended, behind, called_seat, called_in, called_if, called_over, is_honest, member_at, next_call, next_call_of, next_entry, numbered_call, state_of}
use Rattle.world_spec.specs.Names.{made_named}
use Rattle.world_spec.specs.Moves.{Move, requests, delivers, claims, claims_ack, requested, move_of}
use Rattle.world_spec.specs.Step.{acked, entries_left, false_ack, happens, happens_over, moved, says}
use Rattle.world_spec.specs.Assumptions.{call_list, see_calls}
use Rattle.safety_law.proofs.InWorld.{each-set, kept-move, stopped-due, answered-due}

module _ (s : Setting) (P : List Record → Type 0) (w : World) (call : Call)
    (keeps : (m : ℕ) (seat : Seat) → slice_get w.seats m ≡ Some seat → (x : Record) → due s.rules (member_in s seat) call ≡ Some x → P seat.records → P (seat.records ++ x ∷ [])) where
  abbrev pub AllSeats : List Seat → Type 0
  AllSeats seats = Each (λ (seat : Seat). P seat.records) seats

  module _ (m : ℕ) (seat : Seat) (at : slice_get w.seats m ≡ Some seat) where
    stopped-keeps : (kept : Bool) (x : Record) → due s.rules (member_in s seat) call ≡ Some x → P seat.records → P (stopped_seat seat kept x).records
    stopped-keeps true x d p = keeps m seat at x d p
    stopped-keeps false x d p = p

    answered-keeps : (x : Option Record) → due s.rules (member_in s seat) call ≡ x → P seat.records → P (appended seat.records x)
    answered-keeps None d p = p
    answered-keeps (Some x) d p = keeps m seat at x d p

    behind-keeps : (r : Reached) → reached_seat s call seat ≡ r → AllSeats w.seats → AllSeats (behind s w m call seat r).seats
    behind-keeps finds_down e all = all
    behind-keeps (stops kept x) e all = each-set (λ (y : Seat). P y.records) w.seats m (stopped_seat seat kept x) all
        (stopped-keeps kept x (stopped-due s (λ call. Unit {0}) (λ records. Unit {0}) (λ records call x g d p. tt) seat call kept x e) (each_at (λ (y : Seat). P y.records) w.seats m seat all at))
    behind-keeps (answers before x) e all = each-set (λ (y : Seat). P y.records) w.seats m (record seat { records = appended seat.records x }) all
        (answered-keeps x (answered-due s (λ call. Unit {0}) (λ records. Unit {0}) (λ records call x g d p. tt) seat call before x e) (each_at (λ (y : Seat). P y.records) w.seats m seat all at))

  seat-keeps : (m : ℕ) (seat : Option Seat) → slice_get w.seats m ≡ seat → AllSeats w.seats → AllSeats (called_seat s w m call seat).seats
  seat-keeps m None at all = all
  seat-keeps m (Some seat) at all = behind-keeps m seat at (reached_seat s call seat) refl all

  pub one-call : (m : ℕ) → AllSeats w.seats → AllSeats (called_in s w m call).seats
  unfolding called_over
  one-call m all = seat-keeps m (slice_get w.seats m) refl all

-- ---- a line

-- the call of a `see` line
abbrev IsSeen : Call → Type 0
IsSeen call = (number : ℕ) × (e : Entry) × (call ≡ numbered_call number e)

seen-next : (number : ℕ) (e : Option Entry) → Each IsSeen (call_list (option_map (numbered_call number) e))
seen-next number None = tt
seen-next number (Some e) = ((number, e, refl), tt)

seen-at : (s : Setting) (w : World) (seat : Option Seat) → Each IsSeen (call_list (option_and_then (next_call_of w) (option_and_then (state_of s) seat)))
seen-at s w None = tt
seen-at s w (Some seat) = seen-next (member_in s seat).sequence.number (next_entry w (member_in s seat))

seen-all : (s : Setting) (n : ℕ) (w : World) (m : ℕ) → Each IsSeen (see_calls s n w m)
seen-all s zero w m = tt
seen-all s (suc n) w m = each_join IsSeen (call_list (next_call s w m)) (see_calls s n (called_if s w m (next_call s w m)) m) (seen-at s w (slice_get w.seats m)) (seen-all s n (called_if s w m (next_call s w m)) m)

-- each call keeps P at the seats of this world, and the call of an entry keeps it at any
module _ (s : Setting) (P : List Record → Type 0) (w : World)
    (here : (call : Call) (m : ℕ) (seat : Seat) → slice_get w.seats m ≡ Some seat → (x : Record) → due s.rules (member_in s seat) call ≡ Some x → P seat.records → P (seat.records ++ x ∷ []))
    (entered : (number : ℕ) (e : Entry) (records : List Record) (x : Record) → due s.rules (state s.rules s.opening records) (numbered_call number e) ≡ Some x → P records → P (records ++ x ∷ [])) where
  seen-keeps : (records : List Record) (call : Call) (x : Record) → IsSeen call → due s.rules (state s.rules s.opening records) call ≡ Some x → P records → P (records ++ x ∷ [])
  seen-keeps records call x (number, e, is) d p = entered number e records x (subst (λ (c : Call). due s.rules (state s.rules s.opening records) c ≡ Some x) is d) p

  abbrev Seats : World → Type 0
  Seats v = Each (λ (seat : Seat). P seat.records) v.seats

  one-asked : (m : ℕ) (call : Option Call) → Seats w → Seats (called_if s w m call)
  one-asked m None all = all
  one-asked m (Some call) all = one-call s P w call (here call) m all

  one-if : (b : Bool) (v u : World) → Seats v → Seats u → Seats (cond b v u)
  one-if true v u one other = one
  one-if false v u one other = other

  one-acked : (m : ℕ) (spoiled : Bool) (t : Option Made) → Seats w → Seats (acked s w m spoiled t)
  one-acked m spoiled None all = all
  one-acked m spoiled (Some t) all = one-if (is_honest w m) (called_in s w m (acks t.digest)) (says s.seal w m (false_ack s w t spoiled)) (one-call s P w (acks t.digest) (here (acks t.digest)) m all) all

  one-move : (mv : Move) → Seats w → Seats (moved (by_records s) s w mv)
  one-move (requests m ask) all = one-asked m (requested w ask) all
  one-move (delivers m entries) all = kept-move s IsSeen P seen-keeps w (delivers m entries) (seen-all s (min entries (entries_left w (member_at s w m))) w m) all
  one-move (claims m tx (claims_ack spoiled)) all = one-acked m spoiled (made_named w tx) all
  one-move mv all = kept-move s IsSeen P seen-keeps w mv tt all

  pub one-line : (e : Event) → Seats w → Seats (happens s w e)
  unfolding happens_over
  one-line e all = one-move (move_of e) all
