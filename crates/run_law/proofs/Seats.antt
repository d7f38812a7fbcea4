-- A restart keeps the records of each seat.
use Rattle.std.proofs.Common.{refl, ap, ◌∙◌}
use Rattle.std.specs.Prelude.{◌≡◌, ℕ, zero, suc, List, [], ◌∷◌, slice_get, slice_set, Option, Some, None, option_and_then}
use Rattle.schedule_text.specs.declared.words.Event.TheVariants as event
use Rattle.protocol_spec.specs.Chain.Certificates.{Rules}
use Rattle.protocol_spec.specs.Member.Member.{Member}
use Rattle.protocol_spec.specs.Member.Calls.{Call, due, called, after_due}
use Rattle.world_spec.specs.Setting.{Setting}
use Rattle.world_spec.specs.World.{Seat, World, member_in, state_of, member_at, started_seat}
use Rattle.world_spec.specs.Step.{happens, on_seat, happens_over}

-- a seat with the same records has the same state
same-states : (s : Setting) (seats : List Seat) (m n : ℕ) (old new : Seat) → slice_get seats m ≡ Some old → member_in s new ≡ member_in s old → option_and_then (state_of s) (slice_get (slice_set seats m new) n) ≡ option_and_then (state_of s) (slice_get seats n)
same-states s [] m n old new e same = refl
same-states s (x ∷ seats) zero zero old new e same = ap Some (same ∙ ap (member_in s) (back x old e))
  where
    back : (x old : Seat) → Some x ≡ Some old → old ≡ x
    back x old e = cc
same-states s (x ∷ seats) zero (suc n) old new e same = refl
same-states s (x ∷ seats) (suc m) zero old new e same = refl
same-states s (x ∷ seats) (suc m) (suc n) old new e same = same-states s seats m n old new e same

on-seat : (s : Setting) (w : World) (m n : ℕ) (seat : Option Seat) → slice_get w.seats m ≡ seat → member_at s (on_seat w m started_seat seat) n ≡ member_at s w n
on-seat s w m n None e = refl
on-seat s w m n (Some seat) e = same-states s w.seats m n seat (started_seat seat) e refl

pub restarted : (s : Setting) (w : World) (m n : ℕ) → member_at s (happens s w (event.Restart m)) n ≡ member_at s w n
unfolding happens_over
restarted s w m n = on-seat s w m n (slice_get w.seats m) refl

pub no-record : (r : Rules) (m : Member) (call : Call) → due r m call ≡ None → called r m call ≡ m
no-record r m call e = ap (after_due r m) e
