-- A run with no line that stops or starts a member: each member stands, as it did at first.
use Rattle.std.proofs.Common.{◌≡◌, ℕ, zero, suc, min, Bool, true, false, cond, List, [], ◌∷◌, map, slice_get, slice_set, Option, Some, None, refl}
use Rattle.journal_core.specs.declared.records.Record.{Record}
use Rattle.chain_messages.specs.declared.messages.Certificate.{Certificate}
use Rattle.schedule_text.specs.declared.words.Event.{Event}
use Rattle.protocol_spec.specs.Chain.Collecting.{Collected, lacks, short, differ, whole}
use Rattle.protocol_spec.specs.Chain.Words.{Each}
use Rattle.protocol_spec.specs.Member.Calls.{Call, acks, due}
use Rattle.world_spec.specs.Setting.{Name, Setting}
use Rattle.world_spec.specs.World.{Made, Seat, World, behind, by_records, called_if, called_in, called_seat, finds_down, is_honest, member_at, member_in, new_seat, next_call, reached_up, sees_on, called_over}
use Rattle.world_spec.specs.Names.{made_named, cert_named}
use Rattle.world_spec.specs.Making.{made_over}
use Rattle.world_spec.specs.Moves.{Move, looks_on, makes_tx, requests, delivers, claims, certifies, submits, submits_end, arms_stop, starts_again, claims_vote, claims_ack, cert_submitted, mark_submitted, move_of, requested}
use Rattle.world_spec.specs.Step.{acked, end_in, end_ordered, entries_left, formed, formed_as, fvoted, happens, honest_end, last_said, moved, ordered, ordered_end, risen_if, votes_collected, happens_over}
use Rattle.world_spec.specs.Run.{run}

-- the move neither stops nor starts a member
abbrev pub IsQuietMove : Move → Type 0
IsQuietMove (arms_stop m kept) = ⊥
IsQuietMove (starts_again m) = ⊥
IsQuietMove mv = Unit {0}

-- nor does the line
abbrev pub IsQuiet : Event → Type 0
IsQuiet e = IsQuietMove (move_of e)

-- the member is honest as this says, up, and no stop is armed
abbrev pub IsStanding : Bool → Seat → Type 0
IsStanding honest seat = (seat.honest ≡ honest) × (seat.up ≡ true) × (seat.armed ≡ None)

abbrev pub AreStanding : List Bool → List Seat → Type 0
AreStanding [] [] = Unit {0}
AreStanding [] (seat ∷ seats) = ⊥
AreStanding (honest ∷ flags) [] = ⊥
AreStanding (honest ∷ flags) (seat ∷ seats) = IsStanding honest seat × AreStanding flags seats

pub first-standing : (flags : List Bool) → AreStanding flags (map new_seat flags)
first-standing [] = tt
first-standing (honest ∷ flags) = ((refl, refl, refl), first-standing flags)

unarmed-at : (flags : List Bool) (seats : List Seat) (m : ℕ) (seat : Seat) → AreStanding flags seats → slice_get seats m ≡ Some seat → seat.armed ≡ None
unarmed-at [] [] m seat all h = absurd (cc)
unarmed-at [] (x ∷ seats) m seat all h = absurd all
unarmed-at (honest ∷ flags) [] m seat all h = absurd (cc)
unarmed-at (honest ∷ flags) (x ∷ seats) zero seat all h = same x seat h all.0.2
  where
    same : (x seat : Seat) → Some x ≡ Some seat → x.armed ≡ None → seat.armed ≡ None
    same x seat h e = cc
unarmed-at (honest ∷ flags) (x ∷ seats) (suc m) seat all h = unarmed-at flags seats m seat all.1 h

standing-set : (flags : List Bool) (seats : List Seat) (m : ℕ) (seat new : Seat) → slice_get seats m ≡ Some seat → ((honest : Bool) → IsStanding honest seat → IsStanding honest new)
    → AreStanding flags seats → AreStanding flags (slice_set seats m new)
standing-set [] [] m seat new h same all = all
standing-set [] (x ∷ seats) m seat new h same all = absurd all
standing-set (honest ∷ flags) [] m seat new h same all = absurd all
standing-set (honest ∷ flags) (x ∷ seats) zero seat new h same all = (same honest (carried x seat h all.0), all.1)
  where
    carried : (x seat : Seat) → Some x ≡ Some seat → IsStanding honest x → IsStanding honest seat
    carried x seat h (a, b, c) = (cc (h, a), cc (h, b), cc (h, c))
standing-set (honest ∷ flags) (x ∷ seats) (suc m) seat new h same all = (all.0, standing-set flags seats m seat new h same all.1)

-- ---- a step

module _ (s : Setting) (flags : List Bool) where
  abbrev Stand : World → Type 0
  Stand w = AreStanding flags w.seats

  step-behind : (w : World) (m : ℕ) (call : Call) (seat : Seat) (up : Bool) (armed : Option Bool) (x : Option Record) → slice_get w.seats m ≡ Some seat → armed ≡ None
      → Stand w → Stand (behind s w m call seat (cond up (reached_up (member_in s seat) armed x) finds_down))
  step-behind w m call seat false armed x at free q = q
  step-behind w m call seat true None x at free q = standing-set flags w.seats m seat _ at (λ honest stands. stands) q
  step-behind w m call seat true (Some kept) x at free q = absurd (cc)

  step-called_seat : (w : World) (m : ℕ) (call : Call) (seat : Option Seat) → slice_get w.seats m ≡ seat → Stand w → Stand (called_seat s w m call seat)
  step-called_seat w m call None at q = q
  step-called_seat w m call (Some seat) at q = step-behind w m call seat seat.up seat.armed (due s.rules (member_in s seat) call) at (unarmed-at flags w.seats m seat q at) q

  step-called : (w : World) (m : ℕ) (call : Call) → Stand w → Stand (called_in s w m call)
  unfolding called_over
  step-called w m call q = step-called_seat w m call (slice_get w.seats m) refl q

  step-called_if : (w : World) (m : ℕ) (call : Option Call) → Stand w → Stand (called_if s w m call)
  step-called_if w m None q = q
  step-called_if w m (Some call) q = step-called w m call q

  step-sees : (n : ℕ) (w : World) (m : ℕ) → Stand w → Stand (sees_on s n w m)
  step-sees zero w m q = q
  step-sees (suc n) w m q = step-sees n (called_if s w m (next_call s w m)) m (step-called_if w m (next_call s w m) q)

  step-if : (b : Bool) (v w : World) → Stand v → Stand w → Stand (cond b v w)
  step-if true v w one other = one
  step-if false v w one other = other

  step-fvoted : (w : World) (m : ℕ) (words : List (Option Name)) (t : Option Made) → Stand w → Stand (fvoted s w m words t)
  step-fvoted w m words None q = q
  step-fvoted w m words (Some t) q = step-if (is_honest w m) _ _ q q

  step-formed_as : (w : World) (t : Made) (ms : List ℕ) (c : Collected) → Stand w → Stand (formed_as w t ms c)
  step-formed_as w t ms (lacks m) q = q
  step-formed_as w t ms (short weight total) q = q
  step-formed_as w t ms (differ a b) q = q
  step-formed_as w t ms whole q = q

  step-formed : (w : World) (ms : List ℕ) (t : Option Made) → Stand w → Stand (formed s w ms t)
  step-formed w ms None q = q
  step-formed w ms (Some t) q = step-formed_as w t ms (votes_collected s w t ms) q

  step-ordered : (w : World) (c : Option Certificate) → Stand w → Stand (ordered w c)
  step-ordered w None q = q
  step-ordered w (Some c) q = step-if _ _ _ q q

  step-risen : (b : Bool) (w : World) → Stand w → Stand (risen_if b w)
  step-risen true w q = q
  step-risen false w q = q

  step-end : (w : World) (m epoch : ℕ) → Stand w → Stand (ordered_end s w m epoch)
  step-end w m epoch q = step-risen _ _ q

  step-honest_end : (w : World) (m : ℕ) (epoch : Option ℕ) → Stand w → Stand (honest_end s w m epoch)
  step-honest_end w m None q = q
  step-honest_end w m (Some epoch) q = step-if _ _ _ (step-end w m epoch q) q

  step-end_ordered : (w : World) (m : ℕ) → Stand w → Stand (end_ordered s w m)
  step-end_ordered w m q = step-if (is_honest w m) _ _ (step-honest_end w m (last_said end_in m w.said) q) (step-end _ m w.epoch q)

  step-acked : (w : World) (m : ℕ) (spoiled : Bool) (t : Option Made) → Stand w → Stand (acked s w m spoiled t)
  step-acked w m spoiled None q = q
  step-acked w m spoiled (Some t) q = step-if (is_honest w m) _ _ (step-called w m (acks t.digest) q) q

  step-move : (w : World) (mv : Move) → IsQuietMove mv → Stand w → Stand (moved (by_records s) s w mv)
  unfolding made_over
  step-move w looks_on quiet q = q
  step-move w (makes_tx l) quiet q = q
  step-move w (requests m ask) quiet q = step-called_if w m (requested w ask) q
  step-move w (delivers m entries) quiet q = step-sees (min entries (entries_left w (member_at s w m))) w m q
  step-move w (claims m tx (claims_vote origins)) quiet q = step-fvoted w m origins (made_named w tx) q
  step-move w (claims m tx (claims_ack spoiled)) quiet q = step-acked w m spoiled (made_named w tx) q
  step-move w (certifies tx members) quiet q = step-formed w members (made_named w tx) q
  step-move w (submits (cert_submitted tx)) quiet q = step-ordered w (cert_named w tx) q
  step-move w (submits mark_submitted) quiet q = q
  step-move w (submits_end m) quiet q = step-end_ordered w m q
  step-move w (arms_stop m kept) quiet q = absurd quiet
  step-move w (starts_again m) quiet q = absurd quiet

  step-happens : (w : World) (e : Event) → IsQuiet e → Stand w → Stand (happens s w e)
  unfolding happens_over
  step-happens w e quiet q = step-move w (move_of e) quiet q

  -- each member stands after lines that stop and start none
  pub run-standing : (events : List Event) (w : World) → Each IsQuiet events → Stand w → Stand (run s events w)
  run-standing [] w quiet q = q
  run-standing (e ∷ events) w quiet q = run-standing events (happens s w e) quiet.1 (step-happens w e quiet.0 q)
