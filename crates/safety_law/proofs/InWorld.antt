-- What holds of no records and is kept by each record that is due holds of every seat of every run.
use Rattle.std.proofs.Common.{refl, sym, subst, ◌∙◌}
use Rattle.std.specs.Prelude.{◌≡◌, ℕ, zero, suc, Bool, true, false, cond, List, [], ◌∷◌, ◌++◌, map, slice_get, slice_set, Option, Some, None}
use Rattle.journal_core.specs.declared.records.Record.{Record}
use Rattle.schedule_text.specs.declared.words.Event.{Event}
use Rattle.protocol_spec.proofs.ListLemmas.{each_front, each_back, each_at}
use Rattle.protocol_spec.specs.Chain.Words.{Each}
use Rattle.protocol_spec.specs.Member.Member.{Member, state}
use Rattle.protocol_spec.specs.Member.Calls.{Call, due}
use Rattle.world_spec.specs.Setting.{Setting}
use Rattle.world_spec.specs.World.{Seat, World, Reached, finds_down, stops, answers, new_seat, new_world, member_in, reached_up, reached_seat, appended, stopped_seat, by_records, with_seat, behind, called_seat, called_in, called_over}
use Rattle.world_spec.specs.Moves.{Move}
use Rattle.world_spec.specs.Step.{happens, moved}
use Rattle.world_spec.specs.Run.{run, world_after}
use Rattle.world_spec.specs.Assumptions.{calls_by, calls_of, all_of}
use Rattle.safety_law.proofs.Steps.{Keeps, AllGiven, step-line, step-move}

-- one element of a list is another
pub each-set : {A : Type 0} (P : A → Type 0) (xs : List A) (m : ℕ) (x : A) → Each P xs → P x → Each P (slice_set xs m x)
each-set P [] m x each one = tt
each-set P (y ∷ ys) zero x each one = (one, each.1)
each-set P (y ∷ ys) (suc m) x each one = (each.0, each-set P ys m x each.1 one)

module _ (s : Setting) (Given : Call → Type 0) (P : List Record → Type 0) (step : (records : List Record) (call : Call) (x : Record) → Given call → due s.rules (state s.rules s.opening records) call ≡ Some x → P records → P (records ++ x ∷ [])) where
  abbrev pub AllSeats : World → Type 0
  AllSeats w = Each (λ (seat : Seat). P seat.records) w.seats

  -- what a call does to a seat
  pub stopped-due : (seat : Seat) (call : Call) (kept : Bool) (x : Record) → reached_seat s call seat ≡ stops kept x → due s.rules (member_in s seat) call ≡ Some x
  stopped-due seat call kept x e = go seat.up seat.armed (due s.rules (member_in s seat) call) refl e
    where
      go : (up : Bool) (armed : Option Bool) (y : Option Record) → due s.rules (member_in s seat) call ≡ y → cond up (reached_up (member_in s seat) armed y) finds_down ≡ stops kept x → due s.rules (member_in s seat) call ≡ Some x
      go false armed y d e = absurd (cc)
      go true None y d e = absurd (cc)
      go true (Some k) None d e = absurd (cc)
      go true (Some k) (Some z) d e = d ∙ same k z e
        where
          same : (k : Bool) (z : Record) → stops k z ≡ stops kept x → Some z ≡ Some x
          same k z e = cc

  pub answered-due : (seat : Seat) (call : Call) (m : Member) (x : Option Record) → reached_seat s call seat ≡ answers m x → due s.rules (member_in s seat) call ≡ x
  answered-due seat call m x e = go seat.up seat.armed (due s.rules (member_in s seat) call) refl e
    where
      go : (up : Bool) (armed : Option Bool) (y : Option Record) → due s.rules (member_in s seat) call ≡ y → cond up (reached_up (member_in s seat) armed y) finds_down ≡ answers m x → due s.rules (member_in s seat) call ≡ x
      go false armed y d e = absurd (cc)
      go true None y d e = d ∙ same y e
        where
          same : (y : Option Record) → answers (member_in s seat) y ≡ answers m x → y ≡ x
          same y e = cc
      go true (Some k) None d e = d ∙ same e
        where
          same : answers (member_in s seat) None ≡ answers m x → None ≡ x
          same e = cc
      go true (Some k) (Some z) d e = absurd (cc)

  kept-stop : (seat : Seat) (call : Call) (kept : Bool) (x : Record) → Given call → due s.rules (member_in s seat) call ≡ Some x → P seat.records → P (stopped_seat seat kept x).records
  kept-stop seat call true x g d p = step seat.records call x g d p
  kept-stop seat call false x g d p = p

  kept-answer : (seat : Seat) (call : Call) (x : Option Record) → Given call → due s.rules (member_in s seat) call ≡ x → P seat.records → P (appended seat.records x)
  kept-answer seat call None g d p = p
  kept-answer seat call (Some x) g d p = step seat.records call x g d p

  kept-behind : (w : World) (m : ℕ) (call : Call) (seat : Seat) (r : Reached) → Given call → reached_seat s call seat ≡ r → P seat.records → AllSeats w → AllSeats (behind s w m call seat r)
  kept-behind w m call seat finds_down g e p all = all
  kept-behind w m call seat (stops kept x) g e p all = each-set (λ (y : Seat). P y.records) w.seats m (stopped_seat seat kept x) all (kept-stop seat call kept x g (stopped-due seat call kept x e) p)
  kept-behind w m call seat (answers before x) g e p all = each-set (λ (y : Seat). P y.records) w.seats m (record seat { records = appended seat.records x }) all (kept-answer seat call x g (answered-due seat call before x e) p)

  kept-called_seat : (w : World) (m : ℕ) (call : Call) (seat : Option Seat) → Given call → slice_get w.seats m ≡ seat → AllSeats w → AllSeats (called_seat s w m call seat)
  kept-called_seat w m call None g e all = all
  kept-called_seat w m call (Some seat) g e all = kept-behind w m call seat (reached_seat s call seat) g refl (each_at (λ (y : Seat). P y.records) w.seats m seat all e) all

  pub kept-called : (w : World) (m : ℕ) (call : Call) → Given call → AllSeats w → AllSeats (called_in s w m call)
  unfolding called_over
  kept-called w m call g all = kept-called_seat w m call (slice_get w.seats m) g refl all

  pub set-kept : (w : World) (m : ℕ) (seat new : Seat) → slice_get w.seats m ≡ Some seat → new.records ≡ seat.records → AllSeats w → AllSeats (with_seat w m new)
  set-kept w m seat new at same all = each-set (λ (y : Seat). P y.records) w.seats m new all (subst P (sym same) (each_at (λ (y : Seat). P y.records) w.seats m seat all at))

  -- only a call appends a record
  all-keeps : Keeps s (λ m call. Given call) AllSeats
  all-keeps = record {
    calls = λ w m call g all. kept-called w m call g all;
    lies = λ w m st _ _ all. all;
    seats = λ w m seat new at _ same all. set-kept w m seat new at same all;
    enters = λ w e _ all. all;
    rises = λ w all. all;
    makes = λ w l t _ all. all;
    forms = λ w t ms _ _ all. all;
  }

  pub kept-move : (w : World) (mv : Move) → Each Given (calls_by s w mv) → AllSeats w → AllSeats (moved (by_records s) s w mv)
  kept-move w mv g all = step-move s (λ m call. Given call) AllSeats all-keeps w mv g all

  pub kept-line : (w : World) (e : Event) → Each Given (calls_of s w e) → AllSeats w → AllSeats (happens s w e)
  kept-line w e g all = step-line s (λ m call. Given call) AllSeats all-keeps w e g all

  kept-run : (events : List Event) (w : World) → Each Given (all_of calls_of s events w) → AllSeats w → AllSeats (run s events w)
  kept-run [] w g all = all
  kept-run (e ∷ events) w g all = kept-run events (happens s w e) (each_back Given (calls_of s w e) _ g) (kept-line w e (each_front Given (calls_of s w e) _ g) all)

  pub new-seats : (honest : List Bool) → P [] → Each (λ (seat : Seat). P seat.records) (map new_seat honest)
  new-seats [] none = tt
  new-seats (h ∷ honest) none = (none, new-seats honest none)

  -- if every call of the run is as given
  pub in_world_given : P [] → (events : List Event) → Each Given (all_of calls_of s events (new_world s)) → (m : ℕ) (seat : Seat) → slice_get (world_after s events).seats m ≡ Some seat → P seat.records
  unfolding world_after new_world
  in_world_given none events g m seat e = each_at (λ (y : Seat). P y.records) (run s events (new_world s)).seats m seat (kept-run events (new_world s) g (new-seats s.honest none)) e

pub each-any : {A : Type 0} (xs : List A) → Each (λ _. Unit {0}) xs
each-any [] = tt
each-any (x ∷ xs) = (tt, each-any xs)

pub any-given : (s : Setting) (events : List Event) (w : World) → AllGiven s (λ _ _. Unit {0}) events w
any-given s [] w = tt
any-given s (e ∷ events) w = (each-any (calls_of s w e), any-given s events (happens s w e))

pub in_world : (s : Setting) (P : List Record → Type 0) → ((records : List Record) (call : Call) (x : Record) → due s.rules (state s.rules s.opening records) call ≡ Some x → P records → P (records ++ x ∷ []))
    → P [] → (events : List Event) (m : ℕ) (seat : Seat) → slice_get (world_after s events).seats m ≡ Some seat → P seat.records
in_world s P step none events = in_world_given s (λ _. Unit {0}) P (λ records call x g. step records call x) none events (each-any (all_of calls_of s events (new_world s)))
