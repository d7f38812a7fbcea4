-- A world only grows along a run: its statements, its transactions and its certificates; and honest members stay honest.
use Rattle.std.proofs.Common.{refl, sym, subst, ap, ◌∙◌}
use Rattle.std.specs.Prelude.{◌≡◌, ℕ, zero, suc, List, [], ◌∷◌, ◌++◌, map, slice_get, slice_set, Option, Some, None}
use Rattle.schedule_text.specs.declared.words.Event.{Event}
use Rattle.protocol_spec.proofs.ListLemmas.{has_left}
use Rattle.protocol_spec.specs.Chain.Words.{Has}
use Rattle.protocol_spec.specs.Member.Calls.{Call}
use Rattle.world_spec.specs.Setting.{Setting}
use Rattle.world_spec.specs.World.{Seat, Said, Made, Formed, World, Reached, finds_down, stops, answers, new_world, sealed_by, with_seat, stopped_seat, appended, stated, reached_seat, behind, called_seat, called_in, honest_seat, is_honest, called_over}
use Rattle.world_spec.specs.Step.{happens}
use Rattle.world_spec.specs.Run.{run, world_after}
use Rattle.world_spec.specs.Assumptions.{calls_of, HasSaid}
use Rattle.safety_law.proofs.InWorld.{each-any}
use Rattle.safety_law.proofs.Steps.{Keeps, step-line}
use Rattle.chain_messages.specs.declared.messages.Statement.{Statement}

pub record IsGrown (w v : World) : Type 0 where
  pub said : (x : Said) → Has w.said x → Has v.said x
  pub honest : (m : ℕ) → is_honest v m ≡ is_honest w m
  pub txs : (t : Made) → Has w.txs t → Has v.txs t
  pub certs : (f : Formed) → Has w.certs f → Has v.certs f

pub grown-same : (w : World) → IsGrown w w
grown-same w = record { said = λ x h. h; honest = λ m. refl; txs = λ t h. h; certs = λ f h. h }

pub said-on : (w v : World) → IsGrown w v → (m : ℕ) (st : Statement) → HasSaid w m st → HasSaid v m st
said-on w v g m st (seal, h) = (seal, g.said (record { member = m; statement = st; seal = seal }) h)

pub grown-then : (u v w : World) → IsGrown u v → IsGrown v w → IsGrown u w
grown-then u v w g h = record {
  said = λ x k. h.said x (g.said x k);
  honest = λ m. h.honest m ∙ g.honest m;
  txs = λ t k. h.txs t (g.txs t k);
  certs = λ f k. h.certs f (g.certs f k);
}

honest-set : (seats : List Seat) (m : ℕ) (seat new : Seat) (n : ℕ) → slice_get seats m ≡ Some seat → new.honest ≡ seat.honest → honest_seat (slice_get (slice_set seats m new) n) ≡ honest_seat (slice_get seats n)
honest-set [] m seat new n at same = absurd (cc)
honest-set (x ∷ seats) zero seat new zero at same = same ∙ sym (ap honest_seat at)
honest-set (x ∷ seats) zero seat new (suc n) at same = refl
honest-set (x ∷ seats) (suc m) seat new zero at same = refl
honest-set (x ∷ seats) (suc m) seat new (suc n) at same = honest-set seats m seat new n at same

pub grown-seat : (w : World) (m : ℕ) (seat new : Seat) → slice_get w.seats m ≡ Some seat → new.honest ≡ seat.honest → IsGrown w (with_seat w m new)
grown-seat w m seat new at same = record { said = λ x h. h; honest = λ n. honest-set w.seats m seat new n at same; txs = λ t h. h; certs = λ f h. h }

module _ (s : Setting) where
  pub grown-behind : (w : World) (m : ℕ) (call : Call) (seat : Seat) (r : Reached) → slice_get w.seats m ≡ Some seat → IsGrown w (behind s w m call seat r)
  grown-behind w m call seat finds_down at = grown-same w
  grown-behind w m call seat (stops kept x) at = grown-seat w m seat (stopped_seat seat kept x) at refl
  grown-behind w m call seat (answers before x) at = record {
    said = λ y h. has_left w.said (map (sealed_by s.seal m) (stated s.rules before call)) y h;
    honest = λ n. honest-set w.seats m seat (record seat { records = appended seat.records x }) n at refl;
    txs = λ t h. h;
    certs = λ f h. h;
  }

  grown-called_seat : (w : World) (m : ℕ) (call : Call) (seat : Option Seat) → slice_get w.seats m ≡ seat → IsGrown w (called_seat s w m call seat)
  grown-called_seat w m call None at = grown-same w
  grown-called_seat w m call (Some seat) at = grown-behind w m call seat (reached_seat s call seat) at

  pub grown-called : (w : World) (m : ℕ) (call : Call) → IsGrown w (called_in s w m call)
  unfolding called_over
  grown-called w m call = grown-called_seat w m call (slice_get w.seats m) refl

  -- the steps that set no seat
  pub grown-keeps : (u : World) → Keeps s (λ _ _. Unit {0}) (IsGrown u)
  grown-keeps u = record {
    calls = λ w m call _ g. grown-then u w (called_in s w m call) g (grown-called w m call);
    lies = λ w m st _ _ g. record { said = λ x h. has_left w.said (sealed_by s.seal m st ∷ []) x (g.said x h); honest = g.honest; txs = g.txs; certs = g.certs };
    seats = λ w m seat new at same _ g. grown-then u w (with_seat w m new) g (grown-seat w m seat new at same);
    enters = λ w e _ g. record { said = g.said; honest = g.honest; txs = g.txs; certs = g.certs };
    rises = λ w g. record { said = g.said; honest = g.honest; txs = g.txs; certs = g.certs };
    makes = λ w l t _ g. record { said = g.said; honest = g.honest; txs = λ x h. has_left w.txs (t ∷ []) x (g.txs x h); certs = g.certs };
    forms = λ w t ms _ _ g. record { said = g.said; honest = g.honest; txs = g.txs; certs = λ f h. has_left w.certs _ f (g.certs f h) };
  }

  pub grown-line : (w : World) (e : Event) → IsGrown w (happens s w e)
  grown-line w e = step-line s (λ _ _. Unit {0}) (IsGrown w) (grown-keeps w) w e (each-any (calls_of s w e)) (grown-same w)

  pub grown-run : (events : List Event) (w : World) → IsGrown w (run s events w)
  grown-run [] w = grown-same w
  grown-run (e ∷ events) w = grown-then w (happens s w e) (run s events (happens s w e)) (grown-line w e) (grown-run events (happens s w e))

  run-append : (front back : List Event) (w : World) → run s (front ++ back) w ≡ run s back (run s front w)
  run-append [] back w = refl
  run-append (e ∷ front) back w = run-append front back (happens s w e)

  pub world-append : (front back : List Event) → world_after s (front ++ back) ≡ run s back (world_after s front)
  unfolding world_after
  world-append front back = run-append front back (new_world s)

pub statement-grows : (s : Setting) (front back : List Event) (m : ℕ) (st : Statement) → HasSaid (world_after s front) m st → HasSaid (world_after s (front ++ back)) m st
statement-grows s front back m st h = subst (λ (v : World). HasSaid v m st) (sym (world-append s front back)) (said-on (world_after s front) (run s back (world_after s front)) (grown-run s back (world_after s front)) m st h)

pub statements-grow : (s : Setting) (front back : List Event) (x : Said) → Has (world_after s front).said x → Has (world_after s (front ++ back)).said x
statements-grow s front back x h = subst (λ (v : World). Has v.said x) (sym (world-append s front back)) ((grown-run s back (world_after s front)).said x h)
