-- The world's sequences only grow.
use Rattle.std.proofs.Common.{refl, sym, subst}
use Rattle.std.specs.Prelude.{◌≡◌, ℕ, zero, suc, true, List, [], ◌∷◌, ◌++◌, slice_get, slice_set, Option, Some, None}
use Rattle.chain_messages.specs.declared.messages.Entry.{Entry}
use Rattle.schedule_text.specs.declared.words.Event.{Event}
use Rattle.protocol_spec.proofs.ListLemmas.{front_then, front_whole}
use Rattle.protocol_spec.specs.Chain.Words.{IsFront}
use Rattle.protocol_spec.specs.Member.Calls.{Call}
use Rattle.world_spec.specs.Setting.{Setting}
use Rattle.world_spec.specs.World.{Seat, World, Reached, finds_down, stops, answers, reached_seat, behind, by_records, called_seat, called_in, called_if, entries_at, called_over}
use Rattle.world_spec.specs.Moves.{Move}
use Rattle.world_spec.specs.Step.{happens, moved, risen_if, appended_entry}
use Rattle.world_spec.specs.Run.{run}
use Rattle.world_spec.specs.Assumptions.{calls_by, calls_of}
use Rattle.safety_law.proofs.InWorld.{any-given, each-any}
use Rattle.safety_law.proofs.Steps.{Keeps, step-line, step-move, step-run}

-- each epoch's entries are a prefix of what they become
abbrev pub Grown : List (List Entry) → List (List Entry) → Type 0
Grown old new = (epoch : ℕ) → IsFront (entries_at old epoch) (entries_at new epoch)

pub front-push : {A : Type 0} (xs : List A) (x : A) → IsFront xs (xs ++ x ∷ [])
front-push xs x = (x ∷ [], refl)

pub grown-same : (old : List (List Entry)) → Grown old old
grown-same old epoch = front_whole (entries_at old epoch)

grown-set : (old : List (List Entry)) (n : ℕ) (e : Entry) → Grown old (slice_set old n (entries_at old n ++ e ∷ []))
grown-set [] n e epoch = front_whole (entries_at [] epoch)
grown-set (q ∷ old) zero e zero = front-push q e
grown-set (q ∷ old) zero e (suc epoch) = front_whole (entries_at old epoch)
grown-set (q ∷ old) (suc n) e zero = front_whole q
grown-set (q ∷ old) (suc n) e (suc epoch) = grown-set old n e epoch

grown-new : (old : List (List Entry)) → Grown old (old ++ [] ∷ [])
grown-new [] zero = front_whole []
grown-new [] (suc epoch) = front_whole []
grown-new (q ∷ old) zero = front_whole q
grown-new (q ∷ old) (suc epoch) = grown-new old epoch

grown-then : (old mid new : List (List Entry)) → Grown old mid → Grown mid new → Grown old new
grown-then old mid new one two epoch = front_then (entries_at old epoch) (entries_at mid epoch) (entries_at new epoch) (one epoch) (two epoch)

-- ---- calls do not change the sequences

behind-same : (s : Setting) (w : World) (m : ℕ) (call : Call) (seat : Seat) (r : Reached) → (behind s w m call seat r).sequences ≡ w.sequences
behind-same s w m call seat finds_down = refl
behind-same s w m call seat (stops kept x) = refl
behind-same s w m call seat (answers before x) = refl

seat-same : (s : Setting) (w : World) (m : ℕ) (call : Call) (seat : Option Seat) → (called_seat s w m call seat).sequences ≡ w.sequences
seat-same s w m call None = refl
seat-same s w m call (Some seat) = behind-same s w m call seat (reached_seat s call seat)

pub called-same : (s : Setting) (w : World) (m : ℕ) (call : Call) → (called_in s w m call).sequences ≡ w.sequences
unfolding called_over
called-same s w m call = seat-same s w m call (slice_get w.seats m)

pub called_if-same : (s : Setting) (w : World) (m : ℕ) (call : Option Call) → (called_if s w m call).sequences ≡ w.sequences
called_if-same s w m None = refl
called_if-same s w m (Some call) = called-same s w m call

-- ---- what a line adds

module _ (s : Setting) where
  growth-keeps : (old : List (List Entry)) → Keeps s (λ _ _. Unit {0}) (λ (v : World). Grown old v.sequences)
  growth-keeps old = record {
    calls = λ w m call _ g. subst (λ (qs : List (List Entry)). Grown old qs) (sym (called-same s w m call)) g;
    lies = λ w m st _ _ g. g;
    seats = λ w m seat new _ _ _ g. g;
    enters = λ w e _ g. grown-then old w.sequences (appended_entry w e).sequences g (grown-set w.sequences w.epoch e);
    rises = λ w g. grown-then old w.sequences (risen_if true w).sequences g (grown-new w.sequences);
    makes = λ w l t _ g. g;
    forms = λ w t ms _ _ g. g;
  }

  pub grows-move : (w : World) (mv : Move) → Grown w.sequences (moved (by_records s) s w mv).sequences
  grows-move w mv = step-move s (λ _ _. Unit {0}) (λ (v : World). Grown w.sequences v.sequences) (growth-keeps w.sequences) w mv (each-any (calls_by s w mv)) (grown-same w.sequences)

  pub grows-line : (w : World) (e : Event) → Grown w.sequences (happens s w e).sequences
  grows-line w e = step-line s (λ _ _. Unit {0}) (λ (v : World). Grown w.sequences v.sequences) (growth-keeps w.sequences) w e (each-any (calls_of s w e)) (grown-same w.sequences)

  pub grows-run : (events : List Event) (w : World) → Grown w.sequences (run s events w).sequences
  grows-run events w = step-run s (λ _ _. Unit {0}) (λ (v : World). Grown w.sequences v.sequences) (growth-keeps w.sequences) events w (any-given s events w) (grown-same w.sequences)
