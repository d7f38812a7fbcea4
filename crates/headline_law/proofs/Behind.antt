-- The state after a member's run is one of a run of the world: it starts again, and runs. Neither line delivers anything.
use Rattle.std.proofs.Common.{refl, sym, subst, ap, ◌∙◌, append_assoc, append-nil}
use Rattle.std.specs.Prelude.{◌≡◌, ℕ, true, List, [], ◌∷◌, ◌++◌, map, slice_get, Option, Some, None, Ok}
use Rattle.chain_types.specs.declared.transactions.Transaction.{Transaction}
use Rattle.chain_types.specs.declared.transactions.SignedTx.{SignedTx}
use Rattle.chain_messages.specs.declared.messages.Certificate.{Certificate}
use Rattle.journal_core.specs.declared.records.Record.{Record}
use Rattle.journal_core.specs.declared.records.Record.TheVariants as record_as
use Rattle.protocol_spec.specs.declared.answers.Ran.{Ran}
use Rattle.schedule_text.specs.declared.words.Event.{Event}
use Rattle.schedule_text.specs.declared.words.Event.TheVariants as event
use Rattle.protocol_spec.proofs.ListLemmas.{set_get}
use Rattle.protocol_spec.specs.Chain.Words.{Has}
use Rattle.protocol_spec.specs.Member.Versions.{Execution}
use Rattle.protocol_spec.specs.Member.Rounds.{rounds}
use Rattle.protocol_spec.specs.Member.Member.{Member, books, after, state}
use Rattle.protocol_spec.specs.Member.Calls.{runs, run_answer, ran_item, ran_items, ran_record, run_record, due}
use Rattle.world_spec.specs.Setting.{Setting}
use Rattle.world_spec.specs.World.{Seat, Made, Formed, World, new_world, member_in, Reached, finds_down, stops, answers, reached_seat, behind, appended, called_seat, called_over, started_seat}
use Rattle.world_spec.specs.Step.{on_seat, happens, happens_over}
use Rattle.world_spec.specs.Run.{run, world_after}
use Rattle.world_spec.specs.Assumptions.{asked, delivered, delivered_ends, all_of, all_formed, all_delivered, all_transactions, NoForgery, IsHonestRun}
use Rattle.safety_law.proofs.Apart.{state-push}
use Rattle.safety_law.proofs.Grown.{world-append}

all-append : {A : Type 0} (says : Setting → World → Event → List A) (s : Setting) (front back : List Event) (w : World) → all_of says s (front ++ back) w ≡ all_of says s front w ++ all_of says s back (run s front w)
all-append says s [] back w = refl
all-append {A = A} says s (e ∷ front) back w = ap (λ (xs : List A). says s w e ++ xs) (all-append says s front back (happens s w e)) ∙ sym (append_assoc (says s w e) (all_of says s front (happens s w e)) (all_of says s back (run s front (happens s w e))))

no-forgery-append : (s : Setting) (front back : List Event) (w : World) → NoForgery s front w → NoForgery s back (run s front w) → NoForgery s (front ++ back) w
no-forgery-append s [] back w one other = other
no-forgery-append s (e ∷ front) back w one other = (one.0, one.1, no-forgery-append s front back (happens s w e) one.2 other)

module _ (s : Setting) (n : ℕ) where
  -- ---- a start, and a run

  abbrev pub start_and_run : List Event
  start_and_run = event.Restart n ∷ event.Run n 1 ∷ []

  -- both leave what was made
  abbrev KeepsMade : World → World → Type 0
  KeepsMade w v = (v.txs ≡ w.txs) × (v.certs ≡ w.certs)

  restart-keeps : (w : World) → KeepsMade w (happens s w (event.Restart n))
  unfolding happens_over
  restart-keeps w = go (slice_get w.seats n)
    where
      go : (o : Option Seat) → KeepsMade w (on_seat w n started_seat o)
      go None = (refl, refl)
      go (Some seat) = (refl, refl)

  run-keeps : (w : World) → KeepsMade w (happens s w (event.Run n 1))
  unfolding happens_over called_over
  run-keeps w = go (slice_get w.seats n)
    where
      reach : (seat : Seat) (r : Reached) → KeepsMade w (behind s w n runs seat r)
      reach seat finds_down = (refl, refl)
      reach seat (stops kept x) = (refl, refl)
      reach seat (answers m x) = (refl, refl)

      go : (o : Option Seat) → KeepsMade w (called_seat s w n runs o)
      go None = (refl, refl)
      go (Some seat) = reach seat (reached_seat s runs seat)

  both-keep : (w : World) → KeepsMade w (run s start_and_run w)
  both-keep w =
      let one = restart-keeps w in
      let two = run-keeps (happens s w (event.Restart n)) in
      (two.0 ∙ one.0, two.1 ∙ one.1)

  nothing-delivered : (w : World) → all_of delivered s start_and_run w ≡ []
  unfolding delivered
  nothing-delivered w = refl

  nothing-asked : (w : World) → all_of asked s start_and_run w ≡ []
  unfolding asked
  nothing-asked w = refl

  nothing-forged : (w : World) → NoForgery s start_and_run w
  unfolding delivered delivered_ends
  nothing-forged w = (tt, tt, (tt, tt, tt))

  same-transactions : (events : List Event) → all_transactions s (events ++ start_and_run) ≡ all_transactions s events
  unfolding all_transactions all_formed all_delivered
  same-transactions events =
      let w : World = world_after s events in
      let made : KeepsMade w (world_after s (events ++ start_and_run)) = subst (KeepsMade w) (sym (world-append s events start_and_run)) (both-keep w) in
      let asks = all-append asked s events start_and_run (new_world s) ∙ ap (λ (xs : List SignedTx). all_of asked s events (new_world s) ++ xs) (nothing-asked (run s events (new_world s))) ∙ append-nil (all_of asked s events (new_world s)) in
      let gives = all-append delivered s events start_and_run (new_world s) ∙ ap (λ (xs : List Certificate). all_of delivered s events (new_world s) ++ xs) (nothing-delivered (run s events (new_world s))) ∙ append-nil (all_of delivered s events (new_world s)) in
      ap (λ (xs : List Made). map (λ (t : Made). t.signed.tx) xs ++ (map (λ (x : SignedTx). x.tx) (all_of asked s (events ++ start_and_run) (new_world s)) ++ map (λ (c : Certificate). c.tx) (map (λ (f : Formed). f.cert) (world_after s (events ++ start_and_run)).certs ++ all_of delivered s (events ++ start_and_run) (new_world s)))) made.0
      ∙ ap (λ (xs : List SignedTx). map (λ (t : Made). t.signed.tx) w.txs ++ (map (λ (x : SignedTx). x.tx) xs ++ map (λ (c : Certificate). c.tx) (map (λ (f : Formed). f.cert) (world_after s (events ++ start_and_run)).certs ++ all_of delivered s (events ++ start_and_run) (new_world s)))) asks
      ∙ ap (λ (xs : List Formed). map (λ (t : Made). t.signed.tx) w.txs ++ (map (λ (x : SignedTx). x.tx) (all_of asked s events (new_world s)) ++ map (λ (c : Certificate). c.tx) (map (λ (f : Formed). f.cert) xs ++ all_of delivered s (events ++ start_and_run) (new_world s)))) made.1
      ∙ ap (λ (xs : List Certificate). map (λ (t : Made). t.signed.tx) w.txs ++ (map (λ (x : SignedTx). x.tx) (all_of asked s events (new_world s)) ++ map (λ (c : Certificate). c.tx) (map (λ (f : Formed). f.cert) w.certs ++ xs))) gives

  still-honest : (events : List Event) → IsHonestRun s events → IsHonestRun s (events ++ start_and_run)
  still-honest events honest = record {
    few_faulty = honest.few_faulty;
    no_forgery = no-forgery-append s events start_and_run (new_world s) honest.no_forgery (nothing-forged (run s events (new_world s)));
    transactions = λ t u h k. honest.transactions t u (subst (λ (ts : List Transaction). Has ts t) (same-transactions events) h) (subst (λ (ts : List Transaction). Has ts u) (same-transactions events) k);
    ids = record {
      drawn = λ t u h k. honest.ids.drawn t u (subst (λ (ts : List Transaction). Has ts t) (same-transactions events) h) (subst (λ (ts : List Transaction). Has ts u) (same-transactions events) k);
      opened = λ t h. honest.ids.opened t (subst (λ (ts : List Transaction). Has ts t) (same-transactions events) h);
    };
  }

  -- ---- the member after it

  -- it holds and admitted the same, and executed the rounds besides
  pub record IsBehind (m : Member) (new : Member) : Type 0 where
    pub books_are : books new ≡ books m
    pub executed_is : new.executed ≡ m.executed ++ rounds (books m) m.executed

  is-behind : (records : List Record) (xs : List Execution) → rounds (books (state s.rules s.opening records)) (state s.rules s.opening records).executed ≡ xs → IsBehind (state s.rules s.opening records) (state s.rules s.opening (appended records (ran_record (map ran_item xs))))
  unfolding after
  is-behind records [] e = record { books_are = refl; executed_is = sym (append-nil (state s.rules s.opening records).executed) ∙ ap (λ (ys : List Execution). (state s.rules s.opening records).executed ++ ys) (sym e) }
  is-behind records (x ∷ xs) e = subst (IsBehind (state s.rules s.opening records)) (sym (state-push s.rules s.opening records (record_as.Ran2 (ran_item x ∷ map ran_item xs)))) (record { books_are = refl; executed_is = refl })

  answered-due : (m : Member) (ran : Ran) → run_answer s.rules m ≡ Ok ran → due s.rules m runs ≡ ran_record (ran_items m)
  unfolding due
  answered-due m ran e = ap (run_record m) e

  abbrev ran_seat : Seat → Seat
  ran_seat seat = record seat { up = true; armed = None; records = appended seat.records (due s.rules (member_in s seat) runs) }

  restarted : (w : World) (seat : Seat) → slice_get w.seats n ≡ Some seat → slice_get (happens s w (event.Restart n)).seats n ≡ Some (started_seat seat)
  unfolding happens_over
  restarted w seat e = subst (λ (o : Option Seat). slice_get (on_seat w n started_seat o).seats n ≡ Some (started_seat seat)) (sym e) (set_get w.seats n seat (started_seat seat) e)

  has-run : (w : World) (seat : Seat) → slice_get w.seats n ≡ Some (started_seat seat) → slice_get (happens s w (event.Run n 1)).seats n ≡ Some (ran_seat seat)
  unfolding happens_over called_over
  has-run w seat e = subst (λ (o : Option Seat). slice_get (called_seat s w n runs o).seats n ≡ Some (ran_seat seat)) (sym e) (set_get w.seats n (started_seat seat) (ran_seat seat) e)

  -- a member whose run answers stands after it in a longer run
  pub record IsRunOn (events : List Event) (m : Member) : Type 0 where
    pub honest : IsHonestRun s (events ++ start_and_run)
    pub new : Seat
    pub at : slice_get (world_after s (events ++ start_and_run)).seats n ≡ Some new
    pub is : IsBehind m (member_in s new)

  pub run-on : (events : List Event) → IsHonestRun s events → (seat : Seat) → slice_get (world_after s events).seats n ≡ Some seat → (ran : Ran) → run_answer s.rules (member_in s seat) ≡ Ok ran → IsRunOn events (member_in s seat)
  run-on events honest seat at ran e =
      let w : World = world_after s events in
      record {
        honest = still-honest events honest;
        new = ran_seat seat;
        at = subst (λ (v : World). slice_get v.seats n ≡ Some (ran_seat seat)) (sym (world-append s events start_and_run)) (has-run (happens s w (event.Restart n)) seat (restarted w seat at));
        is = subst (λ (x : Option Record). IsBehind (member_in s seat) (state s.rules s.opening (appended seat.records x))) (sym (answered-due (member_in s seat) ran e)) (is-behind seat.records (rounds (books (member_in s seat)) (member_in s seat).executed) refl);
      }
