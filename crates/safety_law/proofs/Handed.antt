-- Each vote in a member's journal is for a transaction that the member was handed, with an accepted seal of its
-- sender.
use Rattle.std.proofs.Common.{inl, inr, refl, sym, subst, ap, ◌∙◌}
use Rattle.std.specs.Prelude.{◌≡◌, ◌⊎◌, ℕ, zero, suc, Bool, true, false, List, [], ◌∷◌, ◌++◌, map, slice_get, Option, Some, None}
use Rattle.digest_core.specs.declared.Digest.{Digest}
use Rattle.chain_types.specs.declared.transactions.Transaction.{Transaction}
use Rattle.chain_types.specs.declared.transactions.SignedTx.{SignedTx}
use Rattle.journal_core.specs.declared.records.Record.{Record}
use Rattle.journal_core.specs.declared.records.Record.TheVariants as record_as
use Rattle.schedule_text.specs.declared.words.Event.{Event}
use Rattle.protocol_spec.specs.Chain.Words.{Has, Each}
use Rattle.protocol_spec.specs.Chain.Certificates.{accepts_sender}
use Rattle.protocol_spec.specs.Member.Calls.{Call, due}
use Rattle.world_spec.specs.Setting.{Setting}
use Rattle.world_spec.specs.World.{Seat, World, Reached, finds_down, stops, answers, new_seat, new_world, member_in, stopped_seat, appended, reached_seat, behind, called_seat, called_in, with_seat, called_over}
use Rattle.world_spec.specs.Run.{world_after}
use Rattle.world_spec.specs.Assumptions.{signed_read}
use Rattle.safety_law.proofs.Apart.{due-free}
use Rattle.safety_law.proofs.InWorld.{stopped-due, answered-due}
use Rattle.safety_law.proofs.Backed.{get-set}
use Rattle.safety_law.proofs.Once.{has-push}
use Rattle.safety_law.specs.Owners.{all_handed}
use Rattle.safety_law.proofs.Steps.{Keeps, step-run}
use Rattle.safety_law.proofs.Totals.{IsHandedCall, handed-given}

module _ (s : Setting) (total : ℕ → List SignedTx) where
  abbrev pub WasHanded : ℕ → Transaction → Type 0
  WasHanded m t = (x : SignedTx) × Has (total m) x × (x.tx ≡ t) × (accepts_sender s.rules x.tx x.seal ≡ true)

  abbrev VotesHanded : ℕ → List Record → Type 0
  VotesHanded m records = (t : Transaction) (o : List (Option Digest)) → Has records (record_as.Vote t o) → WasHanded m t

  abbrev AllHanded : World → Type 0
  AllHanded w = (m : ℕ) (seat : Seat) → slice_get w.seats m ≡ Some seat → VotesHanded m seat.records

  -- one more record, which is due
  handed-due : (m : ℕ) (seat : Seat) (call : Call) (x : Record) → Each (Has (total m)) (signed_read s.rules call) → due s.rules (member_in s seat) call ≡ Some x → VotesHanded m seat.records → VotesHanded m (seat.records ++ x ∷ [])
  handed-due m seat call x g d old t o h = go (has-push seat.records x (record_as.Vote t o) h)
    where
      from : (y : SignedTx) × (y.tx ≡ t) × (accepts_sender s.rules y.tx y.seal ≡ true) × Has (total m) y → WasHanded m t
      from (y, e, a, k) = (y, k, e, a)

      go : Has seat.records (record_as.Vote t o) ⊎ (x ≡ record_as.Vote t o) → WasHanded m t
      go (inl h) = old t o h
      go (inr e) = from (due-free (Has (total m)) s.rules (member_in s seat) t o call g (d ∙ ap (λ (y : Record). Some y) e)).given

  handed-set : (w : World) (m : ℕ) (new : Seat) → VotesHanded m new.records → AllHanded w → AllHanded (with_seat w m new)
  handed-set w m new one all n seat at t o h = go (get-set w.seats m n new seat at)
    where
      go : ((n ≡ m) × (new ≡ seat)) ⊎ (slice_get w.seats n ≡ Some seat) → WasHanded n t
      go (inl p) = subst (λ (k : ℕ). WasHanded k t) (sym p.0) (one t o (subst (λ (y : Seat). Has y.records (record_as.Vote t o)) (sym p.1) h))
      go (inr a) = all n seat a t o h

  handed-stop : (m : ℕ) (seat : Seat) (call : Call) (kept : Bool) (x : Record) → Each (Has (total m)) (signed_read s.rules call) → due s.rules (member_in s seat) call ≡ Some x → VotesHanded m seat.records → VotesHanded m (stopped_seat seat kept x).records
  handed-stop m seat call true x g d old = handed-due m seat call x g d old
  handed-stop m seat call false x g d old = old

  handed-answer : (m : ℕ) (seat : Seat) (call : Call) (x : Option Record) → Each (Has (total m)) (signed_read s.rules call) → due s.rules (member_in s seat) call ≡ x → VotesHanded m seat.records → VotesHanded m (appended seat.records x)
  handed-answer m seat call None g d old = old
  handed-answer m seat call (Some x) g d old = handed-due m seat call x g d old

  handed-behind : (w : World) (m : ℕ) (call : Call) (seat : Seat) (r : Reached) → slice_get w.seats m ≡ Some seat → reached_seat s call seat ≡ r → Each (Has (total m)) (signed_read s.rules call) → AllHanded w → AllHanded (behind s w m call seat r)
  handed-behind w m call seat finds_down at e g all = all
  handed-behind w m call seat (stops kept x) at e g all =
      handed-set w m (stopped_seat seat kept x) (handed-stop m seat call kept x g (stopped-due s (λ _. Unit {0}) (λ _. Unit {0}) (λ _ _ _ _ _ _. tt) seat call kept x e) (all m seat at)) all
  handed-behind w m call seat (answers before x) at e g all =
      handed-set w m (record seat { records = appended seat.records x }) (handed-answer m seat call x g (answered-due s (λ _. Unit {0}) (λ _. Unit {0}) (λ _ _ _ _ _ _. tt) seat call before x e) (all m seat at)) all

  handed-called_seat : (w : World) (m : ℕ) (call : Call) (seat : Option Seat) → slice_get w.seats m ≡ seat → Each (Has (total m)) (signed_read s.rules call) → AllHanded w → AllHanded (called_seat s w m call seat)
  handed-called_seat w m call None at g all = all
  handed-called_seat w m call (Some seat) at g all = handed-behind w m call seat (reached_seat s call seat) at refl g all

  handed-called : (w : World) (m : ℕ) (call : Call) → Each (Has (total m)) (signed_read s.rules call) → AllHanded w → AllHanded (called_in s w m call)
  unfolding called_over
  handed-called w m call g all = handed-called_seat w m call (slice_get w.seats m) refl g all

  handed-keeps : Keeps s (IsHandedCall s total) AllHanded
  handed-keeps = record {
    calls = λ w m call g all. handed-called w m call g all;
    lies = λ w m st _ _ all. all;
    seats = λ w m seat new at _ same all. handed-set w m new (λ t o h. all m seat at t o (subst (λ (xs : List Record). Has xs (record_as.Vote t o)) same h)) all;
    enters = λ w e _ all. all;
    rises = λ w all. all;
    makes = λ w l t _ all. all;
    forms = λ w t ms _ _ all. all;
  }

  new-handed : (honest : List Bool) (m : ℕ) (seat : Seat) → slice_get (map new_seat honest) m ≡ Some seat → VotesHanded m seat.records
  new-handed honest m seat at t o h = absurd (go honest m at)
    where
      empty : (b : Bool) → Some (new_seat b) ≡ Some seat → ⊥
      empty b e = subst (λ (y : Seat). Has y.records (record_as.Vote t o)) (sym (same e)) h
        where
          same : Some (new_seat b) ≡ Some seat → new_seat b ≡ seat
          same e = cc

      go : (hs : List Bool) (n : ℕ) → slice_get (map new_seat hs) n ≡ Some seat → ⊥
      go [] n e = cc
      go (b ∷ hs) zero e = empty b e
      go (b ∷ hs) (suc n) e = go hs n e

  handed-new : AllHanded (new_world s)
  unfolding new_world
  handed-new m seat at = new-handed s.honest m seat at

pub voted-handed : (s : Setting) (events : List Event) (m : ℕ) (seat : Seat) → slice_get (world_after s events).seats m ≡ Some seat → (t : Transaction) (o : List (Option Digest)) → Has seat.records (record_as.Vote t o) → WasHanded s (all_handed s events) m t
unfolding world_after
voted-handed s events =
    step-run s (IsHandedCall s (all_handed s events)) (AllHanded s (all_handed s events)) (handed-keeps s (all_handed s events)) events (new_world s)
    (handed-given s (all_handed s events) events (new_world s) (λ m x h. h)) (handed-new s (all_handed s events))
