-- What is due is ready, and what is ready is executed by the next round.
use Rattle.std.proofs.Common.{inl, inr, refl, subst, ap}
use Rattle.std.specs.Prelude.{◌≡◌, ℕ, Bool, true, false, cond, List, [], ◌∷◌, ◌++◌, map, filter, slice_get, Some}
use Rattle.chain_types.specs.declared.objects.ObjectKey.{ObjectKey}
use Rattle.protocol_spec.specs.declared.answers.Held.{Held}
use Rattle.schedule_text.specs.declared.words.Event.{Event}
use Rattle.protocol_spec.specs.Chain.Words.{Has}
use Rattle.protocol_spec.specs.Block.Execution.{execution, written_keys}
use Rattle.protocol_spec.specs.Member.Versions.{Execution, is_executed}
use Rattle.protocol_spec.specs.Member.Rounds.{Books, ready, executes_as, round_of, is_due, left_as, left}
use Rattle.protocol_spec.specs.Member.Member.{Member, books}
use Rattle.world_spec.specs.Setting.{Setting}
use Rattle.world_spec.specs.World.{Seat, member_in}
use Rattle.world_spec.specs.Run.{world_after}
use Rattle.world_spec.specs.Assumptions.{IsHonestRun}
use Rattle.block_law.specs.Orderly.{AreApart}
use Rattle.headline_law.specs.Complete.{MayExecute, IsReady}
use Rattle.headline_law.specs.Runs.{IsRunOut}
use Rattle.headline_law.proofs.Ready.{due-idle, due-may, due-have}
use Rattle.headline_law.proofs.Keys.{present-is-ready, nothing-clashes}
use Rattle.headline_law.proofs.Rounds.{IsReadyOn, ready-says, round-takes}

-- nothing is left if nothing is due
pub none-left : (b : Books) (executed : List Execution) → ((h : Held) → Has b.held h → is_due b executed h ≡ true → ⊥) → left b executed ≡ []
unfolding left
none-left b executed none = ap (map (left_as b executed)) (none-due b.held (λ h there. there))
  where
    none-due : (hs : List Held) → ((h : Held) → Has hs h → Has b.held h) → filter (is_due b executed) hs ≡ []
    none-due [] inside = refl
    none-due (h ∷ hs) inside = go (is_due b executed h) refl (none-due hs (λ k there. inside k (inr there)))
      where
        go : (t : Bool) → is_due b executed h ≡ t → filter (is_due b executed) hs ≡ [] → cond t (h ∷ filter (is_due b executed) hs) (filter (is_due b executed) hs) ≡ []
        go true e rest = absurd (none h (inside h (inl refl)) e)
        go false e rest = rest

module _ (s : Setting) (events : List Event) (honest : IsHonestRun s events) (distinct : AreApart s.opening) (n : ℕ) (seat : Seat) (at : slice_get (world_after s events).seats n ≡ Some seat) where
  abbrev m : Member
  m = member_in s seat

  pub due-is-ready : (h : Held) → Has m.held h → is_due (books m) m.executed h ≡ true → IsReady m h
  due-is-ready h held due =
      let have = due-have s events honest distinct n seat at h held due in
      record {
        objects = have.0;
        there = have.1;
        ready_is = present-is-ready s events honest distinct n seat at h have.0 (record { is_held = held; may = due-may (books m) m.executed h due; there = have.1 }) (due-idle (books m) m.executed h due);
      }

  -- nothing is due if nothing is ready
  pub none-due : IsRunOut (books m) m.executed → (h : Held) → Has m.held h → is_due (books m) m.executed h ≡ true → ⊥
  none-due out h held due =
      let is = (due-is-ready h held due).ready_is in
      let isnt = out h held in
      cc

  pub nothing-is-left : IsRunOut (books m) m.executed → left (books m) m.executed ≡ []
  nothing-is-left out = none-left (books m) m.executed (none-due out)

  -- ---- the next round

  may-execute : (h : Held) (x : Execution) → Has m.held h → (r : IsReadyOn (books m) m.executed h x) → MayExecute m h r.objects
  may-execute h x held r = record { is_held = held; may = r.may; there = r.there }

  apart : (h k : Held) (x y : Execution) → Has m.held h → Has m.held k → ready (books m) m.executed h ≡ Some x → ready (books m) m.executed k ≡ Some y → (key : ObjectKey) → Has (written_keys x.gave) key → Has (written_keys y.gave) key → h.digest ≡ k.digest
  apart h k x y held also e f key one two =
      let r = ready-says (books m) m.executed h x e in
      let t = ready-says (books m) m.executed k y f in
      nothing-clashes s events honest distinct n seat at h k r.objects t.objects (may-execute h x held r) (may-execute k y also t) key
      (subst (λ (z : Execution). Has (written_keys z.gave) key) r.is one) (subst (λ (z : Execution). Has (written_keys z.gave) key) t.is two)

  pub next-round-takes-all : (h : Held) (x : Execution) → Has m.held h → ready (books m) m.executed h ≡ Some x → is_executed (m.executed ++ round_of (books m) m.executed) h.digest ≡ true
  next-round-takes-all h x held e = round-takes (books m) m.executed apart h x held e

  pub next-round-takes-due : (h : Held) → Has m.held h → is_due (books m) m.executed h ≡ true → is_executed (m.executed ++ round_of (books m) m.executed) h.digest ≡ true
  next-round-takes-due h held due =
      let is = due-is-ready h held due in
      next-round-takes-all h (executes_as h (execution h.cert.tx is.objects)) held is.ready_is
