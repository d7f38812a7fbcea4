-- No run leaves anything: the state after it is one of a longer run of the world, if what is due is ready.
use Rattle.std.proofs.Common.{refl, sym, subst, ap, ◌∙◌}
use Rattle.std.specs.Prelude.{◌≡◌, ℕ, Bool, true, false, List, [], ◌∷◌, ◌++◌, slice_get, Option, Some, None, Result, Ok}
use Rattle.std.specs.List.{list_all}
use Rattle.protocol_spec.specs.declared.answers.Held.{Held}
use Rattle.protocol_spec.specs.declared.answers.Ran.{Ran}
use Rattle.protocol_spec.specs.declared.refusals.RunRefusal.{RunRefusal}
use Rattle.protocol_spec.specs.declared.refusals.RunRefusal.TheVariants as no_run
use Rattle.schedule_text.specs.declared.words.Event.{Event}
use Rattle.protocol_spec.specs.Chain.Words.{Has, first_some, unless_refused}
use Rattle.protocol_spec.specs.Chain.Certificates.{Rules}
use Rattle.protocol_spec.specs.Member.Versions.{Execution, is_executed}
use Rattle.protocol_spec.specs.Member.Rounds.{Books, Wanted, wants_of, may_run, rounds, is_maker_done, is_origin_done, is_due, left}
use Rattle.protocol_spec.specs.Member.Member.{Member, books, with_rounds}
use Rattle.protocol_spec.specs.Member.Calls.{halted, full, ran_as, run_answer}
use Rattle.world_spec.specs.Setting.{Setting}
use Rattle.world_spec.specs.World.{Seat, member_in}
use Rattle.world_spec.specs.Run.{world_after}
use Rattle.world_spec.specs.Assumptions.{IsHonestRun}
use Rattle.block_law.specs.Orderly.{AreApart}
use Rattle.headline_law.specs.Runs.{IsRunOut, HasNothingToWaitFor}
use Rattle.headline_law.proofs.Behind.{start_and_run, IsRunOn, run-on}
use Rattle.headline_law.proofs.Rounds.{nothing-ready}
use Rattle.headline_law.proofs.Due.{none-left, none-due}

answered-left : (r : Rules) (m : Member) (ran : Ran) → run_answer r m ≡ Ok ran → left (books m) (m.executed ++ rounds (books m) m.executed) ≡ ran.left
unfolding run_answer
answered-left r m ran e = go (first_some (halted no_run.Halted m ∷ full no_run.Full m ∷ [])) e
  where
    go : (refusal : Option RunRefusal) → unless_refused refusal (ran_as m (rounds (books m) m.executed) (with_rounds m)) ≡ Ok ran → left (books m) (m.executed ++ rounds (books m) m.executed) ≡ ran.left
    go None e = ap (λ (x : Ran). x.left) (same (ran_as m (rounds (books m) m.executed) (with_rounds m)) e)
      where
        same : (x : Ran) → ◌≡◌ {A = Result Ran RunRefusal} (Ok x) (Ok ran) → x ≡ ran
        same x e = cc
    go (Some refusal) e = absurd (cc)

-- what waits for nothing is due, or was executed
waits-due : (b : Books) (executed : List Execution) (h : Held) → may_run b h ≡ true → list_all (is_origin_done executed) h.cert.origins ≡ true → list_all (λ (w : Wanted). is_maker_done executed w.producer) (wants_of b.admission h) ≡ true
    → (is_due b executed h ≡ true → ⊥) → is_executed executed h.digest ≡ true
waits-due b executed h may origins writers none = go (is_executed executed h.digest) refl
  where
    go : (t : Bool) → is_executed executed h.digest ≡ t → is_executed executed h.digest ≡ true
    go true e = e
    go false e = absurd (none (rw (e, may, origins, writers) refl))

module _ (s : Setting) (events : List Event) (honest : IsHonestRun s events) (distinct : AreApart s.opening) (n : ℕ) (seat : Seat) (at : slice_get (world_after s events).seats n ≡ Some seat) (ran : Ran) (e : run_answer s.rules (member_in s seat) ≡ Ok ran) where
  abbrev m : Member
  m = member_in s seat

  -- nothing is due if nothing is ready
  abbrev NoneDue : Books → List Execution → Type 0
  NoneDue b executed = IsRunOut b executed → (h : Held) → Has b.held h → is_due b executed h ≡ true → ⊥

  behind-it : IsRunOn s n events m → NoneDue (books m) (m.executed ++ rounds (books m) m.executed)
  behind-it on = subst (λ (b : Books). NoneDue b (m.executed ++ rounds (books m) m.executed)) on.is.books_are
      (subst (NoneDue (books (member_in s on.new))) on.is.executed_is (none-due s (events ++ start_and_run s n) on.honest distinct n on.new on.at))

  nothing-due : (h : Held) → Has m.held h → is_due (books m) (m.executed ++ rounds (books m) m.executed) h ≡ true → ⊥
  nothing-due = behind-it (run-on s n events honest seat at ran e) (nothing-ready (books m) m.executed)

  pub no-run-leaves-anything : ran.left ≡ []
  no-run-leaves-anything = sym (answered-left s.rules m ran e) ∙ none-left (books m) (m.executed ++ rounds (books m) m.executed) nothing-due

  pub runs-execute-all : (h : Held) → Has m.held h → HasNothingToWaitFor (with_rounds m) h → is_executed (with_rounds m).executed h.digest ≡ true
  runs-execute-all h held it = waits-due (books m) (m.executed ++ rounds (books m) m.executed) h it.may it.origins it.writers (nothing-due h held)
