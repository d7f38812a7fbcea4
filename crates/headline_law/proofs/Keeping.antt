-- Under the run assumptions nothing is kept out of its round, so a run executes all that is ready before it or after some
-- of its rounds.
use Rattle.std.proofs.Common.{inl, inr, sym, subst, ap, append_assoc, ◌∙◌}
use Rattle.std.specs.Prelude.{◌≡◌, ◌⊎◌, ℕ, true, List, [], ◌∷◌, ◌++◌, flat_map, map, slice_get, Some, Ok}
use Rattle.std.specs.List.{list_any}
use Rattle.chain_types.specs.declared.objects.Object.{Object}
use Rattle.chain_types.specs.declared.objects.ObjectKey.{ObjectKey}
use Rattle.protocol_spec.specs.declared.answers.Held.{Held}
use Rattle.protocol_spec.specs.declared.answers.Ran.{Ran}
use Rattle.schedule_text.specs.declared.words.Event.{Event}
use Rattle.protocol_spec.proofs.Executions.{versions_more}
use Rattle.protocol_spec.proofs.ListLemmas.{has_left, has_right}
use Rattle.protocol_spec.specs.Chain.Words.{Has, all_some}
use Rattle.protocol_spec.specs.Chain.Tests.{has_key}
use Rattle.protocol_spec.specs.Block.Execution.{execution, written_keys}
use Rattle.protocol_spec.specs.Member.Versions.{Execution, Version, is_executed, versions, written_by}
use Rattle.protocol_spec.specs.Member.Rounds.{Books, found, may_run, present, ready, round_among, round_of, rounds, rounds_within, wants_of}
use Rattle.protocol_spec.specs.Member.Member.{Member, books, with_rounds}
use Rattle.protocol_spec.specs.Member.Calls.{run_answer}
use Rattle.world_spec.specs.Setting.{Setting}
use Rattle.world_spec.specs.World.{Seat, member_in}
use Rattle.world_spec.specs.Run.{world_after}
use Rattle.world_spec.specs.Assumptions.{IsHonestRun}
use Rattle.block_law.proofs.Live.{any-has}
use Rattle.block_law.specs.Orderly.{AreApart}
use Rattle.safety_law.proofs.Executing.{all-found}
use Rattle.headline_law.specs.Runs.{IsKeptOut, ready_behind}
use Rattle.headline_law.proofs.Behind.{IsRunOn, run-on, start_and_run}
use Rattle.headline_law.proofs.Completing.{among-append, is-one-round, what-is-ready}
use Rattle.headline_law.proofs.Rounds.{IsReadyOne, among-from, among-more, key-there, ready-says}
use Rattle.headline_law.proofs.Keys.{nothing-clashes, was-executed}

-- ---- what is present stays

present-still : (b : Books) (before more : List Execution) (h : Held) (os : List Object) → present b before h ≡ Some os → present b (before ++ more) h ≡ Some os
unfolding present
present-still b before more h os e = subst (λ (vs : List Version). all_some (map (found vs) (wants_of b.admission h)) ≡ Some os) (sym (versions_more b.opening before more)) (all-found (versions b.opening before) (flat_map written_by more) (wants_of b.admission h) os e)

-- ---- no two write one key

-- two that may be executed on these objects after these executions, and write one key, are one
abbrev AreAlike : Books → List Execution → Type 0
AreAlike b executed = (h k : Held) (objects others : List Object) → Has b.held h → Has b.held k → may_run b h ≡ true → may_run b k ≡ true → present b executed h ≡ Some objects → present b executed k ≡ Some others
    → (key : ObjectKey) → Has (written_keys (execution h.cert.tx objects)) key → Has (written_keys (execution k.cert.tx others)) key → h.digest ≡ k.digest

module _ (b : Books) (executed : List Execution) (alike : AreAlike b (executed ++ rounds b executed)) (n : ℕ) (h : Held) (x : Execution) (held : Has b.held h) (e : ready b (executed ++ rounds_within n b executed) h ≡ Some x) where
  abbrev behind : List Execution
  behind = executed ++ rounds_within n b executed

  one : (more : List Execution) × (rounds b executed ≡ rounds_within n b executed ++ (round_of b behind ++ more))
  one = is-one-round b executed n h x held e

  -- what is present in the round is present after the run
  still : (k : Held) (os : List Object) → present b behind k ≡ Some os → present b (executed ++ rounds b executed) k ≡ Some os
  still k os p = subst (λ (xs : List Execution). present b xs k ≡ Some os) (append_assoc executed (rounds_within n b executed) (round_of b behind ++ one.0) ∙ ap (λ (r : List Execution). executed ++ r) (sym one.1)) (present-still b behind (round_of b behind ++ one.0) k os p)

  executed-in : (y : Execution) → Has (round_of b behind) y → y.digest ≡ h.digest → is_executed (executed ++ rounds b executed) h.digest ≡ true
  executed-in y there same = was-executed (executed ++ rounds b executed) y h.digest
      (has_right executed (rounds b executed) y (subst (λ (r : List Execution). Has r y) (sym one.1) (has_right (rounds_within n b executed) (round_of b behind ++ one.0) y (has_left (round_of b behind) one.0 y there)))) same

  digest-of : (k : Held) (y : Execution) → ready b behind k ≡ Some y → y.digest ≡ k.digest
  digest-of k y q = ap (λ (z : Execution). z.digest) (ready-says b behind k y q).is

  -- the one that keeps it out is of the same transaction
  kept-same : (k : Held) (y : Execution) → Has b.held k → ready b behind k ≡ Some y → (key : ObjectKey) → Has (written_keys x.gave) key → Has (written_keys y.gave) key → h.digest ≡ k.digest
  kept-same k y there q key wrote written =
      let rx = ready-says b behind h x e in
      let ry = ready-says b behind k y q in
      alike h k rx.objects ry.objects held there rx.may ry.may (still h rx.objects rx.there) (still k ry.objects ry.there) key
      (subst (λ (z : Execution). Has (written_keys z.gave) key) rx.is wrote)
      (subst (λ (z : Execution). Has (written_keys z.gave) key) ry.is written)

  among-round : (front back : List Held) → b.held ≡ front ++ h ∷ back → (y : Execution) → Has (round_among b behind [] front) y → Has (round_of b behind) y
  unfolding round_of
  among-round front back split y there = subst (λ (r : List Execution). Has r y) (sym (ap (round_among b behind []) split ∙ among-append b behind front (h ∷ back) [])) (among-more b behind (h ∷ back) (round_among b behind [] front) y there)

  kept-executed : IsKeptOut b behind h x → is_executed (executed ++ rounds b executed) h.digest ≡ true
  kept-executed out =
      let key = any-has (λ (key : ObjectKey). list_any (λ (y : Execution). has_key (written_keys y.gave) key) (round_among b behind [] out.front)) (written_keys x.gave) out.clash in
      let y = any-has (λ (y : Execution). has_key (written_keys y.gave) key.0) (round_among b behind [] out.front) key.2 in
      let k = from (among-from b behind b.held out.front [] (λ z r. subst (λ (hs : List Held). Has hs z) (sym out.split) (has_left out.front (h ∷ out.back) z r)) y.0 y.1) in
      executed-in y.0 (among-round out.front out.back out.split y.0 y.1)
      (digest-of k.0 y.0 k.2 ∙ sym (kept-same k.0 y.0 k.1 k.2 key.0 key.1 (key-there b behind (written_keys y.0.gave) key.0 y.2)))
    where
      from : {y : Execution} → Has [] y ⊎ IsReadyOne b behind b.held y → IsReadyOne b behind b.held y
      from (inl none) = absurd none
      from (inr r) = r

  ready-executed : is_executed (executed ++ rounds b executed) h.digest ≡ true
  ready-executed = go (what-is-ready b executed n h x held e)
    where
      go : Has (rounds b executed) x ⊎ IsKeptOut b behind h x → is_executed (executed ++ rounds b executed) h.digest ≡ true
      go (inl there) = was-executed (executed ++ rounds b executed) x h.digest (has_right executed (rounds b executed) x there) (digest-of h x e)
      go (inr out) = kept-executed out

-- ---- in an honest run

module _ (s : Setting) (events : List Event) (honest : IsHonestRun s events) (distinct : AreApart s.opening) (m : ℕ) (seat : Seat) (at : slice_get (world_after s events).seats m ≡ Some seat) (ran : Ran) (answer : run_answer s.rules (member_in s seat) ≡ Ok ran) where
  abbrev member : Member
  member = member_in s seat

  alike-behind : (on : IsRunOn s m events member) → AreAlike (books member) (member.executed ++ rounds (books member) member.executed)
  alike-behind on = subst (λ (b : Books). AreAlike b (member.executed ++ rounds (books member) member.executed)) on.is.books_are
      (subst (AreAlike (books (member_in s on.new))) on.is.executed_is
      (λ h k objects others one two may could there too key wrote written. nothing-clashes s (events ++ start_and_run s m) on.honest distinct m on.new on.at h k objects others
      (record { is_held = one; may = may; there = there }) (record { is_held = two; may = could; there = too }) key wrote written))

  pub runs-execute-ready : (n : ℕ) (h : Held) (x : Execution) → Has member.held h → ready_behind n member h ≡ Some x → is_executed (with_rounds member).executed h.digest ≡ true
  runs-execute-ready n h x held e = ready-executed (books member) member.executed (alike-behind (run-on s m events honest seat at ran answer)) n h x held e
