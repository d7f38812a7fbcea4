-- The answer of a follower to a checkpoint, and its state then.
use Rattle.std.proofs.Common.{◌≡◌, ◌≤◌, ◌<◌, ◌+◌, ◌-◌, ◌^◌, ℕ, Bool, true, false, cond, List, Some, None, Ok, Err, ap, sym, subst, ◌∙◌, length, arith}
use Rattle.chain_types.specs.declared.transactions.Transaction.{Transaction}
use Rattle.checkpoint_core.specs.declared.checkpoints.Checkpoint.{Checkpoint}
use Rattle.checkpoint_core.specs.Links.{HasNext}
use Rattle.follower_core.specs.declared.refusals.FollowRefusal.{FollowRefusal}
use Rattle.follower_core.specs.declared.tip.Tip.{Tip}
use Rattle.follower_core.specs.Courses.{Course, first_bad}
use Rattle.follower_core.specs.Following.{Answers, State, applied_in, is_memory, refusal_before, refusal_of, state_behind, tip_behind, unless}
use Rattle.follower_core.proofs.Answering.{counts_agree, early_is_no_memory, not_refused, number_is, passed, refused_early, refused_later, turned_away}

module _ (m : Course) (tip : Tip) (s : State) (c : Checkpoint) (txs : List Transaction) where
  -- the state, by its parts
  abbrev pub Seen : Type 0
  Seen = let t : State = record { course = m; tip = tip } in t ≡ s

  at_tip : Seen → tip ≡ s.tip
  at_tip view = ap (λ (t : State). t.tip) view

  at_course : Seen → m ≡ s.course
  at_course view = ap (λ (t : State). t.course) view

  -- ---- if no transaction was looked at

  early : (e : FollowRefusal) → Seen → Err e ≡ unless (refusal_before tip c txs) → refusal_before s.tip c txs ≡ Some e
  early e view h = ap (λ t. refusal_before t c txs) (sym (at_tip view)) ∙ turned_away (refusal_before tip c txs) e h

  pub early_answers : (e : FollowRefusal) → Seen → Err e ≡ unless (refusal_before tip c txs) → Answers s c txs (Err e)
  early_answers e view h =
      let r = early e view h in
      let no = early_is_no_memory s.tip c txs e r in
      (λ free. refused_early s c txs e r, λ yes. absurd (cc))

  pub early_stays : (e : FollowRefusal) → Seen → Err e ≡ unless (refusal_before tip c txs) → s ≡ state_behind s c txs (Err e)
  early_stays e view h = ap (λ b. cond b (record { course = s.course; tip = record { before = s.tip.before; epoch = s.tip.epoch; up = false } }) s) (sym (early_is_no_memory s.tip c txs e (early e view h)))

  -- ---- if they were

  free : (u : Unit {0}) → Ok u ≡ unless (refusal_before tip c txs) → refusal_before tip c txs ≡ None
  free u h = passed (refusal_before tip c txs) u h

  free_seen : (u : Unit {0}) → Seen → Ok u ≡ unless (refusal_before tip c txs) → refusal_before s.tip c txs ≡ None
  free_seen u view h = ap (λ t. refusal_before t c txs) (sym (at_tip view)) ∙ free u h

  pub same_count : (u : Unit {0}) → Ok u ≡ unless (refusal_before tip c txs) → length txs ≡ length c.items
  same_count u h = counts_agree tip c txs (free u h)

  pub next_follows : (u : Unit {0}) (next : Tip) → Seen → Ok u ≡ unless (refusal_before tip c txs) → applied_in s.tip < 2 ^ 64 - 1 → next ≡ tip_behind tip c → HasNext next.before
  next_follows u next view h room is = subst (λ (t : Tip). HasNext t.before) (sym is) (subst (λ (n : ℕ). n < 2 ^ 64 - 1) (sym (number_is tip c txs (free u h) ∙ ap applied_in (at_tip view))) room)

  epoch_below : (b : Bool) (n k : ℕ) → n ≤ k → cond b (n + 1) n ≤ k + 1
  epoch_below true n k h = omega (arith, h)
  epoch_below false n k h = omega (arith, h)

  pub next_epoch : (u : Unit {0}) (next : Tip) → Ok u ≡ unless (refusal_before tip c txs) → tip.epoch ≤ applied_in tip → next ≡ tip_behind tip c → next.epoch ≤ applied_in next
  next_epoch u next h below is = subst (λ (t : Tip). t.epoch ≤ applied_in t) (sym is) (subst (λ (n : ℕ). cond c.last (tip.epoch + 1) tip.epoch ≤ n + 1) (sym (number_is tip c txs (free u h))) (epoch_below c.last tip.epoch (applied_in tip) below))

  pub done_refuses : (u : Unit {0}) → Seen → Ok u ≡ unless (refusal_before tip c txs) → first_bad m 0 c.items txs ≡ None → refusal_of s c txs ≡ None
  done_refuses u view h none = not_refused s c txs (free_seen u view h) (ap (λ k. first_bad k 0 c.items txs) (sym (at_course view)) ∙ none)

  pub done_counts : (u : Unit {0}) (next : Tip) → Seen → Ok u ≡ unless (refusal_before tip c txs) → next ≡ tip_behind tip c → applied_in next ≡ applied_in s.tip + 1
  done_counts u next view h is = ap applied_in is ∙ ap (λ (n : ℕ). n + 1) (number_is tip c txs (free u h) ∙ ap applied_in (at_tip view))

  pub later_answers : (u : Unit {0}) (e : FollowRefusal) → Seen → Ok u ≡ unless (refusal_before tip c txs) → (is_memory e ≡ false → first_bad m 0 c.items txs ≡ Some e) → Answers s c txs (Err e)
  later_answers u e view h bad =
      (λ no. refused_later s c txs e (free_seen u view h) (ap (λ k. first_bad k 0 c.items txs) (sym (at_course view)) ∙ bad no), λ yes. free_seen u view h)
