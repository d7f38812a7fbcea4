-- What the first refusal of a checkpoint says.
use Rattle.std.proofs.Common.{◌≡◌, ℕ, Bool, true, false, not, List, [], ◌∷◌, Option, Some, None, Result, Ok, Err, refl, ap, sym, ◌∙◌, length}
use Rattle.std.specs.Prelude.{◌==◌, bytes_eq, if◌then◌else◌}
use Rattle.std.proofs.lemmas.Bool.Decides.{Decides-eqb}
use Rattle.std.proofs.lemmas.Option.{same_Some}
use Rattle.digest_core.specs.declared.Digest.{Digest}
use Rattle.chain_types.specs.declared.transactions.Transaction.{Transaction}
use Rattle.checkpoint_core.specs.declared.checkpoints.Checkpoint.{Checkpoint}
use Rattle.checkpoint_core.specs.declared.links.LinkRefusal.{LinkRefusal}
use Rattle.checkpoint_core.specs.declared.links.LinkRefusal.TheVariants as link_refused
use Rattle.checkpoint_core.specs.Links.{link_answer, wanted_number, wanted_parent}
use Rattle.protocol_spec.proofs.Truth.{where_not_true}
use Rattle.protocol_spec.specs.Chain.Words.{first_some, where_true}
use Rattle.follower_core.specs.declared.refusals.FollowRefusal.{FollowRefusal}
use Rattle.follower_core.specs.declared.refusals.FollowRefusal.TheVariants as refused
use Rattle.follower_core.specs.declared.tip.Tip.{Tip}
use Rattle.follower_core.specs.Courses.{first_bad}
use Rattle.follower_core.specs.Following.{State, applied_in, is_memory, link_refusal, refusal_before, refusal_of, unless}

-- ---- the first of some cases

pub front_none : {A : Type 0} → (x : Option A) (xs : List (Option A)) → first_some (x ∷ xs) ≡ None → (x ≡ None) × (first_some xs ≡ None)
front_none None xs h = (refl, h)
front_none (Some y) xs h = absurd (cc)

-- ---- if nothing is refused

pub passed : (r : Option FollowRefusal) (u : Unit {0}) → Ok u ≡ unless r → r ≡ None
passed None u h = refl
passed (Some e) u h = absurd (cc)

pub turned_away : (r : Option FollowRefusal) (e : FollowRefusal) → Err e ≡ unless r → r ≡ Some e
turned_away None e h = absurd (cc)
turned_away (Some f) e h = cc

-- no refusal of the link
abbrev is_linked : Result (Unit {0}) LinkRefusal
is_linked = Ok tt

linked : (r : Result (Unit {0}) LinkRefusal) → link_refusal r ≡ None → r ≡ is_linked
linked (Ok done) h = refl
linked (Err refusal) h = absurd (cc)

numbered : (before : Option (ℕ × Digest)) (c : Checkpoint) → link_answer before c ≡ is_linked → c.number ≡ wanted_number before
unfolding link_answer
numbered before c h = (Decides-eqb c.number (wanted_number before)).0 (by (c.number == wanted_number before) h)
  where
    by : (b : Bool) → (if not b then Err (link_refused.WrongNumber c.number (wanted_number before)) else (if not (bytes_eq c.parent.0 (wanted_parent before).0) then Err (link_refused.WrongParent c.parent (wanted_parent before)) else is_linked)) ≡ is_linked → b ≡ true
    by true e = refl
    by false e = absurd (cc)

module _ (tip : Tip) (c : Checkpoint) (txs : List Transaction) where
  abbrev is_down : Option FollowRefusal
  is_down = where_true (not tip.up) refused.Down

  abbrev other_link : Option FollowRefusal
  other_link = link_refusal (link_answer tip.before c)

  abbrev other_epoch : Option FollowRefusal
  other_epoch = where_true (not (c.epoch == tip.epoch)) (refused.Epoch c.epoch tip.epoch)

  abbrev other_count : Option FollowRefusal
  other_count = where_true (not (length txs == length c.items)) (refused.Count (length txs) (length c.items))

  cases_behind : refusal_before tip c txs ≡ None → (other_link ≡ None) × (other_count ≡ None)
  unfolding refusal_before
  cases_behind h =
      let first = front_none is_down (other_link ∷ other_epoch ∷ other_count ∷ []) h in
      let second = front_none other_link (other_epoch ∷ other_count ∷ []) first.1 in
      let third = front_none other_epoch (other_count ∷ []) second.1 in
      let fourth = front_none other_count [] third.1 in
      (second.0, fourth.0)

  -- it came with as many transactions as it lists
  pub counts_agree : refusal_before tip c txs ≡ None → length txs ≡ length c.items
  counts_agree h = (Decides-eqb (length txs) (length c.items)).0 (where_not_true (length txs == length c.items) (refused.Count (length txs) (length c.items)) (cases_behind h).1)

  -- the number of a checkpoint that is not refused is how many were applied before
  pub number_is : refusal_before tip c txs ≡ None → c.number ≡ applied_in tip
  number_is h = numbered tip.before c (linked (link_answer tip.before c) (cases_behind h).0)

  -- no early refusal is for lack of memory
  pub early_is_no_memory : (e : FollowRefusal) → refusal_before tip c txs ≡ Some e → is_memory e ≡ false
  unfolding refusal_before
  early_is_no_memory e h = first tip.up h
    where
      last : (b : Bool) → first_some (where_true (not b) (refused.Count (length txs) (length c.items)) ∷ []) ≡ Some e → is_memory e ≡ false
      last true h = absurd (cc)
      last false h = ap is_memory (sym (same_Some _ _ h))

      third : (b : Bool) → first_some (where_true (not b) (refused.Epoch c.epoch tip.epoch) ∷ other_count ∷ []) ≡ Some e → is_memory e ≡ false
      third true h = last (length txs == length c.items) h
      third false h = ap is_memory (sym (same_Some _ _ h))

      second : (r : Result (Unit {0}) LinkRefusal)
          → first_some (link_refusal r ∷ other_epoch ∷ other_count ∷ []) ≡ Some e → is_memory e ≡ false
      second (Ok done) h = third (c.epoch == tip.epoch) h
      second (Err refusal) h = ap is_memory (sym (same_Some _ _ h))

      first : (b : Bool) → first_some (where_true (not b) refused.Down ∷ other_link ∷ other_epoch ∷ other_count ∷ []) ≡ Some e → is_memory e ≡ false
      first true h = second (link_answer tip.before c) h
      first false h = ap is_memory (sym (same_Some _ _ h))

-- ---- the whole

module _ (s : State) (c : Checkpoint) (txs : List Transaction) where
  pub refused_early : (e : FollowRefusal) → refusal_before s.tip c txs ≡ Some e → refusal_of s c txs ≡ Some e
  unfolding refusal_of
  refused_early e h = ap (λ o. first_some (o ∷ first_bad s.course 0 c.items txs ∷ [])) h

  pub refused_later : (e : FollowRefusal) → refusal_before s.tip c txs ≡ None → first_bad s.course 0 c.items txs ≡ Some e → refusal_of s c txs ≡ Some e
  unfolding refusal_of
  refused_later e h k = ap (λ o. first_some (o ∷ first_bad s.course 0 c.items txs ∷ [])) h ∙ ap (λ o. first_some (None ∷ o ∷ [])) k

  pub not_refused : refusal_before s.tip c txs ≡ None → first_bad s.course 0 c.items txs ≡ None → refusal_of s c txs ≡ None
  unfolding refusal_of
  not_refused h k = ap (λ o. first_some (o ∷ first_bad s.course 0 c.items txs ∷ [])) h ∙ ap (λ o. first_some (None ∷ o ∷ [])) k

  -- what no refusal says
  pub none_refused : refusal_of s c txs ≡ None → (refusal_before s.tip c txs ≡ None) × (first_bad s.course 0 c.items txs ≡ None)
  unfolding refusal_of
  none_refused h =
      let first = front_none (refusal_before s.tip c txs) (first_bad s.course 0 c.items txs ∷ []) h in
      let second = front_none (first_bad s.course 0 c.items txs) [] first.1 in
      (first.0, second.0)
