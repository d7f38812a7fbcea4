-- The checkpoints of one thread at a follower: each goes on from the one before, and is applied.
use Rattle.std.proofs.Common.{refl, sym, ap, arith}
use Rattle.std.proofs.lemmas.Slice.Eq.{bytes_eq-Decides}
use Rattle.std.specs.Prelude.{◌≡◌, ℕ, ◌+◌, Bool, true, false, List, [], ◌∷◌, ◌++◌, map, length, Option, Some, None, Result, Ok}
use Rattle.std.proofs.lemmas.List.{length-append}
use Rattle.std.proofs.lemmas.Bool.Decides.{Decides-eqb}
use Rattle.digest_core.specs.declared.Digest.{Digest}
use Rattle.chain_types.specs.declared.objects.Object.{Object}
use Rattle.chain_types.specs.declared.transactions.Transaction.{Transaction}
use Rattle.checkpoint_core.specs.declared.checkpoints.Checkpoint.{Checkpoint}
use Rattle.checkpoint_core.specs.declared.checkpoints.Item.{Item}
use Rattle.checkpoint_core.specs.declared.links.LinkRefusal.{LinkRefusal}
use Rattle.checkpoint_core.specs.Links.{link_answer, wanted_number, wanted_parent}
use Rattle.protocol_spec.specs.Chain.Words.{Along, last_of}
use Rattle.protocol_spec.specs.Member.Checkpoints.{digest_before}
use Rattle.block_law.specs.Orderly.{AreApart, Step, tx_of}
use Rattle.block_law.proofs.ReadingSteps.{IsGoneOver, after_steps}
use Rattle.follower_core.specs.declared.tip.Tip.{Tip}
use Rattle.follower_core.specs.Following.{State, behind_checkpoint, refusal_before, refusal_of, tip_behind, turned}
use Rattle.headline_law.proofs.Stepping.{IsBehind, MayStand}
use Rattle.headline_law.proofs.Placing.{AllStand, all-stand, item_in}

-- the checkpoint after these, with these items
abbrev pub checkpoint_with : ℕ → List Checkpoint → List Item → Bool → Checkpoint
checkpoint_with epoch before items last = record { epoch = epoch; number = length before; parent = digest_before (last_of before); items = items; last = last }

-- ---- the tip

-- a follower after these checkpoints, whose next one is of this epoch
pub record IsTip (tip : Tip) (epoch : ℕ) (before : List Checkpoint) : Type 0 where
  pub up : tip.up ≡ true
  pub number : wanted_number tip.before ≡ length before
  pub parent : wanted_parent tip.before ≡ digest_before (last_of before)
  pub epoch_is : tip.epoch ≡ epoch

abbrev linked : Result (Unit {0}) LinkRefusal
linked = Ok tt

link-is : (before : Option (ℕ × Digest)) (c : Checkpoint) → c.number ≡ wanted_number before → c.parent ≡ wanted_parent before → link_answer before c ≡ linked
unfolding link_answer
link-is before c number parent = rw ((Decides-eqb c.number (wanted_number before)).1 number, (bytes_eq-Decides c.parent.0 (wanted_parent before).0).1 (ap (λ (d : Digest). d.0) parent)) refl

last-push : (cs : List Checkpoint) (c : Checkpoint) → last_of (cs ++ c ∷ []) ≡ Some c
last-push [] c = refl
last-push (d ∷ []) c = refl
last-push (d ∷ e ∷ cs) c = last-push (e ∷ cs) c

module _ (tip : Tip) (epoch : ℕ) (before : List Checkpoint) (is : IsTip tip epoch before) where
  pub no-early : (items : List Item) (last : Bool) (txs : List Transaction) → length txs ≡ length items → refusal_before tip (checkpoint_with epoch before items last) txs ≡ None
  unfolding refusal_before
  no-early items last txs size =
      rw (
        is.up,
        link-is tip.before (checkpoint_with epoch before items last) (sym is.number) (sym is.parent),
        (Decides-eqb epoch tip.epoch).1 (sym is.epoch_is),
        (Decides-eqb (length txs) (length items)).1 size,
      ) refl

  number-next : (c : Checkpoint) → c.number ≡ length before → c.number + 1 ≡ length (before ++ c ∷ [])
  number-next c e = let n = length-append before (c ∷ []) in omega (arith, e, n)

  tip-goes-on : (items : List Item) → IsTip (tip_behind tip (checkpoint_with epoch before items false)) epoch (before ++ checkpoint_with epoch before items false ∷ [])
  tip-goes-on items = record {
    up = is.up;
    number = number-next (checkpoint_with epoch before items false) refl;
    parent = sym (ap digest_before (last-push before (checkpoint_with epoch before items false)));
    epoch_is = is.epoch_is;
  }

  tip-turns : (items : List Item) → IsTip (tip_behind tip (checkpoint_with epoch before items true)) (epoch + 1) (before ++ checkpoint_with epoch before items true ∷ [])
  tip-turns items = record {
    up = is.up;
    number = number-next (checkpoint_with epoch before items true) refl;
    parent = sym (ap digest_before (last-push before (checkpoint_with epoch before items true)));
    epoch_is = ap (λ (n : ℕ). n + 1) is.epoch_is;
  }

-- ---- a checkpoint of steps

map-size : {A B C : Type 0} (f : A → B) (g : A → C) (xs : List A) → length (map f xs) ≡ length (map g xs)
map-size f g [] = refl
map-size f g (x ∷ xs) = let rest = map-size f g xs in omega (arith, rest)

module _ (opening : List Object) (distinct : AreApart opening) (epoch : ℕ) where
  -- in an epoch that opened with these objects, after these steps and these checkpoints
  pub record IsState (s : State) (steps : List Step) (before : List Checkpoint) : Type 0 where
    pub course : IsBehind opening s.course steps
    pub over : IsGoneOver opening steps
    pub tip : IsTip s.tip epoch before

  -- after the last checkpoint of the epoch
  pub record IsTurned (s : State) (steps : List Step) (before : List Checkpoint) : Type 0 where
    pub objects : s.course.map ≡ after_steps opening steps
    pub course : s.course ≡ turned s.course
    pub tip : IsTip s.tip (epoch + 1) before

  module _ (s : State) (steps : List Step) (before : List Checkpoint) (is : IsState s steps before) (xs : List Step) (may : Along (MayStand opening) steps xs) where
    all : AllStand opening distinct s.course 0 steps xs
    all = all-stand opening distinct xs steps s.course 0 is.over is.course may

    pub not-refused : (last : Bool) → refusal_of s (checkpoint_with epoch before (map item_in xs) last) (map tx_of xs) ≡ None
    unfolding refusal_of
    not-refused last = rw (no-early s.tip epoch before is.tip (map item_in xs) last (map tx_of xs) (map-size tx_of item_in xs), all.none) refl

    pub goes-on : IsState (behind_checkpoint s (checkpoint_with epoch before (map item_in xs) false) (map tx_of xs)) (steps ++ xs) (before ++ checkpoint_with epoch before (map item_in xs) false ∷ [])
    goes-on = record { course = all.course; over = all.over; tip = tip-goes-on s.tip epoch before is.tip (map item_in xs) }

    pub turns : IsTurned (behind_checkpoint s (checkpoint_with epoch before (map item_in xs) true) (map tx_of xs)) (steps ++ xs) (before ++ checkpoint_with epoch before (map item_in xs) true ∷ [])
    turns = record { objects = all.course.objects; course = refl; tip = tip-turns s.tip epoch before is.tip (map item_in xs) }
