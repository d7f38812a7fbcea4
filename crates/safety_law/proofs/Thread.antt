-- The effects of a member are those of one thread.
use Rattle.std.proofs.Common.{inl, inr, refl, sym, ap, ◌∙◌}
use Rattle.std.specs.Prelude.{◌≡◌, ℕ, true, List, [], ◌∷◌, map, zip, slice_get, Option, Some, None, option_map, is_some}
use Rattle.chain_types.specs.declared.transactions.Transaction.{Transaction}
use Rattle.chain_types.specs.Equal.{digest_eq}
use Rattle.effects_core.specs.declared.effects.Effects.{Effects}
use Rattle.protocol_spec.specs.declared.pieces.Executed.{Executed}
use Rattle.checkpoint_core.specs.declared.checkpoints.Item.{Item}
use Rattle.schedule_text.specs.declared.words.Event.{Event}
use Rattle.protocol_spec.proofs.Equality.{digest_same}
use Rattle.protocol_spec.specs.Chain.Words.{Has}
use Rattle.protocol_spec.proofs.ListLemmas.{find-test, each_has, find_has}
use Rattle.protocol_spec.specs.Member.Versions.{Execution, execution_of, is_executed}
use Rattle.protocol_spec.specs.Member.Admission.{Admitted}
use Rattle.protocol_spec.specs.Member.Checkpoints.{effects_digest_of, item_of}
use Rattle.protocol_spec.specs.Member.Sequential.{map_of, fold_all}
use Rattle.protocol_spec.specs.Member.Rounds.{executes_as}
use Rattle.protocol_spec.specs.Member.Member.{Member}
use Rattle.world_spec.specs.Setting.{Setting}
use Rattle.world_spec.specs.World.{Seat, member_in}
use Rattle.world_spec.specs.Run.{world_after}
use Rattle.world_spec.specs.Assumptions.{IsHonestRun}
use Rattle.block_law.specs.Admitted.{held_again}
use Rattle.block_law.specs.Orderly.{gave, tx_of, effects_in}
use Rattle.block_law.proofs.ReadingSteps.{chain-reads}
use Rattle.safety_law.specs.Steps.{step_of, IsStepOf}
use Rattle.safety_law.specs.Orderly.{IsExecutedFront, OpensApart}
use Rattle.safety_law.specs.Thread.{effects_in_execution, effects_at, item_with, thread_effects, GivesOneThread}
use Rattle.safety_law.proofs.Executed.{one-gave}
use Rattle.safety_law.proofs.Ordered.{front-step, steps-orderly}

pub map-twice : {A B C : Type 0} (f : A → B) (g : B → C) (xs : List A) → map g (map f xs) ≡ map (λ (x : A). g (f x)) xs
map-twice f g [] = refl
map-twice f g (x ∷ xs) = ap (λ zs. g (f x) ∷ zs) (map-twice f g xs)

pub map-same : {A B : Type 0} (f g : A → B) (xs : List A) → ((x : A) → Has xs x → f x ≡ g x) → map f xs ≡ map g xs
map-same f g [] same = refl
map-same f g (x ∷ xs) same = ap (λ z. z ∷ map f xs) (same x (inl refl)) ∙ ap (λ zs. g x ∷ zs) (map-same f g xs (λ y h. same y (inr h)))

module _ (m : Member) where
  item-with : (a : Admitted) → item_with (a, effects_at m a) ≡ item_of m.executed a
  item-with a = go (execution_of m.executed a.digest)
    where
      go : (x : Option Execution) → item_with (a, option_map effects_in_execution x) ≡ record { tx = a.digest; effects = effects_digest_of x }
      go None = refl
      go (Some x) = refl

  items-with : (front : List Admitted) → map item_with (zip front (map (effects_at m) front)) ≡ map (item_of m.executed) front
  items-with [] = refl
  items-with (a ∷ front) = ap (λ (i : Item). i ∷ map item_with (zip front (map (effects_at m) front))) (item-with a) ∙ ap (λ (is : List Item). item_of m.executed a ∷ is) (items-with front)

module _ (s : Setting) (events : List Event) (honest : IsHonestRun s events) (n : ℕ) (seat : Seat) (at : slice_get (world_after s events).seats n ≡ Some seat) where
  own-effects : (a : Admitted) → IsStepOf (member_in s seat) a → is_executed (member_in s seat).executed a.digest ≡ true → effects_in (step_of (member_in s seat) a) ≡ effects_at (member_in s seat) a
  own-effects a step e = go (execution_of (member_in s seat).executed a.digest) refl e
    where
      go : (x : Option Execution) → execution_of (member_in s seat).executed a.digest ≡ x → is_some x ≡ true → effects_in (step_of (member_in s seat) a) ≡ option_map effects_in_execution x
      go None h e = absurd (cc)
      go (Some x) h e =
          ap (λ (g : Executed). Some g.effects) (one-gave s events honest n seat at (executes_as (held_again a) (gave (step_of (member_in s seat) a))) x step.executed
          (find_has (λ (y : Execution). digest_eq y.digest a.digest) (member_in s seat).executed x h)
          (sym (digest_same x.digest a.digest (find-test (λ (y : Execution). digest_eq y.digest a.digest) (member_in s seat).executed x h))))

  pub effects-of-fold : OpensApart s events (member_in s seat) → (front : List Admitted) → IsExecutedFront (member_in s seat) front → GivesOneThread (member_in s seat) front
  effects-of-fold opens front it = record { effects = all; items = ap (λ (es : List (Option Effects)). map item_with (zip front es)) all ∙ items-with (member_in s seat) front }
    where
      thread : (fold_all (map_of (member_in s seat).opening) (map tx_of (map (step_of (member_in s seat)) front))).effects ≡ map effects_in (map (step_of (member_in s seat)) front)
      thread = (chain-reads (member_in s seat).opening (map (step_of (member_in s seat)) front) opens.distinct (steps-orderly s events honest n seat at opens front it)).effects

      all : thread_effects (member_in s seat) front ≡ map (effects_at (member_in s seat)) front
      all =
          ap (λ (txs : List Transaction). (fold_all (map_of (member_in s seat).opening) txs).effects) (sym (map-twice (step_of (member_in s seat)) tx_of front))
          ∙ thread ∙ map-twice (step_of (member_in s seat)) effects_in front
          ∙ map-same (λ (a : Admitted). effects_in (step_of (member_in s seat) a)) (effects_at (member_in s seat)) front (λ a h.
          own-effects a (front-step s events honest n seat at opens front it a h) (each_has (λ (x : Admitted). is_executed (member_in s seat).executed x.digest ≡ true) front a it.executed h))
