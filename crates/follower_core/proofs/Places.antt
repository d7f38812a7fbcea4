-- What is refused at a place, by what stands there.
use Rattle.std.proofs.Common.{◌≡◌, ℕ, Bool, true, false, cond, ◌||◌, not, [], ◌∷◌, Option, Some, None, is_some, refl, ap, sym, ◌∙◌}
use Rattle.digest_core.specs.declared.Digest.{Digest}
use Rattle.chain_types.specs.declared.transactions.Transaction.{Transaction}
use Rattle.chain_types.specs.Digests.{transaction_digest}
use Rattle.chain_types.specs.Equal.{digest_eq}
use Rattle.checkpoint_core.specs.declared.checkpoints.Item.{Item}
use Rattle.effects_core.specs.Effects.{digest_of_effects}
use Rattle.protocol_spec.specs.declared.pieces.Executed.{Executed}
use Rattle.protocol_spec.specs.Chain.Shape.{shape_fault}
use Rattle.protocol_spec.specs.Chain.Tests.{has_digest}
use Rattle.protocol_spec.specs.Chain.Words.{first_some, where_true}
use Rattle.follower_core.specs.declared.refusals.FollowRefusal.{FollowRefusal}
use Rattle.follower_core.specs.declared.refusals.FollowRefusal.TheVariants as refused
use Rattle.follower_core.specs.Courses.{Course, behind, behind_given, differs, differs_in, given, is_bad, is_stuck, place_refusal, with_given}
use Rattle.follower_core.specs.Steps.{good, standing}

-- ---- what stands

-- the transaction is not stuck, gives this, and is new
pub record IsStanding (m : Course) (t : Transaction) (x : Executed) : Type 0 where
  pub free : is_stuck m t ≡ false
  pub gives : given m.map t ≡ Some x
  pub new : has_digest m.ran (transaction_digest t) ≡ false

module _ (m : Course) (t : Transaction) where
  from_given : (x : Executed) (g : Option Executed) → Some x ≡ good m t g → (is_bad m t g ≡ false) × (g ≡ Some x)
  from_given x None h = absurd (cc)
  from_given x (Some y) h = by (is_bad m t (Some y)) refl h
    where
      by : (b : Bool) → is_bad m t (Some y) ≡ b → Some x ≡ cond b None (Some y) → (is_bad m t (Some y) ≡ false) × (let o : Option Executed = Some y in o ≡ Some x)
      by true is e = absurd (cc)
      by false is e = (is, sym e)

  none_given : (g : Option Executed) → None ≡ good m t g → is_bad m t g ≡ true
  none_given None h = refl
  none_given (Some y) h = by (is_bad m t (Some y)) refl h
    where
      by : (b : Bool) → is_bad m t (Some y) ≡ b → None ≡ cond b None (Some y) → is_bad m t (Some y) ≡ true
      by true is e = is
      by false is e = absurd (cc)

  pub stands_is : (x : Executed) → Some x ≡ standing m t → IsStanding m t x
  unfolding standing is_stuck
  stands_is x = by (is_some (shape_fault t)) (has_digest m.ran (transaction_digest t)) refl refl
    where
      by : (a b : Bool) → is_some (shape_fault t) ≡ a → has_digest m.ran (transaction_digest t) ≡ b → Some x ≡ cond a None (cond b None (good m t (given m.map t))) → IsStanding m t x
      by true b p q h = absurd (cc)
      by false true p q h = absurd (cc)
      by false false p q h =
          let parts = from_given x (given m.map t) h in
          record {
            free = ap (λ a. a || (has_digest m.ran (transaction_digest t) || is_bad m t (given m.map t))) p ∙ ap (λ b. b || is_bad m t (given m.map t)) q ∙ parts.0;
            gives = parts.1;
            new = q;
          }

  pub none_stuck : None ≡ standing m t → is_stuck m t ≡ true
  unfolding standing is_stuck
  none_stuck = by (is_some (shape_fault t)) (has_digest m.ran (transaction_digest t)) refl refl
    where
      by : (a b : Bool) → is_some (shape_fault t) ≡ a → has_digest m.ran (transaction_digest t) ≡ b → None ≡ cond a None (cond b None (good m t (given m.map t))) → is_stuck m t ≡ true
      by true b p q h = ap (λ a. a || (has_digest m.ran (transaction_digest t) || is_bad m t (given m.map t))) p
      by false true p q h = ap (λ a. a || (has_digest m.ran (transaction_digest t) || is_bad m t (given m.map t))) p ∙ ap (λ b. b || is_bad m t (given m.map t)) q
      by false false p q h = ap (λ a. a || (has_digest m.ran (transaction_digest t) || is_bad m t (given m.map t))) p ∙ ap (λ b. b || is_bad m t (given m.map t)) q ∙ none_given (given m.map t) h

  -- ---- what is refused

  third : FollowRefusal → FollowRefusal → Bool → Bool → Option FollowRefusal → Option FollowRefusal
  third a b wrong is_stuck last = first_some (where_true wrong a ∷ where_true is_stuck b ∷ last ∷ [])

  only : (o : Option FollowRefusal) → first_some (None ∷ None ∷ o ∷ []) ≡ o
  only None = refl
  only (Some e) = refl

  pub wrong_tx : (place : ℕ) (i : Item) (d : Digest) → d ≡ transaction_digest t → digest_eq d i.tx ≡ false → place_refusal m place i t ≡ Some (refused.WrongTx place)
  unfolding third place_refusal
  wrong_tx place i d is differs = ap (λ b. third (refused.WrongTx place) (refused.Stuck place) (not b) (is_stuck m t) (differs_in place (given m.map t) i.effects)) (ap (λ (x : Digest). digest_eq x i.tx) (sym is) ∙ differs)

  pub stuck : (place : ℕ) (i : Item) (d : Digest) → d ≡ transaction_digest t → digest_eq d i.tx ≡ true → None ≡ standing m t → place_refusal m place i t ≡ Some (refused.Stuck place)
  unfolding third place_refusal
  stuck place i d is same none =
      ap (λ b. third (refused.WrongTx place) (refused.Stuck place) (not b) (is_stuck m t) (differs_in place (given m.map t) i.effects)) (ap (λ (x : Digest). digest_eq x i.tx) (sym is) ∙ same)
      ∙ ap (λ b. third (refused.WrongTx place) (refused.Stuck place) false b (differs_in place (given m.map t) i.effects)) (none_stuck none)

  pub last_is : (place : ℕ) (i : Item) (d : Digest) (x : Executed) → d ≡ transaction_digest t → digest_eq d i.tx ≡ true → Some x ≡ standing m t → place_refusal m place i t ≡ differs place (digest_of_effects x.effects) i.effects
  unfolding third place_refusal
  last_is place i d x is same some =
      let stands = stands_is x some in
      ap (λ b. third (refused.WrongTx place) (refused.Stuck place) (not b) (is_stuck m t) (differs_in place (given m.map t) i.effects)) (ap (λ (y : Digest). digest_eq y i.tx) (sym is) ∙ same)
      ∙ ap (λ b. third (refused.WrongTx place) (refused.Stuck place) false b (differs_in place (given m.map t) i.effects)) stands.free
      ∙ only (differs_in place (given m.map t) i.effects)
      ∙ ap (λ o. differs_in place o i.effects) stands.gives

  pub is_new : (d : Digest) (x : Executed) → d ≡ transaction_digest t → Some x ≡ standing m t → has_digest m.ran d ≡ false
  is_new d x is some = ap (has_digest m.ran) is ∙ (stands_is x some).new

  pub leads : (d : Digest) (x : Executed) → d ≡ transaction_digest t → Some x ≡ standing m t → with_given m d x ≡ behind m t
  leads d x is some = ap (λ tx. with_given m tx x) is ∙ ap (behind_given m t) (sym (stands_is x some).gives)
