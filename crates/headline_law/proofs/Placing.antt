-- The steps of one thread as the transactions of a checkpoint: none of them is refused.
use Rattle.std.proofs.Common.{refl, sym, subst, append_assoc, append-nil}
use Rattle.std.specs.Prelude.{◌≡◌, ℕ, ◌+◌, List, [], ◌∷◌, ◌++◌, map, None}
use Rattle.chain_types.specs.declared.objects.Object.{Object}
use Rattle.chain_types.specs.Digests.{transaction_digest}
use Rattle.effects_core.specs.Effects.{digest_of_effects}
use Rattle.checkpoint_core.specs.declared.checkpoints.Item.{Item}
use Rattle.protocol_spec.proofs.Equality.{digest_self}
use Rattle.protocol_spec.specs.Chain.Words.{Along}
use Rattle.block_law.specs.Orderly.{AreApart, Step, gave, tx_of}
use Rattle.block_law.proofs.ReadingSteps.{IsGoneOver}
use Rattle.follower_core.specs.Courses.{Course, behind, behind_all, first_bad, place_refusal}
use Rattle.headline_law.proofs.Stepping.{IsBehind, MayStand, behind-is, gives, not-stuck, over-is}

-- the item of a step
abbrev pub item_in : Step → Item
item_in x = record { tx = transaction_digest x.tx; effects = digest_of_effects (gave x).effects }

module _ (opening : List Object) (distinct : AreApart opening) where
  stands : (before : List Step) → IsGoneOver opening before → (x : Step) → MayStand opening before x → (m : Course) → IsBehind opening m before → (place : ℕ) → place_refusal m place (item_in x) x.tx ≡ None
  unfolding place_refusal
  stands before over x may m is place =
      rw (digest_self (transaction_digest x.tx), not-stuck opening distinct before over x may m is, gives opening distinct before over x may m is)
      (rw (digest_self (digest_of_effects (gave x).effects)) refl)

  -- after all of them
  pub record AllStand (m : Course) (place : ℕ) (before xs : List Step) : Type 0 where
    pub none : first_bad m place (map item_in xs) (map tx_of xs) ≡ None
    pub course : IsBehind opening (behind_all m (map tx_of xs)) (before ++ xs)
    pub over : IsGoneOver opening (before ++ xs)

  pub all-stand : (xs before : List Step) (m : Course) (place : ℕ) → IsGoneOver opening before → IsBehind opening m before → Along (MayStand opening) before xs → AllStand m place before xs
  all-stand [] before m place over is may = record {
    none = refl;
    course = subst (IsBehind opening m) (sym (append-nil before)) is;
    over = subst (IsGoneOver opening) (sym (append-nil before)) over;
  }
  all-stand (x ∷ xs) before m place over is may =
      let rest = all-stand xs (before ++ x ∷ []) (behind m x.tx) (place + 1) (over-is opening distinct before over x may.0 m is) (behind-is opening distinct before over x may.0 m is) may.1 in
      record {
        none = rw (stands before over x may.0 m is place, rest.none) refl;
        course = subst (IsBehind opening (behind_all (behind m x.tx) (map tx_of xs))) (append_assoc before (x ∷ []) xs) rest.course;
        over = subst (IsGoneOver opening) (append_assoc before (x ∷ []) xs) rest.over;
      }
