-- The ids that are kept are those that the transaction draws.
use Rattle.std.proofs.Common.{◌≡◌, ℕ, zero, suc, ◌+◌, Bool, true, false, List, [], ◌∷◌, ◌++◌, length, map, Some, refl, ap, sym, subst, ◌∙◌, arith}
use Rattle.std.specs.Prelude.{◌<◌, nat_le, slice_get, slice_index_or, if◌then◌else◌}
use Rattle.std.proofs.lemmas.Option.{slice_get_read}
use Rattle.digest_core.specs.declared.Digest.{Digest}
use Rattle.chain_types.specs.declared.objects.ObjectId.{ObjectId}
use Rattle.chain_types.specs.Equal.{digest_eq}
use Rattle.protocol_spec.proofs.Equality.{digest_same}
use Rattle.protocol_spec.specs.declared.pieces.Item.{Item}
use Rattle.ptb_run.specs.Drawn.{AreDrawn, drawn_id, new_ids}

pushed : (tx : Digest) (from : ℕ) (ids : List ObjectId) (n : ℕ) (id : ObjectId) → AreDrawn tx from ids → from + length ids ≡ n → id ≡ drawn_id tx n → AreDrawn tx from (ids ++ id ∷ [])
pushed tx from [] n id drawn next is = (is ∙ ap (drawn_id tx) (sym (omega arith)), tt)
pushed tx from (i ∷ rest) n id drawn next is = (drawn.0, pushed tx (from + 1) rest n id drawn.1 (omega arith) is)

pub kept : (own tx : Digest) (ids new : List ObjectId) (n : ℕ) (id : ObjectId)
    → AreDrawn own 0 ids → digest_eq own tx ≡ true → length ids ≡ n → id ≡ drawn_id tx n → new ≡ ids ++ id ∷ [] → AreDrawn own 0 new
kept own tx ids new n id drawn same next is more =
    subst (λ (l : List ObjectId). AreDrawn own 0 l) (sym more) (pushed own 0 ids n id drawn (omega arith) (is ∙ ap (λ (d : Digest). drawn_id d n) (sym (digest_same own tx same))))

pub still : (own : Digest) (ids new : List ObjectId) → AreDrawn own 0 ids → new ≡ ids → AreDrawn own 0 new
still own ids new drawn same = subst (λ (l : List ObjectId). AreDrawn own 0 l) (sym same) drawn

read_from : (tx : Digest) (from : ℕ) (ids : List ObjectId) (n : ℕ) (id : ObjectId) → AreDrawn tx from ids → slice_get ids n ≡ Some id → id ≡ drawn_id tx (from + n)
read_from tx from [] n id drawn found = absurd (cc)
read_from tx from (i ∷ rest) zero id drawn found = let same : i ≡ id = cc in sym same ∙ drawn.0 ∙ ap (drawn_id tx) (omega arith)
read_from tx from (i ∷ rest) (suc n) id drawn found = read_from tx (from + 1) rest n id drawn.1 found ∙ ap (drawn_id tx) (omega arith)

pub read_is : (tx : Digest) (ids : List ObjectId) (n : ℕ) (id : ObjectId) → AreDrawn tx 0 ids → n < length ids → id ≡ slice_index_or ids n id → id ≡ drawn_id tx n
read_is tx ids n id drawn low found = read_from tx 0 ids n id drawn (slice_get_read ids (length ids) n id refl low found) ∙ ap (drawn_id tx) (omega arith)

pub of_same : (own tx : Digest) (ids lent : List ObjectId) → AreDrawn own 0 ids → digest_eq own tx ≡ true → lent ≡ ids → AreDrawn tx 0 lent
of_same own tx ids lent drawn same is = subst (λ (l : List ObjectId). AreDrawn tx 0 l) (sym is) (subst (λ (d : Digest). AreDrawn d 0 ids) (digest_same own tx same) drawn)

all_new : (tx : Digest) (n : ℕ) (ids : List ObjectId) (b : Bool) → b ≡ false → AreDrawn tx n (if b then [] else ids) → AreDrawn tx n ids
all_new tx n ids true e drawn = absurd (cc)
all_new tx n ids false e drawn = drawn

results_are : (tx : Digest) (before made : ℕ) (results others : List Item) → AreDrawn tx before (new_ids before made results) → nat_le made before ≡ false → results ≡ others → AreDrawn tx before (map (λ (i : Item). i.id) others)
results_are tx before made results others drawn more is =
    subst (λ (l : List Item). AreDrawn tx before (map (λ (i : Item). i.id) l)) is (all_new tx before (map (λ (i : Item). i.id) results) (nat_le made before) more drawn)

pub first_new : (tx : Digest) (before made : ℕ) (results : List Item) (first : Item) (others : List Item)
    → AreDrawn tx before (new_ids before made results) → nat_le made before ≡ false → results ≡ first ∷ others → first.id ≡ drawn_id tx before
first_new tx before made results first others drawn more is = (results_are tx before made results (first ∷ others) drawn more is).0

pub second_new : (tx : Digest) (before made : ℕ) (results : List Item) (first second : Item) (others rest : List Item)
    → AreDrawn tx before (new_ids before made results) → nat_le made before ≡ false → results ≡ first ∷ others → others ≡ second ∷ rest → second.id ≡ drawn_id tx (before + 1)
second_new tx before made results first second others rest drawn more is after =
    (results_are tx before made results (first ∷ second ∷ rest) drawn more (is ∙ ap (λ (l : List Item). first ∷ l) after)).1.0
