-- Applied checkpoints, and the sequential execution of their transactions.
use Rattle.std.proofs.Common.{◌≡◌, ℕ, ◌+◌, Bool, true, false, cond, ◌||◌, not, List, [], ◌∷◌, ◌++◌, Option, Some, None, map, is_some, refl, ap, sym, ◌∙◌, option_map, append-nil, append_assoc, length, arith}
use Rattle.std.specs.Prelude.{fold, flat_map}
use Rattle.std.proofs.lemmas.List.{map-append}
use Rattle.std.proofs.lemmas.List.Sums.{fold-append}
use Rattle.digest_core.specs.declared.Digest.{Digest}
use Rattle.chain_types.specs.declared.objects.Object.{Object}
use Rattle.chain_types.specs.declared.transactions.Transaction.{Transaction}
use Rattle.chain_types.specs.Digests.{transaction_digest}
use Rattle.chain_types.specs.Equal.{digest_eq}
use Rattle.checkpoint_core.specs.declared.checkpoints.Checkpoint.{Checkpoint}
use Rattle.checkpoint_core.specs.declared.checkpoints.Item.{Item}
use Rattle.effects_core.specs.declared.effects.Effects.{Effects}
use Rattle.effects_core.specs.Effects.{digest_of_effects}
use Rattle.protocol_spec.specs.declared.pieces.Executed.{Executed}
use Rattle.protocol_spec.proofs.Equality.{digest_same}
use Rattle.protocol_spec.proofs.Truth.{or_false_right, where_false}
use Rattle.protocol_spec.specs.Chain.Keys.{fits}
use Rattle.protocol_spec.specs.Chain.Shape.{shape_fault}
use Rattle.protocol_spec.specs.Chain.Tests.{has_digest}
use Rattle.protocol_spec.specs.Chain.Words.{where_true}
use Rattle.protocol_spec.specs.Block.Execution.{execution}
use Rattle.protocol_spec.specs.Member.Sequential.{Folded, Objects, executed_on, fold_all, fold_one, map_after, map_of, read_by, with_execution, without_effects}
use Rattle.follower_core.specs.declared.refusals.FollowRefusal.TheVariants as refused
use Rattle.follower_core.specs.Followed.{Handed, followed, followed_effects, joined, told_effects}
use Rattle.follower_core.specs.Courses.{Course, behind, behind_all, behind_given, differs_in, first_bad, given, given_on, is_bad, is_stuck, place_refusal}
use Rattle.follower_core.specs.Following.{AreApplied, State, behind_checkpoint, behind_handed, course_behind, opened, turned}
use Rattle.follower_core.proofs.Answering.{counts_agree, front_none, none_refused}

-- ---- one transaction

-- the fold goes on by what is given
folded_by : Folded → Option Executed → Folded
folded_by f None = without_effects f
folded_by f (Some x) = with_execution f x

one_is : (f : Folded) (t : Transaction) → fold_one f t ≡ folded_by f (given f.map t)
unfolding fold_one given folded_by
one_is f t = by (read_by f.map t)
  where
    by : (o : Option (List Object)) → executed_on f t o ≡ folded_by f (given_on t o)
    by None = refl
    by (Some objects) = fit (fits t objects)
      where
        fit : (b : Bool) → (cond b (with_execution f (execution t objects)) (without_effects f)) ≡ folded_by f (cond b (Some (execution t objects)) None)
        fit true = refl
        fit false = refl

one_map : (f : Folded) (m : Course) (t : Transaction) → f.map ≡ m.map → (fold_one f t).map ≡ (behind m t).map
unfolding folded_by
one_map f m t same = ap (λ (g : Folded). g.map) (one_is f t) ∙ by (given f.map t) ∙ ap (λ (k : Objects). (behind_given m t (given k t)).map) same
  where
    by : (g : Option Executed) → (folded_by f g).map ≡ (behind_given m t g).map
    by None = same
    by (Some x) = ap (λ (k : Objects). map_after k x) same

-- ---- the transactions of a checkpoint

all_map : (ts : List Transaction) (f : Folded) (m : Course) → f.map ≡ m.map → (fold fold_one f ts).map ≡ (behind_all m ts).map
all_map [] f m same = same
all_map (t ∷ ts) f m same = all_map ts (fold_one f t) (behind m t) (one_map f m t same)

abbrev told : List (Option Effects) → List (Option Digest)
told effects = map (option_map digest_of_effects) effects

abbrev listed : List Item → List (Option Digest)
listed items = map (λ (i : Item). Some i.effects) items

-- what stands at a place gives the effects of its item
record IsListed (m : Course) (i : Item) (t : Transaction) : Type 0 where
  gave : Executed
  gives : given m.map t ≡ Some gave
  told_so : digest_of_effects gave.effects ≡ i.effects

bad_free : (m : Course) (t : Transaction) → is_stuck m t ≡ false → is_bad m t (given m.map t) ≡ false
unfolding is_stuck
bad_free m t h = or_false_right (has_digest m.ran (transaction_digest t)) (is_bad m t (given m.map t)) (or_false_right (is_some (shape_fault t)) (has_digest m.ran (transaction_digest t) || is_bad m t (given m.map t)) h)

is_true : (b : Bool) → not b ≡ false → b ≡ true
is_true true h = refl
is_true false h = absurd (cc)

stands_listed : (m : Course) (place : ℕ) (i : Item) (t : Transaction) → place_refusal m place i t ≡ None → IsListed m i t
unfolding place_refusal
stands_listed m place i t h =
    let first = front_none (where_true (not (digest_eq (transaction_digest t) i.tx)) (refused.WrongTx place)) (where_true (is_stuck m t) (refused.Stuck place) ∷ differs_in place (given m.map t) i.effects ∷ []) h in
    let second = front_none (where_true (is_stuck m t) (refused.Stuck place)) (differs_in place (given m.map t) i.effects ∷ []) first.1 in
    let third = front_none (differs_in place (given m.map t) i.effects) [] second.1 in
    by (given m.map t) refl (bad_free m t (where_false (is_stuck m t) (refused.Stuck place) second.0)) third.0
  where
    by : (g : Option Executed) → given m.map t ≡ g → is_bad m t g ≡ false → differs_in place g i.effects ≡ None → IsListed m i t
    by None is free same = absurd (cc)
    by (Some x) is free same = record {
      gave = x;
      gives = is;
      told_so = digest_same (digest_of_effects x.effects) i.effects (is_true (digest_eq (digest_of_effects x.effects) i.effects) (where_false (not (digest_eq (digest_of_effects x.effects) i.effects)) (refused.Differs place (digest_of_effects x.effects) i.effects) same));
    }

one_effects : (f : Folded) (m : Course) (i : Item) (t : Transaction) → f.map ≡ m.map → IsListed m i t → told (fold_one f t).effects ≡ told f.effects ++ Some i.effects ∷ []
unfolding folded_by
one_effects f m i t same stands =
    ap (λ (g : Folded). told g.effects) (one_is f t ∙ ap (folded_by f) (ap (λ (k : Objects). given k t) same ∙ stands.gives))
    ∙ map-append (option_map digest_of_effects) f.effects (Some stands.gave.effects ∷ [])
    ∙ ap (λ (d : Digest). told f.effects ++ Some d ∷ []) stands.told_so

all_effects : (is : List Item) (ts : List Transaction) (place : ℕ) (f : Folded) (m : Course) → f.map ≡ m.map → length ts ≡ length is → first_bad m place is ts ≡ None
    → told (fold fold_one f ts).effects ≡ told f.effects ++ listed is
all_effects [] [] place f m same size none = sym (append-nil (told f.effects))
all_effects [] (t ∷ ts) place f m same size none = absurd (omega (arith, size))
all_effects (i ∷ is) [] place f m same size none = absurd (omega (arith, size))
all_effects (i ∷ is) (t ∷ ts) place f m same size none =
    let first = front_none (place_refusal m place i t) (first_bad (behind m t) (place + 1) is ts ∷ []) none in
    let second = front_none (first_bad (behind m t) (place + 1) is ts) [] first.1 in
    let fewer : length ts ≡ length is = omega (arith, size) in
    all_effects is ts (place + 1) (fold_one f t) (behind m t) (one_map f m t same) fewer second.0
    ∙ ap (λ ds. ds ++ listed is) (one_effects f m i t same (stands_listed m place i t first.0))
    ∙ append_assoc (told f.effects) (Some i.effects ∷ []) (listed is)

-- ---- checkpoint after checkpoint

turn_map : (m : Course) (c : Checkpoint) (txs : List Transaction) → (course_behind m c txs).map ≡ (behind_all m txs).map
turn_map m c txs = by c.last
  where
    by : (b : Bool) → (cond b (turned (behind_all m txs)) (behind_all m txs)).map ≡ (behind_all m txs).map
    by true = refl
    by false = refl

step_map : (s : State) (f : Folded) (h : Handed) → f.map ≡ s.course.map → (fold fold_one f h.txs).map ≡ (behind_checkpoint s h.checkpoint h.txs).course.map
step_map s f h same = all_map h.txs f s.course same ∙ sym (turn_map s.course h.checkpoint h.txs)

objects_of : (hs : List Handed) (s : State) (f : Folded) → f.map ≡ s.course.map → (fold fold_one f (joined hs)).map ≡ (behind_handed s hs).course.map
objects_of [] s f same = same
objects_of (h ∷ hs) s f same =
    ap (λ (g : Folded). g.map) (fold-append fold_one f h.txs (joined hs))
    ∙ objects_of hs (behind_checkpoint s h.checkpoint h.txs) (fold fold_one f h.txs) (step_map s f h same)

effects_of : (hs : List Handed) (s : State) (f : Folded) → f.map ≡ s.course.map → AreApplied s hs → told (fold fold_one f (joined hs)).effects ≡ told f.effects ++ told_effects hs
effects_of [] s f same applied = sym (append-nil (told f.effects))
effects_of (h ∷ hs) s f same applied =
    let none = none_refused s h.checkpoint h.txs applied.0 in
    ap (λ (g : Folded). told g.effects) (fold-append fold_one f h.txs (joined hs))
    ∙ effects_of hs (behind_checkpoint s h.checkpoint h.txs) (fold fold_one f h.txs) (step_map s f h same) applied.1
    ∙ ap (λ ds. ds ++ told_effects hs) (all_effects h.checkpoint.items h.txs 0 f s.course same (counts_agree s.tip h.checkpoint h.txs none.0) none.1)
    ∙ append_assoc (told f.effects) (listed h.checkpoint.items) (told_effects hs)
    ∙ ap (λ ds. told f.effects ++ ds) (sym (map-append (λ (i : Item). Some i.effects) h.checkpoint.items (flat_map (λ (g : Handed). g.checkpoint.items) hs)))

pub all_followed : (opening : List Object) (hs : List Handed) → (behind_handed (opened opening) hs).course.map ≡ followed opening hs
unfolding followed fold_all
all_followed opening hs = sym (objects_of hs (opened opening) (record { map = map_of opening; effects = [] }) refl)

pub all_told : (opening : List Object) (hs : List Handed) → AreApplied (opened opening) hs → told (followed_effects opening hs) ≡ told_effects hs
unfolding followed_effects fold_all
all_told opening hs applied = effects_of hs (opened opening) (record { map = map_of opening; effects = [] }) refl applied
