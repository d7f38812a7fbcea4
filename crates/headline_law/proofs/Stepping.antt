-- A step of one thread at a follower: it is not stuck, and it gives what the step gave.
use Rattle.std.proofs.Common.{inl, inr, refl, sym, subst, ap, ◌∙◌}
use Rattle.std.specs.Prelude.{◌≡◌, ◌⊎◌, Bool, true, false, cond, not, ◌&&◌, List, [], ◌∷◌, ◌++◌, map, Option, Some, None}
use Rattle.std.specs.List.{list_any}
use Rattle.std.specs.FinMap.{get}
use Rattle.indexmap.specs.IndexSet.{insert_all, insert_key}
use Rattle.digest_core.specs.declared.Digest.{Digest}
use Rattle.chain_types.specs.declared.objects.Object.{Object}
use Rattle.chain_types.specs.declared.objects.ObjectId.{ObjectId}
use Rattle.chain_types.specs.Equal.{digest_eq, id_eq}
use Rattle.chain_types.specs.Digests.{transaction_digest}
use Rattle.protocol_spec.specs.declared.pieces.Executed.{Executed}
use Rattle.protocol_spec.proofs.Equality.{digest_same}
use Rattle.protocol_spec.proofs.ListLemmas.{has_mapped, has_parts, has_right}
use Rattle.protocol_spec.proofs.Truth.{or_false_left, or_false_right}
use Rattle.protocol_spec.specs.Chain.Words.{Has, repeats}
use Rattle.protocol_spec.specs.Chain.Tests.{has_digest, has_id}
use Rattle.protocol_spec.specs.Chain.Keys.{named_ids, objects_of}
use Rattle.protocol_spec.specs.Chain.Shape.{shape_fault}
use Rattle.protocol_spec.specs.Member.Sequential.{Folded, Objects, fold_all, map_after, map_of, read_by}
use Rattle.block_law.proofs.Effects.{objects-ids}
use Rattle.block_law.proofs.Steps.{map-append}
use Rattle.block_law.proofs.Written.{second}
use Rattle.block_law.specs.Orderly.{AreApart, IsKnown, IsOrderly, ReadsSame, Step, gave, id_of, tx_of}
use Rattle.block_law.proofs.Standing.{any-parts}
use Rattle.block_law.proofs.Touched.{IsReplaced, IsTouched, touched-object}
use Rattle.block_law.proofs.ReadingSteps.{IsGoneOver, WroteKnown, after-push, after_steps, along-back, given-once, has-id, has-mapped-id, known-more, no-id, over-next, thread-is}
use Rattle.safety_law.proofs.Following.{none-known}
use Rattle.follower_core.specs.Courses.{Course, behind, behind_given, creates_held, given, given_on, is_bad, is_held, is_stuck, written_ids}
use Rattle.headline_law.proofs.Dropping.{any-none}

-- ---- lists

-- if no id of a list comes twice, none of its prefix does
repeats-front : (xs ys : List ObjectId) → repeats id_eq (xs ++ ys) ≡ false → repeats id_eq xs ≡ false
repeats-front [] ys e = refl
repeats-front (x ∷ xs) ys e =
    rw (any-parts x xs ys (or_false_left (list_any (id_eq x) (xs ++ ys)) (repeats id_eq (xs ++ ys)) e)).0
    (repeats-front xs ys (or_false_right (list_any (id_eq x) (xs ++ ys)) (repeats id_eq (xs ++ ys)) e))

-- an id among those that were inserted was there, or is one of the new ones
has-inserted : (xs ks : List ObjectId) (id : ObjectId) → Has (insert_all id_eq ks xs) id → Has ks id ⊎ Has xs id
has-inserted [] ks id h = inl h
has-inserted (x ∷ xs) ks id h = go (has-inserted xs (insert_key id_eq ks x) id h)
  where
    parts : Has ks id ⊎ Has (x ∷ []) id → Has ks id ⊎ Has (x ∷ xs) id
    parts (inl k) = inl k
    parts (inr (inl e)) = inr (inl e)
    parts (inr (inr k)) = absurd k

    one : (b : Bool) → Has (cond b ks (ks ++ x ∷ [])) id → Has ks id ⊎ Has (x ∷ xs) id
    one true k = inl k
    one false k = parts (has_parts ks (x ∷ []) id k)

    go : Has (insert_key id_eq ks x) id ⊎ Has xs id → Has ks id ⊎ Has (x ∷ xs) id
    go (inl k) = one (list_any (id_eq x) ks) k
    go (inr k) = inr (inr k)

-- ---- a follower after steps

abbrev pub digest_in : Step → Digest
digest_in x = transaction_digest x.tx

module _ (opening : List Object) where
  -- in an epoch that opened with these objects, after these steps
  pub record IsBehind (m : Course) (before : List Step) : Type 0 where
    pub objects : m.map ≡ after_steps opening before
    pub ran : m.ran ≡ map digest_in before
    pub gone : (id : ObjectId) → Has m.gone id → IsKnown opening before id

  -- a step in order, that one thread reads, of valid shape, and not one of those before
  pub record MayStand (before : List Step) (x : Step) : Type 0 where
    pub orderly : IsOrderly opening before x
    pub reads : ReadsSame opening before x
    pub shape : shape_fault x.tx ≡ None
    pub new : (y : Step) → Has before y → digest_in y ≡ digest_in x → ⊥

  module _ (distinct : AreApart opening) where
    module _ (before : List Step) (over : IsGoneOver opening before) (x : Step) (may : MayStand before x) (m : Course) (is : IsBehind m before) where
      map-is : (fold_all (map_of opening) (map tx_of before)).map ≡ after_steps opening before
      map-is = ap (λ (f : Folded). f.map) (thread-is opening before over.orderly over.finds)

      read : read_by m.map x.tx ≡ Some x.inputs
      read = ap (λ (k : Objects). read_by k x.tx) (is.objects ∙ sym map-is) ∙ may.reads

      -- it has effects: those of the step (block_law: ChainReads)
      pub gives : given m.map x.tx ≡ Some (gave x)
      unfolding given
      gives = ap (given_on x.tx) read ∙ ap (λ (b : Bool). cond b (Some (gave x)) None) may.orderly.fit

      -- an id that is not known is held in no version
      not-held : (id : ObjectId) → (IsKnown opening before id → ⊥) → is_held m id ≡ false
      not-held id unknown =
          rw (ap (λ (k : Objects). get k id) is.objects ∙ none-known opening distinct before over id unknown)
          (no-id m.gone id (λ i h e. unknown (subst (IsKnown opening before) e (is.gone i h))))

      -- an object that it writes is one that it names, or one whose id is held in no version (block_law: what a step
      -- touches is what it names and may write, and what it draws)
      named : (id : ObjectId) → IsReplaced x id → has_id (named_ids x.tx) id ≡ true
      named id it = has-id (named_ids x.tx) id (subst (λ (ids : List ObjectId). Has ids id) (objects-ids x.tx x.inputs may.orderly.fit)
          (subst (Has (map id_of x.inputs)) it.same (has-mapped-id x.inputs it.old (second (objects_of x.tx) x.inputs it.of it.old it.named))))

      unknown : (id : ObjectId) → has_id (named_ids x.tx) id ≡ false → IsTouched x id → IsKnown opening before id → ⊥
      unknown id e (inl it) known = let n = named id it in cc
      unknown id e (inr makes) known = may.orderly.fresh id makes known

      creates-new : (o : Object) → Has (gave x).objects o → creates_held m x.tx o ≡ false
      creates-new o h = go (has_id (named_ids x.tx) o.id) refl
        where
          go : (b : Bool) → has_id (named_ids x.tx) o.id ≡ b → (not b && is_held m o.id) ≡ false
          go true e = refl
          go false e = not-held o.id (unknown o.id e (touched-object x o h))

      -- no id is written twice (block_law: EffectsNameEachIdOnce)
      written-once : repeats id_eq (written_ids (gave x)) ≡ false
      written-once = repeats-front (map id_of (gave x).objects) (gave x).effects.deleted (given-once opening x may.orderly.fit may.orderly.once)

      not-bad : is_bad m x.tx (Some (gave x)) ≡ false
      not-bad = rw written-once (any-none (creates_held m x.tx) (gave x).objects creates-new)

      not-ran : has_digest m.ran (transaction_digest x.tx) ≡ false
      not-ran = ap (λ (ds : List Digest). has_digest ds (digest_in x)) is.ran ∙ any-none (digest_eq (digest_in x)) (map digest_in before) other
        where
          other : (d : Digest) → Has (map digest_in before) d → digest_eq (digest_in x) d ≡ false
          other d h = go (digest_eq (digest_in x) d) refl
            where
              y : (y : Step) × Has before y × (digest_in y ≡ d)
              y = has_mapped digest_in before d h

              go : (b : Bool) → digest_eq (digest_in x) d ≡ b → b ≡ false
              go true e = absurd (may.new y.0 y.1 (y.2 ∙ sym (digest_same (digest_in x) d e)))
              go false e = refl

      pub not-stuck : is_stuck m x.tx ≡ false
      unfolding is_stuck
      not-stuck = rw (may.shape, not-ran, gives) not-bad

      -- ---- and after it

      pub over-is : IsGoneOver opening (before ++ x ∷ [])
      over-is = over-next opening distinct before over x may.orderly

      wrote : WroteKnown opening before x
      wrote = (along-back opening (WroteKnown opening) [] before (x ∷ []) over-is.known).0

      gone-known : (id : ObjectId) → Has m.gone id ⊎ Has (gave x).effects.deleted id → IsKnown opening (before ++ x ∷ []) id
      gone-known id (inl h) = known-more opening before (x ∷ []) id (is.gone id h)
      gone-known id (inr h) = wrote id (has_right (map id_of (gave x).objects) (gave x).effects.deleted id h)

      pub behind-is : IsBehind (behind m x.tx) (before ++ x ∷ [])
      behind-is = subst (λ (g : Option Executed). IsBehind (behind_given m x.tx g) (before ++ x ∷ [])) (sym gives) (record {
        objects = ap (λ (k : Objects). map_after k (gave x)) is.objects ∙ sym (after-push opening (map_of opening) before x);
        ran = ap (λ (ds : List Digest). ds ++ digest_in x ∷ []) is.ran ∙ sym (map-append digest_in before (x ∷ []));
        gone = λ id h. gone-known id (has-inserted (gave x).effects.deleted m.gone id h);
      })
