-- Orderly steps are transactions that may run one after the other on one thread's map.
use Rattle.std.proofs.Common.{inl, inr, refl, sym, subst, ap, ◌∙◌, append_assoc, append-nil}
use Rattle.std.specs.Prelude.{◌≡◌, true, List, [], ◌∷◌, ◌++◌, map, fold, Some, None}
use Rattle.std.specs.FinMap.{get}
use Rattle.chain_types.specs.declared.objects.ObjectId.{ObjectId}
use Rattle.digest_core.specs.declared.Digest.{Digest}
use Rattle.chain_types.specs.declared.objects.Object.{Object}
use Rattle.chain_types.specs.declared.transactions.Transaction.{Transaction}
use Rattle.protocol_spec.proofs.Executions.{effects_tx}
use Rattle.protocol_spec.proofs.ListLemmas.{has_mapped}
use Rattle.protocol_spec.specs.Chain.Words.{Has, Each, Along, numbers_below}
use Rattle.protocol_spec.specs.Chain.Keys.{fits}
use Rattle.protocol_spec.specs.Chain.Shape.{shape_fault}
use Rattle.protocol_spec.specs.Member.Sequential.{Objects, map_of, read_by, Folded, fold_one, fold_all}
use Rattle.block_law.proofs.Written.{below}
use Rattle.block_law.specs.Names.{drawn_id, drawn_ids}
use Rattle.block_law.specs.Keeping.{GasIsAmount}
use Rattle.block_law.specs.Kept.{MayFollow, Follow, opened_with}
use Rattle.safety_law.specs.Opened.{GasHolds}
use Rattle.block_law.specs.Orderly.{Step, gave, tx_of, id_of, IsKnown, IsOrderly, AreOrderly, AreApart, ReadsSame}
use Rattle.block_law.proofs.Standing.{stays-after, none-opening}
use Rattle.block_law.proofs.ReadingSteps.{given_ids, no-id, after_steps, after-push, known-more, WroteKnown, IsGoneOver, over-next, thread-is, chain-reads}
use Rattle.safety_law.proofs.Totals.{each-all}

-- one more transaction
fold-push : (f : Folded) (txs : List Transaction) (t : Transaction) → fold fold_one f (txs ++ t ∷ []) ≡ fold_one (fold fold_one f txs) t
fold-push f [] t = refl
fold-push f (u ∷ txs) t = fold-push (fold_one f u) txs t

map-push : (before : List Step) (x : Step) → map tx_of (before ++ x ∷ []) ≡ map tx_of before ++ x.tx ∷ []
map-push [] x = refl
map-push (y ∷ before) x = ap (λ (ts : List Transaction). y.tx ∷ ts) (map-push before x)

thread-push : (m : Objects) (before : List Step) (x : Step) → fold_all m (map tx_of (before ++ x ∷ [])) ≡ fold_one (fold_all m (map tx_of before)) x.tx
unfolding fold_all
thread-push m before x = ap (fold fold_one (opened_with m)) (map-push before x) ∙ fold-push (opened_with m) (map tx_of before) x.tx

module _ (opening : List Object) (distinct : AreApart opening) where
  -- an id that is not known is not in the map
  not-there : (id : ObjectId) (xs before : List Step) → Along (WroteKnown opening) before xs → (IsKnown opening (before ++ xs) id → ⊥) → get (after_steps opening before) id ≡ None → get (after_steps opening (before ++ xs)) id ≡ None
  not-there id [] before wrote unknown none = subst (λ (ys : List Step). get (after_steps opening ys) id ≡ None) (sym (append-nil before)) none
  not-there id (y ∷ xs) before wrote unknown none =
      subst (λ (ys : List Step). get (after_steps opening ys) id ≡ None) whole (not-there id xs (before ++ y ∷ []) wrote.1 unknown-yet here)
    where
      whole : (before ++ y ∷ []) ++ xs ≡ before ++ (y ∷ xs)
      whole = append_assoc before (y ∷ []) xs

      unknown-yet : IsKnown opening ((before ++ y ∷ []) ++ xs) id → ⊥
      unknown-yet known = unknown (subst (λ (ys : List Step). IsKnown opening ys id) whole known)

      here : get (after_steps opening (before ++ y ∷ [])) id ≡ None
      here = subst (λ (m : Objects). get m id ≡ None) (sym (after-push opening (map_of opening) before y))
          (stays-after (after_steps opening before) (gave y) id (no-id (given_ids y) id (λ i h e.
          unknown-yet (known-more opening (before ++ y ∷ []) xs id (subst (IsKnown opening (before ++ y ∷ [])) e (wrote.0 i h))))) ∙ none)

  pub none-known : (before : List Step) → IsGoneOver opening before → (id : ObjectId) → (IsKnown opening before id → ⊥) → get (after_steps opening before) id ≡ None
  none-known before over id unknown = not-there id before [] over.known unknown (none-opening opening id (no-id (map id_of opening) id opened))
    where
      opened : (i : ObjectId) → Has (map id_of opening) i → i ≡ id → ⊥
      opened i h e = let o = has_mapped id_of opening i h in unknown (inl (o.0, o.1, o.2 ∙ e))

  module _ (before : List Step) (over : IsGoneOver opening before) (x : Step) (next : IsOrderly opening before x) (shape : shape_fault x.tx ≡ None) where
    map-is : (fold_all (map_of opening) (map tx_of before)).map ≡ after_steps opening before
    map-is = ap (λ (f : Folded). f.map) (thread-is opening before over.orderly over.finds)

    new-ids : Each (λ (id : ObjectId). get (fold_all (map_of opening) (map tx_of before)).map id ≡ None) (drawn_ids (gave x).effects.tx (gave x).effects.created)
    new-ids = each-all (λ (id : ObjectId). get (fold_all (map_of opening) (map tx_of before)).map id ≡ None) (drawn_ids (gave x).effects.tx (gave x).effects.created) (λ id h.
        let k = has_mapped (drawn_id (gave x).effects.tx) (numbers_below (gave x).effects.created) id h in
        subst (λ (m : Objects). get m id ≡ None) (sym map-is)
        (none-known before over id (next.fresh id (k.0, below (gave x).effects.created k.0 k.1, ap (λ (d : Digest). drawn_id d k.0) (sym (effects_tx x.tx x.inputs)) ∙ k.2))))

    may-follow : GasIsAmount x.inputs → ReadsSame opening before x → (objects : List Object) → read_by (fold_all (map_of opening) (map tx_of before)).map x.tx ≡ Some objects → fits x.tx objects ≡ true → MayFollow (fold_all (map_of opening) (map tx_of before)).map x.tx objects
    may-follow held reads objects read fit = subst (MayFollow (fold_all (map_of opening) (map tx_of before)).map x.tx) (same (sym reads ∙ read)) (record { may = record { shape = shape; fit = next.fit; held = held; apart = next.once }; new = new-ids })
      where
        same : Some x.inputs ≡ Some objects → x.inputs ≡ objects
        same e = cc

  follow-on : (xs before : List Step) → IsGoneOver opening before → Along (IsOrderly opening) before xs → Along (ReadsSame opening) before xs → ((x : Step) → Has xs x → shape_fault x.tx ≡ None)
      → GasHolds (fold_all (map_of opening) (map tx_of before)) (map tx_of xs) → Follow (fold_all (map_of opening) (map tx_of before)) (map tx_of xs)
  follow-on [] before over next reads shapes amounts = tt
  follow-on (x ∷ xs) before over next reads shapes amounts = (
    may-follow before over x next.0 (shapes x (inl refl)) (amounts.0 x.inputs reads.0) reads.0,
    subst (λ (f : Folded). Follow f (map tx_of xs)) (thread-push (map_of opening) before x)
        (follow-on xs (before ++ x ∷ []) (over-next opening distinct before over x next.0) next.1 reads.1 (λ y h. shapes y (inr h))
        (subst (λ (f : Folded). GasHolds f (map tx_of xs)) (sym (thread-push (map_of opening) before x)) amounts.1)),
  )

  pub steps-follow : (steps : List Step) → AreOrderly opening steps → ((x : Step) → Has steps x → shape_fault x.tx ≡ None) → GasHolds (opened_with (map_of opening)) (map tx_of steps)
      → Follow (opened_with (map_of opening)) (map tx_of steps)
  unfolding fold_all
  steps-follow steps orderly shapes amounts = follow-on steps [] (record { orderly = tt; finds = tt; known = tt }) orderly (chain-reads opening steps distinct orderly).reads shapes amounts
