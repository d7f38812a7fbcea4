-- The live objects, put into their places.
use Rattle.std.proofs.Common.{◌≡◌, List, [], ◌∷◌, refl, ap}
use Rattle.std.specs.Ordering.{match_ordering}
use Rattle.std.specs.declared.cmp.Ordering.{Ordering}
use Rattle.std.specs.declared.cmp.Ordering.TheVariants.{Less, Equal, Greater}
use Rattle.std.specs.BTreeMap.{insert_entry}
use Rattle.std.specs.FinMap.Entries.{by_order, put}

pub entry_put : {K V : Type 0} → (cmp : K → K → Ordering) (es : List (K × V)) (k : K) (v : V) → insert_entry cmp es k v ≡ put cmp k v es
entry_put cmp [] k v = refl
entry_put cmp (e ∷ es) k v = by (cmp k e.0) (entry_put cmp es k v)
  where
    by : (o : Ordering) → insert_entry cmp es k v ≡ put cmp k v es
        → match_ordering o ((k, v) ∷ e ∷ es) ((e.0, v) ∷ es) (e ∷ insert_entry cmp es k v) ≡ by_order o ((k, v) ∷ e ∷ es) ((e.0, v) ∷ es) (e ∷ put cmp k v es)
    by Less more = refl
    by Equal more = refl
    by Greater more = ap (λ xs. e ∷ xs) more
