-- What is assumed of a run holds of each prefix of it: the prefix delivers, hands over and makes no more.
use Rattle.std.proofs.Common.{inl, inr, sym, subst}
use Rattle.std.specs.Prelude.{◌≡◌, ◌⊎◌, List, [], ◌∷◌, ◌++◌, map}
use Rattle.chain_types.specs.declared.transactions.Transaction.{Transaction}
use Rattle.chain_types.specs.declared.transactions.SignedTx.{SignedTx}
use Rattle.chain_messages.specs.declared.messages.Certificate.{Certificate}
use Rattle.schedule_text.specs.declared.words.Event.{Event}
use Rattle.protocol_spec.proofs.ListLemmas.{has_parts, has_left, has_map, has_mapped, has_right}
use Rattle.protocol_spec.specs.Chain.Words.{Has}
use Rattle.world_spec.specs.Setting.{Setting}
use Rattle.world_spec.specs.World.{Made, Formed, World, new_world}
use Rattle.world_spec.specs.Step.{happens}
use Rattle.world_spec.specs.Run.{world_after}
use Rattle.world_spec.specs.Assumptions.{asked, delivered, all_of, all_formed, all_delivered, all_transactions, IsHonestRun, NoForgery}
use Rattle.safety_law.proofs.Grown.{IsGrown, grown-run, world-append}
use Rattle.safety_law.proofs.Forks.{all-front}

-- the second list has each element of the first
abbrev IsWithin : {A : Type 0} → List A → List A → Type 0
IsWithin {A} xs ys = (x : A) → Has xs x → Has ys x

map-within : {A B : Type 0} (f : A → B) (xs ys : List A) → IsWithin xs ys → IsWithin (map f xs) (map f ys)
map-within {A} f xs ys within y h = go (has_mapped f xs y h)
  where
    go : (x : A) × Has xs x × (f x ≡ y) → Has (map f ys) y
    go (x, h, e) = subst (Has (map f ys)) e (has_map f ys x (within x h))

join-within : {A : Type 0} (xs ys us vs : List A) → IsWithin xs us → IsWithin ys vs → IsWithin (xs ++ ys) (us ++ vs)
join-within xs ys us vs one other x h = go (has_parts xs ys x h)
  where
    go : Has xs x ⊎ Has ys x → Has (us ++ vs) x
    go (inl h) = has_left us vs x (one x h)
    go (inr h) = has_right us vs x (other x h)

unforged-front : (s : Setting) (front back : List Event) (w : World) → NoForgery s (front ++ back) w → NoForgery s front w
unforged-front s [] back w none = tt
unforged-front s (e ∷ front) back w none = (none.0, none.1, unforged-front s front back (happens s w e) none.2)

module _ (s : Setting) (front back : List Event) where
  grown : IsGrown (world_after s front) (world_after s (front ++ back))
  grown = subst (IsGrown (world_after s front)) (sym (world-append s front back)) (grown-run s back (world_after s front))

  transactions-front : IsWithin (all_transactions s front) (all_transactions s (front ++ back))
  unfolding all_transactions all_formed all_delivered
  transactions-front =
      join-within (map (λ (t : Made). t.signed.tx) (world_after s front).txs) _ (map (λ (t : Made). t.signed.tx) (world_after s (front ++ back)).txs) _
      (map-within (λ (t : Made). t.signed.tx) (world_after s front).txs (world_after s (front ++ back)).txs grown.txs)
      (join-within (map (λ (x : SignedTx). x.tx) (all_of asked s front (new_world s))) _ (map (λ (x : SignedTx). x.tx) (all_of asked s (front ++ back) (new_world s))) _
      (map-within (λ (x : SignedTx). x.tx) (all_of asked s front (new_world s)) (all_of asked s (front ++ back) (new_world s)) (all-front asked s front back (new_world s)))
      (map-within (λ (c : Certificate). c.tx) (map (λ (f : Formed). f.cert) (world_after s front).certs ++ all_of delivered s front (new_world s)) (map (λ (f : Formed). f.cert) (world_after s (front ++ back)).certs ++ all_of delivered s (front ++ back) (new_world s))
      (join-within (map (λ (f : Formed). f.cert) (world_after s front).certs) (all_of delivered s front (new_world s)) (map (λ (f : Formed). f.cert) (world_after s (front ++ back)).certs) (all_of delivered s (front ++ back) (new_world s))
      (map-within (λ (f : Formed). f.cert) (world_after s front).certs (world_after s (front ++ back)).certs grown.certs)
      (all-front delivered s front back (new_world s)))))

pub honest-front : (s : Setting) (front back : List Event) → IsHonestRun s (front ++ back) → IsHonestRun s front
honest-front s front back run_is = record {
  few_faulty = run_is.few_faulty;
  no_forgery = unforged-front s front back (new_world s) run_is.no_forgery;
  transactions = λ t u h k. run_is.transactions t u (within t h) (within u k);
  ids = record {
    drawn = λ t u h k. run_is.ids.drawn t u (within t h) (within u k);
    opened = λ t h. run_is.ids.opened t (within t h);
  };
}
  where
    within : (t : Transaction) → Has (all_transactions s front) t → Has (all_transactions s (front ++ back)) t
    within t h = transactions-front s front back t h
