-- For each currency, what is held moves with the supplies of its caps and with the gas.
use Rattle.std.proofs.Common.{refl, ap, sym, subst, ◌∙◌, inl, inr}
use Rattle.std.specs.Prelude.{◌≡◌, ◌≤◌, ◌<◌, ◌+◌, ◌-◌, min, ℕ, Bool, true, false, cond, ◌==◌, List, [], ◌∷◌, ◌++◌, map, filter_map, find, sum_by, option_map, Option, Some, None, Result, Ok, Err}
use Rattle.std.specs.List.{cons_option}
use native.Mathlib.Omega.{arith}
use Rattle.digest_core.specs.declared.Digest.{Digest}
use Rattle.chain_types.specs.declared.objects.ObjectId.{ObjectId}
use Rattle.chain_types.specs.declared.objects.Object.{Object}
use Rattle.chain_types.specs.declared.objects.Content.{Content}
use Rattle.chain_types.specs.declared.objects.Content.TheVariants as content
use Rattle.chain_types.specs.declared.transactions.Transaction.{Transaction}
use Rattle.chain_types.specs.Equal.{id_eq}
use Rattle.chain_types.specs.Digests.{transaction_digest}
use Rattle.protocol_spec.specs.declared.pieces.Placed.{Placed}
use Rattle.protocol_spec.proofs.Equality.{id_same, id_self}
use Rattle.protocol_spec.specs.Chain.Words.{Each, Has, repeats}
use Rattle.protocol_spec.specs.Chain.Keys.{fits, money_of, currency_sum, version_of, named_ids}
use Rattle.protocol_spec.specs.Chain.Shape.{cost}
use Rattle.protocol_spec.specs.Block.Natives.{amount_limit, amount_of, with_amount}
use Rattle.protocol_spec.specs.Block.Block.{Place, gas, Value, pure, object, vector, Slot, Block, value_in}
use Rattle.protocol_spec.specs.Block.Commands.{piece_of}
use Rattle.protocol_spec.specs.Block.Execution.{Failure, first_slots, first_block, outcome, object_at, now_in, after_block, written_inputs, written_places, created_objects, with_rest_first, done_objects, same_object, failed_objects, execution, executed_by}
use Rattle.block_law.specs.Money.{supply_of, supply_sum, caps_of, cap_count}
use Rattle.block_law.specs.Names.{drawn_ids, touched_ids}
use Rattle.block_law.specs.Keeping.{MayRun, objects_before, gas_in}
use Rattle.block_law.proofs.Counts.{hit, times, times-append, id_equal, once-each}
use Rattle.block_law.proofs.Slots.{placed_weight, block_weight, value_weight, Every}
use Rattle.block_law.proofs.Amounts.{cond-part, part-plus, sum-cons}
use Rattle.block_law.proofs.Kept.{Stands}
use Rattle.block_law.proofs.Steps.{counts}
use Rattle.block_law.proofs.Failing.{gas-is, affords}
use Rattle.block_law.proofs.Blocks.{IsDone, done-is, first-behind}
use Rattle.block_law.proofs.Payer.{Pays, ends}
use Rattle.block_law.proofs.Effects.{IsInput, inputs-first, first_ids, places-ids, objects-ids}
use Rattle.block_law.proofs.Sums.{places_weight, unwritten, whole-weight, holds, objects_weight, objects-append, start-done, placed-times, spent-most, spent_ids, left-weight}

-- ---- the gas coin after a block

has-count : (placed : List Placed) (p : Placed) → Has placed p → 1 ≤ placed_weight (counts p.item.id) placed
has-count [] p has = absurd has
has-count (q ∷ placed) p (inl e) = let here = ap hit (subst (λ (r : Placed). id_eq r.item.id p.item.id ≡ true) (sym e) (id_self p.item.id)) in omega (arith, here)
has-count (q ∷ placed) p (inr has) = let rest = has-count placed p has in omega (arith, rest)

-- an object that left is the one that is found
has-found : (placed : List Placed) (p : Placed) (id : ObjectId) → Has placed p → p.item.id ≡ id → placed_weight (counts p.item.id) placed ≤ 1 → find (λ (q : Placed). id_eq q.item.id id) placed ≡ Some p
has-found [] p id has same once = absurd has
has-found (q ∷ placed) p id (inl e) same once = rw (id_equal q.item.id id (ap (λ (r : Placed). r.item.id) e ∙ same)) (ap Some e)
has-found (q ∷ placed) p id (inr has) same once = go (id_eq q.item.id id) refl (has-found placed p id has same)
  where
    go : (b : Bool) → id_eq q.item.id id ≡ b → (placed_weight (counts p.item.id) placed ≤ 1 → find (λ (r : Placed). id_eq r.item.id id) placed ≡ Some p) → cond b (Some q) (find (λ (r : Placed). id_eq r.item.id id) placed) ≡ Some p
    go true h rest = absurd (let here = ap hit (id_equal q.item.id p.item.id (id_same q.item.id id h ∙ sym same)) in let more = has-count placed p has in omega (arith, once, here, more))
    go false h rest = rest (omega (arith, once))

-- what became of the gas coin: it is still a coin of its currency, and can hold the budget that was withheld
record IsGasLeft (t : Transaction) (a : Option Object) : Type 0 where
  coin : Object
  is : a ≡ Some coin
  holds_now : ℕ
  content_is : coin.content ≡ content.Coin 0 holds_now
  low : holds_now + t.budget < amount_limit

gas-slot : (t : Transaction) (tx : Digest) (coin : Object) (os : List Object) (b : Block) → IsDone t tx (coin ∷ os) b → Every (Pays t coin.id b.placed) b.slots → Pays t coin.id b.placed gas (value_in gas b.slots)
gas-slot t tx coin os b is pays = go b.slots is.kept.stands pays
  where
    go : (slots : List Slot) → Stands (map (λ (s : Slot). s.place) (first_slots t (coin ∷ os))) slots → Every (Pays t coin.id b.placed) slots → Pays t coin.id b.placed gas (value_in gas slots)
    go [] stands pays = absurd stands
    go (s ∷ slots) stands pays =
        let here : value_in gas (s ∷ slots) ≡ s.value = rw stands.0 refl in
        subst (λ (v : Option Value). Pays t coin.id b.placed gas v) (sym here) (subst (λ (p : Place). Pays t coin.id b.placed p s.value) stands.0 pays.0)

gas-left : (t : Transaction) (version : ℕ) (coin : Object) (b : Block) → Pays t coin.id b.placed gas (value_in gas b.slots) → ((x : ObjectId) → placed_weight (counts x) b.placed ≤ 1) → IsGasLeft t (after_block version b gas coin)
gas-left t version coin b pays once = go (value_in gas b.slots) pays
  where
    go : (v : Option Value) → Pays t coin.id b.placed gas v → IsGasLeft t (now_in version b.placed coin (piece_of v))
    go (Some (pure bytes)) pays = absurd pays
    go (Some (vector k is)) pays = absurd pays
    go (Some (object now)) pays = record { coin = object_at version coin.owner now; is = refl; holds_now = pays.shows; content_is = pays.is_coin; low = pays.low }
    go None went =
        let found = has-found b.placed went.0 coin.id went.1.0 went.1.1.same (once went.0.item.id) in
        record {
          coin = object_at version went.0.owner went.0.item;
          is = ap (option_map (λ (p : Placed). object_at version p.owner p.item)) found;
          holds_now = went.1.1.shows;
          content_is = went.1.1.is_coin;
          low = went.1.1.low;
        }

-- ---- weights of coins that pay gas

-- f adds up over coins of the gas currency, as g does
record IsAdditive (f : Content → ℕ) (g : ℕ → ℕ) : Type 0 where
  adds : (m n : ℕ) → f (content.Coin 0 (m + n)) ≡ f (content.Coin 0 m) + g n

money-adds : (c : ℕ) → IsAdditive (money_of c) (λ n. money_of c (content.Coin 0 n))
money-adds c = record {
  adds = λ m n.
      let a = cond-part (0 == c) (m + n) in let b = cond-part (0 == c) m in let d = cond-part (0 == c) n in let e = part-plus (0 == c) m n in omega (arith, a, b, d, e);
}

supply-adds : (c : ℕ) → IsAdditive (supply_of c) (λ n. 0)
supply-adds c = record { adds = λ m n. refl }

caps-adds : (c : ℕ) → IsAdditive (caps_of c) (λ n. 0)
caps-adds c = record { adds = λ m n. refl }

module _ (f : Content → ℕ) (g : ℕ → ℕ) (additive : IsAdditive f g) where
  inputs-same : (first : List Slot) (xs : List (Place × Object)) → Each (IsInput first) xs → places_weight (holds f) first xs ≡ objects_weight f (map (λ (x : Place × Object). x.1) xs)
  inputs-same first [] each = refl
  inputs-same first (x ∷ xs) each = let rest = inputs-same first xs each.1 in let here = ap (value_weight (holds f)) each.0.there in omega (arith, rest, here)

  -- before the block the budget is withheld
  start-weight : (t : Transaction) (tx : Digest) (coin : Object) (os : List Object) (balance : ℕ) → coin.content ≡ content.Coin 0 balance → t.budget ≤ balance → block_weight (holds f) (first_block t (coin ∷ os)) + g t.budget ≡ objects_weight f (objects_before t (coin ∷ os)) + unwritten (holds f) t.inputs os
  start-weight t tx coin os balance held enough =
      let whole = whole-weight (holds f) t tx coin os (first_block t (coin ∷ os)) (start-done t tx coin os) in
      let same = inputs-same (first_slots t (coin ∷ os)) (written_inputs 0 t.inputs os) (inputs-first (first_slots t (coin ∷ os)) 0 t.inputs os (first-behind t coin os)) in
      let shown : f (with_amount (amount_of coin.content - t.budget) coin.content) ≡ f (content.Coin 0 (balance - t.budget)) = ap (λ (k : Content). f (with_amount (amount_of k - t.budget) k)) held in
      let had : f coin.content ≡ f (content.Coin 0 balance) = ap f held in
      let all : f (content.Coin 0 balance) ≡ f (content.Coin 0 ((balance - t.budget) + t.budget)) = ap (λ n. f (content.Coin 0 n)) back in
      let more = additive.adds (balance - t.budget) t.budget in
      omega (arith, whole, same, shown, had, all, more)
    where
      back : balance ≡ (balance - t.budget) + t.budget
      back = omega (arith, enough)

  -- the rest goes back whole
  rest-weight : (t : Transaction) (a : Option Object) (os : List Object) → IsGasLeft t a → objects_weight f (with_rest_first t (cons_option a os)) ≡ objects_weight f (cons_option a os) + g (t.budget - cost t)
  rest-weight t None os left = absurd (let is = left.is in cc)
  rest-weight t (Some o) os left =
      let same : o ≡ left.coin = back o left.is in
      let held : o.content ≡ content.Coin 0 left.holds_now = ap (λ (x : Object). x.content) same ∙ left.content_is in
      let now : f (with_amount (min (amount_of o.content + (t.budget - cost t)) (amount_limit - 1)) o.content) ≡ f (content.Coin 0 (min (left.holds_now + (t.budget - cost t)) (amount_limit - 1))) = ap (λ (k : Content). f (with_amount (min (amount_of k + (t.budget - cost t)) (amount_limit - 1)) k)) held in
      let unmet : f (content.Coin 0 (min (left.holds_now + (t.budget - cost t)) (amount_limit - 1))) ≡ f (content.Coin 0 (left.holds_now + (t.budget - cost t))) = ap (λ n. f (content.Coin 0 n)) (whole left.holds_now left.low) in
      let was : f o.content ≡ f (content.Coin 0 left.holds_now) = ap f held in
      let more = additive.adds left.holds_now (t.budget - cost t) in
      omega (arith, now, unmet, was, more)
    where
      back : (o : Object) → Some o ≡ Some left.coin → o ≡ left.coin
      back o e = cc

      whole : (n : ℕ) → n + t.budget < amount_limit → min (n + (t.budget - cost t)) (amount_limit - 1) ≡ n + (t.budget - cost t)
      whole n low = omega (arith, low)

  done-weight : (t : Transaction) (tx : Digest) (coin : Object) (os : List Object) (b : Block) → Every (Pays t coin.id b.placed) b.slots → IsDone t tx (coin ∷ os) b → ((x : ObjectId) → times x (first_ids (written_places t (coin ∷ os))) + times x (drawn_ids tx b.made) ≤ 1)
      → objects_weight f (done_objects t tx (coin ∷ os) b) + unwritten (holds f) t.inputs os ≡ block_weight (holds f) b + g (t.budget - cost t)
  done-weight t tx coin os b pays is apart =
      let version : ℕ = version_of (coin ∷ os) in
      let left = left-weight f t tx (version_of (coin ∷ os)) coin os b is apart in
      let rest = rest-weight t (after_block (version_of (coin ∷ os)) b gas coin) (filter_map (λ (x : Place × Object). after_block (version_of (coin ∷ os)) b x.0 x.1) (written_inputs 0 t.inputs os)) (gas-left t (version_of (coin ∷ os)) coin b (gas-slot t tx coin os b is pays) once) in
      let both = objects-append f (with_rest_first t (filter_map (λ (x : Place × Object). after_block (version_of (coin ∷ os)) b x.0 x.1) (written_places t (coin ∷ os)))) (created_objects tx (version_of (coin ∷ os)) b) in
      omega (arith, left, rest, both)
    where
      once : (x : ObjectId) → placed_weight (counts x) b.placed ≤ 1
      once x =
          let placed = placed-times t tx coin os b is x in
          let split = times-append x (spent_ids b.slots (written_places t (coin ∷ os))) (drawn_ids tx b.made) in
          let most = spent-most b.slots x (written_places t (coin ∷ os)) in
          let one = apart x in
          omega (arith, placed, split, most, one)

  same-weight : (version : ℕ) (xs : List (Place × Object)) → objects_weight f (map (λ (x : Place × Object). same_object version x.1) xs) ≡ objects_weight f (map (λ (x : Place × Object). x.1) xs)
  same-weight version [] = refl
  same-weight version (x ∷ xs) = let rest = same-weight version xs in omega (arith, rest)

  -- a failed block leaves what was there, less the cost
  failed-weight : (t : Transaction) (coin : Object) (os : List Object) (balance : ℕ) → coin.content ≡ content.Coin 0 balance → cost t ≤ balance → objects_weight f (failed_objects t (coin ∷ os)) + g (cost t) ≡ objects_weight f (objects_before t (coin ∷ os))
  failed-weight t coin os balance held enough =
      let rest = same-weight (version_of (coin ∷ os)) (written_inputs 0 t.inputs os) in
      let now : f (with_amount (amount_of coin.content - cost t) coin.content) ≡ f (content.Coin 0 (balance - cost t)) = ap (λ (k : Content). f (with_amount (amount_of k - cost t) k)) held in
      let was : f coin.content ≡ f (content.Coin 0 balance) = ap f held in
      let all : f (content.Coin 0 balance) ≡ f (content.Coin 0 ((balance - cost t) + cost t)) = ap (λ n. f (content.Coin 0 n)) back in
      let more = additive.adds (balance - cost t) (cost t) in
      omega (arith, rest, now, was, all, more)
    where
      back : balance ≡ (balance - cost t) + cost t
      back = omega (arith, enough)

pub sum-weight : (f : Content → ℕ) (os : List Object) → sum_by (λ (o : Object). f o.content) os ≡ objects_weight f os
sum-weight f [] = refl
sum-weight f (o ∷ os) = let one = sum-cons (λ (o : Object). f o.content) o os in let rest = sum-weight f os in omega (arith, one, rest)

-- ---- the laws

-- ids that are apart
apart-of : (t : Transaction) (coin : Object) (os : List Object) (b : Block) → fits t (coin ∷ os) ≡ true → repeats id_eq (named_ids t ++ drawn_ids (transaction_digest t) b.made) ≡ false → (x : ObjectId) → times x (first_ids (written_places t (coin ∷ os))) + times x (drawn_ids (transaction_digest t) b.made) ≤ 1
apart-of t coin os b fit apart x =
    let once = once-each (named_ids t ++ drawn_ids (transaction_digest t) b.made) apart x in
    let split = times-append x (named_ids t) (drawn_ids (transaction_digest t) b.made) in
    let named = subst (λ ids. times x (first_ids (written_places t (coin ∷ os))) ≤ times x ids) (objects-ids t (coin ∷ os) fit) (places-ids t (coin ∷ os) x) in
    omega (arith, once, split, named)

no-objects : (t : Transaction) → fits t [] ≡ true → ⊥
unfolding fits
no-objects t e = cc

gas-pays : (t : Transaction) (coin : Object) (os : List Object) (b : Block) → MayRun t (coin ∷ os) → (balance : ℕ) × (coin.content ≡ content.Coin 0 balance) × (t.budget ≤ balance) → outcome t (transaction_digest t) (coin ∷ os) ≡ Ok b → Every (Pays t coin.id b.placed) b.slots
gas-pays t coin os b may coin_is h =
    let same = ap amount_of coin_is.1 in
    let held = may.held in
    ends t (transaction_digest t) coin os coin_is.0 b coin_is.1 coin_is.2 (omega (arith, same, held)) h

weights-move : (t : Transaction) (objects : List Object) → MayRun t objects → (c : ℕ) →
    objects_weight (money_of c) (execution t objects).objects + gas_in c (execution t objects).effects.gas + objects_weight (supply_of c) (objects_before t objects) ≡ objects_weight (money_of c) (objects_before t objects) + objects_weight (supply_of c) (execution t objects).objects
unfolding execution
weights-move t [] may c = absurd (no-objects t may.fit)
weights-move t (coin ∷ os) may c = go (outcome t (transaction_digest t) (coin ∷ os)) refl may.apart (gas-is t coin os may.fit) (affords t may.shape)
  where
    go : (r : Result Block Failure) → outcome t (transaction_digest t) (coin ∷ os) ≡ r → repeats id_eq (touched_ids t (executed_by t (transaction_digest t) (coin ∷ os) r).effects) ≡ false → (balance : ℕ) × (coin.content ≡ content.Coin 0 balance) × (t.budget ≤ balance) → cost t ≤ t.budget
        → objects_weight (money_of c) (executed_by t (transaction_digest t) (coin ∷ os) r).objects + gas_in c (executed_by t (transaction_digest t) (coin ∷ os) r).effects.gas + objects_weight (supply_of c) (objects_before t (coin ∷ os)) ≡ objects_weight (money_of c) (objects_before t (coin ∷ os)) + objects_weight (supply_of c) (executed_by t (transaction_digest t) (coin ∷ os) r).objects
    go (Err failure) h apart coin_is enough =
        let holds_cost : cost t ≤ coin_is.0 = omega (arith, enough, coin_is.2) in
        let moneys = failed-weight (money_of c) (λ n. money_of c (content.Coin 0 n)) (money-adds c) t coin os coin_is.0 coin_is.1 holds_cost in
        let supplies = failed-weight (supply_of c) (λ n. 0) (supply-adds c) t coin os coin_is.0 coin_is.1 holds_cost in
        omega (arith, moneys, supplies)
    go (Ok b) h apart coin_is enough =
        let is = done-is t (transaction_digest t) (coin ∷ os) b h in
        let pays = gas-pays t coin os b may coin_is h in
        let ids = apart-of t coin os b may.fit apart in
        let money_then = start-weight (money_of c) (λ n. money_of c (content.Coin 0 n)) (money-adds c) t (transaction_digest t) coin os coin_is.0 coin_is.1 coin_is.2 in
        let money_now = done-weight (money_of c) (λ n. money_of c (content.Coin 0 n)) (money-adds c) t (transaction_digest t) coin os b pays is ids in
        let supply_then = start-weight (supply_of c) (λ n. 0) (supply-adds c) t (transaction_digest t) coin os coin_is.0 coin_is.1 coin_is.2 in
        let supply_now = done-weight (supply_of c) (λ n. 0) (supply-adds c) t (transaction_digest t) coin os b pays is ids in
        let sums = is.kept.sums c in
        let budget : money_of c (content.Coin 0 t.budget) ≡ money_of c (content.Coin 0 ((t.budget - cost t) + cost t)) = ap (λ n. money_of c (content.Coin 0 n)) back in
        let parts = (money-adds c).adds (t.budget - cost t) (cost t) in
        omega (arith, money_then, money_now, supply_then, supply_now, sums, budget, parts)
      where
        back : t.budget ≡ (t.budget - cost t) + cost t
        back = omega (arith, enough)

pub money_moves : (t : Transaction) (objects : List Object) → MayRun t objects → (c : ℕ) →
    currency_sum (execution t objects).objects c + gas_in c (execution t objects).effects.gas + supply_sum (objects_before t objects) c ≡ currency_sum (objects_before t objects) c + supply_sum (execution t objects).objects c
unfolding currency_sum
money_moves t objects may c =
    let moved = weights-move t objects may c in
    let a = sum-weight (money_of c) (execution t objects).objects in
    let b = sum-weight (money_of c) (objects_before t objects) in
    let d = sum-weight (supply_of c) (execution t objects).objects in
    let e = sum-weight (supply_of c) (objects_before t objects) in
    omega (arith, moved, a, b, d, e)

caps-weight : (t : Transaction) (objects : List Object) → MayRun t objects → (c : ℕ) → objects_weight (caps_of c) (execution t objects).objects ≡ objects_weight (caps_of c) (objects_before t objects)
unfolding execution
caps-weight t [] may c = absurd (no-objects t may.fit)
caps-weight t (coin ∷ os) may c = go (outcome t (transaction_digest t) (coin ∷ os)) refl may.apart (gas-is t coin os may.fit) (affords t may.shape)
  where
    go : (r : Result Block Failure) → outcome t (transaction_digest t) (coin ∷ os) ≡ r → repeats id_eq (touched_ids t (executed_by t (transaction_digest t) (coin ∷ os) r).effects) ≡ false → (balance : ℕ) × (coin.content ≡ content.Coin 0 balance) × (t.budget ≤ balance) → cost t ≤ t.budget
        → objects_weight (caps_of c) (executed_by t (transaction_digest t) (coin ∷ os) r).objects ≡ objects_weight (caps_of c) (objects_before t (coin ∷ os))
    go (Err failure) h apart coin_is enough =
        let same = failed-weight (caps_of c) (λ n. 0) (caps-adds c) t coin os coin_is.0 coin_is.1 (omega (arith, enough, coin_is.2)) in
        omega (arith, same)
    go (Ok b) h apart coin_is enough =
        let is = done-is t (transaction_digest t) (coin ∷ os) b h in
        let pays = gas-pays t coin os b may coin_is h in
        let ids = apart-of t coin os b may.fit apart in
        let then = start-weight (caps_of c) (λ n. 0) (caps-adds c) t (transaction_digest t) coin os coin_is.0 coin_is.1 coin_is.2 in
        let now = done-weight (caps_of c) (λ n. 0) (caps-adds c) t (transaction_digest t) coin os b pays is ids in
        let same = is.kept.all_caps c in
        omega (arith, then, now, same)

pub caps_kept : (t : Transaction) (objects : List Object) → MayRun t objects → (c : ℕ) → cap_count (execution t objects).objects c ≡ cap_count (objects_before t objects) c
caps_kept t objects may c =
    let same = caps-weight t objects may c in
    let a = sum-weight (caps_of c) (execution t objects).objects in
    let b = sum-weight (caps_of c) (objects_before t objects) in
    omega (arith, same, a, b)

-- without a cap there is no supply
no-cap : (c : ℕ) (k : Content) → caps_of c k ≡ 0 → supply_of c k ≡ 0
no-cap c (content.Cap currency total) e = go (currency == c) e
  where
    go : (b : Bool) → cond {A = ℕ} b 1 0 ≡ 0 → cond b total 0 ≡ 0
    go true e = absurd (omega (arith, e))
    go false e = refl
no-cap c (content.Coin currency balance) e = refl
no-cap c (content.Counter value) e = refl
no-cap c (content.Vault currency balance) e = refl
no-cap c (content.VaultKey vault) e = refl
no-cap c (content.Limit value) e = refl

pub no-supply : (c : ℕ) (os : List Object) → objects_weight (caps_of c) os ≡ 0 → objects_weight (supply_of c) os ≡ 0
no-supply c [] e = refl
no-supply c (o ∷ os) e = let here = no-cap c o.content (omega (arith, e)) in let rest = no-supply c os (omega (arith, e)) in omega (arith, here, rest)

pub gas_kept : (t : Transaction) (objects : List Object) → MayRun t objects → cap_count (objects_before t objects) 0 ≡ 0 → currency_sum (execution t objects).objects 0 + (execution t objects).effects.gas ≡ currency_sum (objects_before t objects) 0
gas_kept t objects may none =
    let moved = money_moves t objects may 0 in
    let count = sum-weight (caps_of 0) (objects_before t objects) in
    let same = caps-weight t objects may 0 in
    let before = no-supply 0 (objects_before t objects) (omega (arith, none, count)) in
    let after = no-supply 0 (execution t objects).objects (omega (arith, none, count, same)) in
    let d = sum-weight (supply_of 0) (execution t objects).objects in
    let e = sum-weight (supply_of 0) (objects_before t objects) in
    omega (arith, moved, before, after, d, e)
