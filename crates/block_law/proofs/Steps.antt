-- What a command takes and gives, and what it keeps: the commands that call no native.
use Rattle.std.proofs.Common.{refl, ap, sym, subst, ◌∙◌, inl, inr}
use Rattle.std.proofs.lemmas.Bool.{ltb-false}
use Rattle.std.specs.Prelude.{◌≡◌, ◌≤◌, ◌+◌, ◌-◌, ℕ, suc, Bool, true, false, cond, not, ◌==◌, nat_lt, List, [], ◌∷◌, ◌++◌, map, sum, length, Option, Some, None, Result, Ok, Err}
use Rattle.std.specs.List.{list_any, enumerate_from}
use native.Mathlib.Omega.{arith}
use Rattle.digest_core.specs.declared.Digest.{Digest}
use Rattle.chain_types.specs.declared.objects.ObjectId.{ObjectId}
use Rattle.chain_types.specs.declared.objects.Address.{Address}
use Rattle.chain_types.specs.declared.objects.Owner.{Owner}
use Rattle.chain_types.specs.declared.objects.Owner.TheVariants as owner
use Rattle.chain_types.specs.declared.objects.Kind.{Kind}
use Rattle.chain_types.specs.declared.objects.Kind.TheVariants as kind
use Rattle.chain_types.specs.declared.objects.Content.TheVariants as content
use Rattle.chain_types.specs.declared.transactions.Argument.{Argument}
use Rattle.chain_types.specs.declared.transactions.Command.{Command}
use Rattle.chain_types.specs.declared.transactions.Transaction.{Transaction}
use Rattle.chain_types.specs.Equal.{id_eq}
use Rattle.protocol_spec.specs.declared.pieces.Item.{Item}
use Rattle.protocol_spec.specs.declared.pieces.Placed.{Placed}
use Rattle.protocol_spec.proofs.ListLemmas.{append_nil, has_map, all_none, each_as, has_right}
use Rattle.protocol_spec.proofs.Truth.{where_false, equal_numbers}
use Rattle.protocol_spec.specs.Chain.Words.{Each, Has, numbers_below, first_some, unless_refused}
use Rattle.protocol_spec.specs.Chain.Tests.{kind_eq}
use Rattle.protocol_spec.specs.Block.Natives.{kind_of, currency_of, holding, Site, new_item}
use Rattle.protocol_spec.specs.Block.Block.{Place, gas, input, result, Value, pure, object, vector, Slot, Block, place_eq, value_in, put_in, result_slots}
use Rattle.protocol_spec.specs.Block.Commands.{Fault, cause, number, address, by_value, by_mut, all_by, place_of, is_transfer, is_frozen_place, stays_in_place, piece_of, item_in, items_in, number_in, spend, spend_all, numbered_coin, split_block, split, sum_of, merge_cases, merge_block, merge, placed_at, transfer_block, vector_block, site}
use Rattle.block_law.specs.Names.{drawn_id, drawn_ids}
use Rattle.block_law.proofs.Counts.{hit, times, times-append}
use Rattle.block_law.proofs.Slots.{place-same, items_weight, values_weight, placed_weight, block_weight, slots-append, placed-append, objects-weight, put-weight, Every, put-every, value-every, Others, Lies, spend-weight, spend-placed, spend-made, spend-other, spend-every}
use Rattle.block_law.proofs.Reading.{AllRead, covers-last, is-changed, Takes, takes, takes-others, takes-each}
use Rattle.block_law.proofs.Amounts.{cond-part, part, part-plus, part-zero, sum-cons, money, supply, caps, coin-purse, IsPurseItem, IsOf, each-false, coins-money, coins-supply, coins-caps, amount}
use Rattle.block_law.proofs.Kept.{Like, Turned, Went, IsSorted, Good, good-holding, good-spent, every-grows, Stands, put-stands, stands-results, every-results, results-weight}

-- ---- what went in and what came out

-- 1 for an item of this id
abbrev pub counts : ObjectId → Item → ℕ
counts x i = hit (id_eq i.id x)

-- money and supplies move together, no cap comes or goes, and ids are those of before or newly drawn
pub record Balanced (tx : Digest) (made after : ℕ) (ins outs : List Item) : Type 0 where
  pub moved : (c : ℕ) → items_weight (money c) outs + items_weight (supply c) ins ≡ items_weight (money c) ins + items_weight (supply c) outs
  pub same_caps : (c : ℕ) → items_weight (caps c) outs ≡ items_weight (caps c) ins
  pub drew : (x : ObjectId) → items_weight (counts x) outs + times x (drawn_ids tx made) ≤ items_weight (counts x) ins + times x (drawn_ids tx after)

-- from one block to the next
pub record IsStep (t : Transaction) (tx : Digest) (first : List Slot) (b after : Block) : Type 0 where
  pub ins : List Item
  pub outs : List Item
  pub weighs : (w : Item → ℕ) → block_weight w after + items_weight w ins ≡ block_weight w b + items_weight w outs
  pub balanced : Balanced tx b.made after.made ins outs
  pub good : Every (Good t first after.placed) after.slots
  pub stands : (places : List Place) → Stands places b.slots → Stands places after.slots

-- ---- ids that were drawn

pub map-append : {A B : Type 0} (f : A → B) (xs ys : List A) → map f (xs ++ ys) ≡ map f xs ++ map f ys
map-append f [] ys = refl
map-append f (x ∷ xs) ys = ap (λ zs. f x ∷ zs) (map-append f xs ys)

pub drawn-next : (tx : Digest) (x : ObjectId) (m n : ℕ) → m ≡ suc n → times x (drawn_ids tx m) ≡ times x (drawn_ids tx n) + hit (id_eq (drawn_id tx n) x)
drawn-next tx x m n e =
    let this : times x (drawn_ids tx m) ≡ times x (drawn_ids tx (suc n)) = ap (λ k. times x (drawn_ids tx k)) e in
    let both : times x (drawn_ids tx (suc n)) ≡ times x (map (drawn_id tx) (numbers_below n) ++ map (drawn_id tx) (n ∷ [])) = ap (times x) (map-append (drawn_id tx) (numbers_below n) (n ∷ [])) in
    let apart = times-append x (map (drawn_id tx) (numbers_below n)) (map (drawn_id tx) (n ∷ [])) in
    omega (arith, this, both, apart)

pub drawn-same : (tx : Digest) (x : ObjectId) (m n : ℕ) → m ≡ n → times x (drawn_ids tx m) ≡ times x (drawn_ids tx n)
drawn-same tx x m n e = ap (λ k. times x (drawn_ids tx k)) e

-- ---- small steps

abbrev pub done : (A E : Type 0) → A → Result A E
done A E x = Ok x

pub ok-same : {A : Type 0} (E : Type 0) (x y : A) → done A E x ≡ done A E y → x ≡ y
ok-same E x y e = cc

pub unless-ok : {A E : Type 0} (r : Option E) (x y : A) → unless_refused r x ≡ Ok y → (r ≡ None) × (x ≡ y)
unless-ok {E = E} None x y e = (refl, ok-same E x y e)
unless-ok (Some refusal) x y e = absurd (cc)

pub place-apart : (p q : Place) → place_eq p q ≡ false → place_eq q p ≡ false
place-apart p q e = go (place_eq q p) refl
  where
    go : (b : Bool) → place_eq q p ≡ b → b ≡ false
    go true h = let same : place_eq p q ≡ true = subst (λ z. place_eq z q ≡ true) (place-same q p h) (subst (λ z. place_eq q z ≡ true) (sym (place-same q p h)) h) in absurd (cc)
    go false h = refl

pub others-back : (p : Place) (args : List Argument) → Others p args → Each (λ (a : Argument). place_eq (place_of a) p ≡ false) args
others-back p [] others = tt
others-back p (a ∷ args) others = (place-apart p (place_of a) others.0, others-back p args others.1)

-- ---- Split: new coins

abbrev pub new_coins : Site → ℕ → ℕ → List ℕ → List Item
new_coins s currency from amounts = map (λ (n : ℕ × ℕ). new_item s n.0 (content.Coin currency n.1)) (enumerate_from from amounts)

new-weight : (w : Item → ℕ) (s : Site) (currency from : ℕ) (amounts : List ℕ) → values_weight w (map (numbered_coin s currency) (enumerate_from from amounts)) ≡ items_weight w (new_coins s currency from amounts)
new-weight w s currency from [] = refl
new-weight w s currency from (n ∷ ns) = let rest = new-weight w s currency (from + 1) ns in omega (arith, rest)

new-money : (c : ℕ) (s : Site) (currency from : ℕ) (amounts : List ℕ) → items_weight (money c) (new_coins s currency from amounts) ≡ part (currency == c) (sum amounts)
new-money c s currency from [] = sym (part-zero (currency == c))
new-money c s currency from (n ∷ ns) =
    let rest = new-money c s currency (from + 1) ns in
    let total = ap (part (currency == c)) (sum-cons (λ (x : ℕ). x) n ns) in
    let split = part-plus (currency == c) n (sum ns) in
    let one = cond-part (currency == c) n in
    omega (arith, rest, total, split, one)

new-supply : (c : ℕ) (s : Site) (currency from : ℕ) (amounts : List ℕ) → items_weight (supply c) (new_coins s currency from amounts) ≡ 0
new-supply c s currency from [] = refl
new-supply c s currency from (n ∷ ns) = let rest = new-supply c s currency (from + 1) ns in omega (arith, rest)

new-caps : (c : ℕ) (s : Site) (currency from : ℕ) (amounts : List ℕ) → items_weight (caps c) (new_coins s currency from amounts) ≡ 0
new-caps c s currency from [] = refl
new-caps c s currency from (n ∷ ns) = let rest = new-caps c s currency (from + 1) ns in omega (arith, rest)

new-ids : (x : ObjectId) (s : Site) (currency from : ℕ) (amounts : List ℕ) → items_weight (counts x) (new_coins s currency from amounts) + times x (drawn_ids s.tx (s.made + from)) ≡ times x (drawn_ids s.tx (s.made + from + length amounts))
new-ids x s currency from [] = let same = drawn-same s.tx x (s.made + from) (s.made + from + 0) (omega arith) in omega (arith, same)
new-ids x s currency from (n ∷ ns) =
    let rest = new-ids x s currency (from + 1) ns in
    let here = drawn-next s.tx x (s.made + (from + 1)) (s.made + from) (omega arith) in
    let end = drawn-same s.tx x (s.made + (from + 1) + length ns) (s.made + from + length (n ∷ ns)) (omega arith) in
    omega (arith, rest, here, end)

pub spend-stands : (places : List Place) (args : List Argument) (b : Block) → Stands places b.slots → Stands places (spend_all args b).slots
spend-stands places [] b stands = stands
spend-stands places (a ∷ args) b stands = spend-stands places args (spend a b) (put-stands places (place_of a) None b.slots stands)

pub placed-map : (w : Item → ℕ) (who : Owner) (items : List Item) → placed_weight w (map (placed_at who) items) ≡ items_weight w items
placed-map w who [] = refl
placed-map w who (i ∷ items) = let rest = placed-map w who items in omega (arith, rest)

pub coins-sorted : (s : Site) (currency from : ℕ) (amounts : List ℕ) → Each IsSorted (map (numbered_coin s currency) (enumerate_from from amounts))
coins-sorted s currency from [] = tt
coins-sorted s currency from (n ∷ ns) = (tt, coins-sorted s currency (from + 1) ns)

module _ (t : Transaction) (tx : Digest) (version c : ℕ) (first : List Slot) (b : Block) (each : Every (Good t first b.placed) b.slots) where
  split-done : (cmd : Command) (coin : Argument) (item : Item) (amounts : List ℕ) → value_in (place_of coin) b.slots ≡ Some (object item) → IsPurseItem item → is_frozen_place t (place_of coin) ≡ false → sum amounts ≤ amount item → IsStep t tx first b (split_block (site tx version b) c b coin item amounts)
  split-done cmd coin item amounts there purse thawed enough = record {
    ins = item ∷ [];
    outs = held ∷ coins;
    weighs = λ w.
        let put = put-weight w (place_of coin) (Some (object held)) (object item) b.slots there in
        let both = slots-append w (put_in (place_of coin) (Some (object held)) b.slots) (result_slots c values) in
        let more = results-weight w c values in
        let same = new-weight w s currency 0 amounts in
        omega (arith, put, both, more, same);
    balanced = record {
      moved = λ k.
          let gave = purse.filled k (amount item - sum amounts) in
          let had = purse.holds k in
          let none = purse.no_supply k (amount item - sum amounts) in
          let had_none = purse.had_no_supply k in
          let new = new-money k s currency 0 amounts in
          let new_none = new-supply k s currency 0 amounts in
          let whole = ap (part (currency == k)) back in
          let parts = part-plus (currency == k) (amount item - sum amounts) (sum amounts) in
          omega (arith, gave, had, none, had_none, new, new_none, whole, parts);
      same_caps = λ k.
          let none = purse.no_cap k (amount item - sum amounts) in
          let had_none = purse.was_no_cap k in
          let new_none = new-caps k s currency 0 amounts in
          omega (arith, none, had_none, new_none);
      drew = λ x.
          let new = new-ids x s currency 0 amounts in
          let start = drawn-same tx x (b.made + 0) b.made (omega arith) in
          let end = drawn-same tx x (b.made + 0 + length amounts) (b.made + length amounts) (omega arith) in
          omega (arith, new, start, end);
    };
    good = every-results t first b.placed (put_in (place_of coin) (Some (object held)) b.slots) c values (coins-sorted s currency 0 amounts)
        (put-every (Good t first b.placed) (place_of coin) (Some (object held)) b.slots each
        (good-holding t first b.placed (place_of coin) item (amount item - sum amounts) thawed (value-every (Good t first b.placed) (place_of coin) (object item) b.slots each there)));
    stands = λ places stand. stands-results places (put_in (place_of coin) (Some (object held)) b.slots) c values (put-stands places (place_of coin) (Some (object held)) b.slots stand);
  }
    where
      s : Site
      s = site tx version b

      currency : ℕ
      currency = currency_of item.content

      held : Item
      held = holding (amount item - sum amounts) item

      coins : List Item
      coins = new_coins s currency 0 amounts

      values : List Value
      values = map (numbered_coin s currency) (enumerate_from 0 amounts)

      back : amount item ≡ (amount item - sum amounts) + sum amounts
      back = omega (arith, enough)

  pub split-step : (cmd : Command) (coin : Argument) (amounts : List Argument) (after : Block) → AllRead t b cmd [] ((coin, by_mut kind.Coin) ∷ all_by number amounts) → split (site tx version b) c b coin (item_in b coin) (map (number_in b) amounts) ≡ Ok after → IsStep t tx first b after
  split-step cmd coin amounts after read e = go (nat_lt (amount o.0) (sum ns)) refl (subst (λ i. split (site tx version b) c b coin i ns ≡ Ok after) (ap piece_of there) e)
    where
      ns : List ℕ
      ns = map (number_in b) amounts

      o : (i : Item) × ((read.0.value ≡ object i) × (kind_eq (kind_of i.content) kind.Coin ≡ true))
      o = is-changed kind.Coin read.0.value read.0.fitting

      there : value_in (place_of coin) b.slots ≡ Some (object o.0)
      there = read.0.there ∙ ap Some o.1.0

      go : (x : Bool) → nat_lt (amount o.0) (sum ns) ≡ x → cond x (Err (cause 8)) (Ok (split_block (site tx version b) c b coin o.0 ns)) ≡ Ok after → IsStep t tx first b after
      go true h e = absurd (cc)
      go false h e = subst (IsStep t tx first b) (ok-same Fault (split_block (site tx version b) c b coin o.0 ns) after e) (split-done cmd coin o.0 ns there (coin-purse o.0.content o.1.1) read.0.thaws (ltb-false (amount o.0) (sum ns) h))

  -- ---- Merge: the sources go into the target

  merge-done : (cmd : Command) (target : Argument) (item : Item) (sources : List Argument) (k : Takes t b cmd sources) → is_transfer cmd ≡ false → value_in (place_of target) b.slots ≡ Some (object item) → Others (place_of target) sources → IsPurseItem item → Each IsPurseItem k.items → Each (IsOf (currency_of item.content)) k.items → is_frozen_place t (place_of target) ≡ false → IsStep t tx first b (merge_block b target item sources)
  merge-done cmd target item sources k kept there others purse purses same thawed = record {
    ins = item ∷ k.items;
    outs = held ∷ [];
    weighs = λ w.
        let put = put-weight w (place_of target) (Some (object held)) (object item) spent.slots there' in
        let gone = spend-weight w sources (map object k.items) b k.lies in
        let items = objects-weight w k.items in
        let left = ap (placed_weight w) (spend-placed sources b) in
        omega (arith, put, gone, items, left);
    balanced = record {
      moved = λ n.
          let gave = purse.filled n total in
          let had = purse.holds n in
          let none = purse.no_supply n total in
          let had_none = purse.had_no_supply n in
          let sources_had = coins-money n (currency_of item.content) k.items purses same in
          let sources_none = coins-supply n k.items purses in
          let parts = part-plus (currency_of item.content == n) (amount item) (sum_of k.items) in
          let whole = ap (λ is. part (currency_of item.content == n) (amount item + sum_of is)) k.found in
          omega (arith, gave, had, none, had_none, sources_had, sources_none, parts, whole);
      same_caps = λ n.
          let none = purse.no_cap n total in
          let had_none = purse.was_no_cap n in
          let sources_none = coins-caps n k.items purses in
          omega (arith, none, had_none, sources_none);
      drew = λ x.
          let made = drawn-same tx x spent.made b.made (spend-made sources b) in
          omega (arith, made);
    };
    good = subst (λ placed. Every (Good t first placed) (put_in (place_of target) (Some (object held)) spent.slots)) (sym (spend-placed sources b))
        (put-every (Good t first b.placed) (place_of target) (Some (object held)) spent.slots
        (spend-every (Good t first b.placed) sources b (each_as (λ (a : Argument). stays_in_place t cmd (place_of a) ≡ false) (λ (a : Argument). Good t first b.placed (place_of a) None) sources (λ a moves. good-spent t cmd first b.placed (place_of a) kept moves) k.moves) each)
        (good-holding t first b.placed (place_of target) item total thawed (value-every (Good t first b.placed) (place_of target) (object item) b.slots each there)));
    stands = λ places stand. put-stands places (place_of target) (Some (object held)) spent.slots (spend-stands places sources b stand);
  }
    where
      total : ℕ
      total = amount item + sum_of (items_in b sources)

      held : Item
      held = holding total item

      spent : Block
      spent = spend_all sources b

      there' : value_in (place_of target) spent.slots ≡ Some (object item)
      there' = spend-other (place_of target) sources b (others-back (place_of target) sources others) ∙ there

  pub merge-step : (cmd : Command) (target : Argument) (sources : List Argument) (after : Block) → is_transfer cmd ≡ false → AllRead t b cmd [] ((target, by_mut kind.Coin) ∷ all_by (by_value (Some kind.Coin)) sources) → merge t b target (item_in b target) sources ≡ Ok after → IsStep t tx first b after
  merge-step cmd target sources after kept read e = subst (IsStep t tx first b) done_is.1
      (merge-done cmd target o.0 sources k kept there (takes-others t b cmd (Some kind.Coin) (target ∷ []) sources [] target (covers-last target []) rest) (coin-purse o.0.content o.1.1) purses same read.0.thaws)
    where
      o : (i : Item) × ((read.0.value ≡ object i) × (kind_eq (kind_of i.content) kind.Coin ≡ true))
      o = is-changed kind.Coin read.0.value read.0.fitting

      there : value_in (place_of target) b.slots ≡ Some (object o.0)
      there = read.0.there ∙ ap Some o.1.0

      rest : AllRead t b cmd (target ∷ []) (all_by (by_value (Some kind.Coin)) sources ++ [])
      rest = subst (AllRead t b cmd (target ∷ [])) (sym (append_nil (all_by (by_value (Some kind.Coin)) sources))) read.1

      k : Takes t b cmd sources
      k = takes t b cmd (Some kind.Coin) (target ∷ []) sources [] rest

      done_is : (first_some (merge_cases t target o.0 (items_in b sources)) ≡ None) × (merge_block b target o.0 sources ≡ after)
      done_is = unless-ok (first_some (merge_cases t target o.0 (items_in b sources))) (merge_block b target o.0 sources) after (subst (λ i. merge t b target i sources ≡ Ok after) (ap piece_of there) e)

      purses : Each IsPurseItem k.items
      purses = subst (Each IsPurseItem) k.found (takes-each IsPurseItem t b cmd kind.Coin (target ∷ []) sources [] rest (λ i. coin-purse i.content))

      differs : Item → Bool
      differs i = not (currency_of i.content == currency_of o.0.content)

      same : Each (IsOf (currency_of o.0.content)) k.items
      same = subst (Each (IsOf (currency_of o.0.content))) k.found
          (each_as (λ (i : Item). differs i ≡ false) (IsOf (currency_of o.0.content)) (items_in b sources) (λ i d. equal_numbers (currency_of i.content) (currency_of o.0.content) d)
          (each-false differs (items_in b sources) (where_false (list_any differs (items_in b sources)) (cause 10) (all_none (merge_cases t target o.0 (items_in b sources)) done_is.0).0)))

  -- ---- Transfer: the values leave the block

  transfer-gone : (cmd : Command) (placed : List Placed) (args : List Argument) (items : List Item) → Lies b.slots args (map object items) → ((i : Item) → Has items i → (p : Placed) × (Has placed p × (p.item ≡ i))) → Each (λ (a : Argument). stays_in_place t cmd (place_of a) ≡ false) args → Every (Good t first placed) b.slots → Each (λ (a : Argument). Good t first placed (place_of a) None) args
  transfer-gone cmd placed [] [] lies found moves grown = tt
  transfer-gone cmd placed (a ∷ args) (i ∷ items) lies found moves grown = (
    gone-from (place_of a) (found i (inl refl)) moves.0 (value-every (Good t first placed) (place_of a) (object i) b.slots grown lies.0),
    transfer-gone cmd placed args items lies.1.1 (λ j has. found j (inr has)) moves.1 grown,
  )
    where
      gone : (before : Option Value) → (p : Placed) × (Has placed p × (p.item ≡ i)) → Turned false before (object i) → Went placed before
      gone None p turned = turned
      gone (Some (pure bytes)) p turned = turned
      gone (Some (object before)) p turned = (p.0, (p.1.0, subst (Like before) (sym p.1.1) turned))
      gone (Some (vector k before)) p turned = turned

      gone-from : (q : Place) → (p : Placed) × (Has placed p × (p.item ≡ i)) → stays_in_place t cmd q ≡ false → Good t first placed q (Some (object i)) → Good t first placed q None
      gone-from gas p moves good = gone (value_in gas first) p good
      gone-from (input n) p moves good = moves
      gone-from (result d k) p moves good = tt
  transfer-gone cmd placed [] (i ∷ items) lies found moves grown = tt
  transfer-gone cmd placed (a ∷ args) [] lies found moves grown = absurd lies

  pub transfer-step : (cmd : Command) (values : List Argument) (to : Argument) (who : Address) → AllRead t b cmd [] (all_by (by_value None) values ++ (to, address) ∷ []) → IsStep t tx first b (transfer_block b values who)
  transfer-step cmd values to who read = record {
    ins = k.items;
    outs = k.items;
    weighs = λ w.
        let gone = spend-weight w values (map object k.items) b k.lies in
        let items = objects-weight w k.items in
        let both = placed-append w b.placed new in
        let more = placed-map w (owner.Address who) (items_in b values) in
        let same = ap (items_weight w) k.found in
        omega (arith, gone, items, both, more, same);
    balanced = record {
      moved = λ n. refl;
      same_caps = λ n. refl;
      drew = λ x. let made = drawn-same tx x (spend_all values b).made b.made (spend-made values b) in omega (arith, made);
    };
    good =
        let grown = every-grows t first b.placed new b.slots each in
        spend-every (Good t first (b.placed ++ new)) values b (transfer-gone cmd (b.placed ++ new) values k.items k.lies leaves k.moves grown) grown;
    stands = λ places stand. spend-stands places values b stand;
  }
    where
      k : Takes t b cmd values
      k = takes t b cmd None [] values ((to, address) ∷ []) read

      new : List Placed
      new = map (placed_at (owner.Address who)) (items_in b values)

      leaves : (i : Item) → Has k.items i → (p : Placed) × (Has (b.placed ++ new) p × (p.item ≡ i))
      leaves i has = (placed_at (owner.Address who) i, (has_right b.placed new (placed_at (owner.Address who) i) (has_map (placed_at (owner.Address who)) (items_in b values) i (subst (λ is. Has is i) (sym k.found) has)), refl))

  -- ---- MakeVec: the values lie in a vector

  pub vector-step : (cmd : Command) (k : Kind) (values : List Argument) → is_transfer cmd ≡ false → AllRead t b cmd [] (all_by (by_value (Some k)) values) → IsStep t tx first b (vector_block c b k values)
  vector-step cmd k values kept read = record {
    ins = takes_them.items;
    outs = takes_them.items;
    weighs = λ w.
        let gone = spend-weight w values (map object takes_them.items) b takes_them.lies in
        let items = objects-weight w takes_them.items in
        let both = slots-append w spent.slots (result_slots c (vector k (items_in b values) ∷ [])) in
        let more = results-weight w c (vector k (items_in b values) ∷ []) in
        let same = ap (items_weight w) takes_them.found in
        let left = ap (placed_weight w) (spend-placed values b) in
        omega (arith, gone, items, both, more, same, left);
    balanced = record {
      moved = λ n. refl;
      same_caps = λ n. refl;
      drew = λ x. let made = drawn-same tx x spent.made b.made (spend-made values b) in omega (arith, made);
    };
    good = subst (λ placed. Every (Good t first placed) (spent.slots ++ result_slots c (vector k (items_in b values) ∷ []))) (sym (spend-placed values b))
        (every-results t first b.placed spent.slots c (vector k (items_in b values) ∷ []) (takes-each (λ (i : Item). kind_eq (kind_of i.content) k ≡ true) t b cmd k [] values [] (subst (AllRead t b cmd []) (sym (append_nil (all_by (by_value (Some k)) values))) read) (λ i e. e), tt)
        (spend-every (Good t first b.placed) values b (each_as (λ (a : Argument). stays_in_place t cmd (place_of a) ≡ false) (λ (a : Argument). Good t first b.placed (place_of a) None) values (λ a moves. good-spent t cmd first b.placed (place_of a) kept moves) takes_them.moves) each));
    stands = λ places stand. stands-results places spent.slots c (vector k (items_in b values) ∷ []) (spend-stands places values b stand);
  }
    where
      takes_them : Takes t b cmd values
      takes_them = takes t b cmd (Some k) [] values [] (subst (AllRead t b cmd []) (sym (append_nil (all_by (by_value (Some k)) values))) read)

      spent : Block
      spent = spend_all values b
