-- What a call of a native takes and gives, and what it keeps.
use Rattle.std.proofs.Common.{refl, ap, sym, subst, ◌∙◌}
use Rattle.std.proofs.lemmas.Bool.{ltb-false, eqb-true}
use Rattle.std.specs.Prelude.{◌≡◌, ◌≤◌, ◌+◌, ◌-◌, ℕ, suc, Bool, true, false, not, ◌==◌, nat_lt, nat_le, List, [], ◌∷◌, ◌++◌, map, sum_by, length, Option, Some, None, Ok}
use Rattle.std.specs.List.{list_any}
use native.Mathlib.Omega.{arith}
use Rattle.digest_core.specs.declared.Digest.{Digest}
use Rattle.chain_types.specs.declared.objects.ObjectId.{ObjectId}
use Rattle.chain_types.specs.declared.objects.Owner.{Owner}
use Rattle.chain_types.specs.declared.objects.Owner.TheVariants as owner
use Rattle.chain_types.specs.declared.objects.Kind.{Kind}
use Rattle.chain_types.specs.declared.objects.Kind.TheVariants as kind
use Rattle.chain_types.specs.declared.objects.Content.{Content}
use Rattle.chain_types.specs.declared.objects.Content.TheVariants as content
use Rattle.chain_types.specs.declared.transactions.Argument.{Argument}
use Rattle.chain_types.specs.declared.transactions.Command.{Command}
use Rattle.chain_types.specs.declared.transactions.Transaction.{Transaction}
use Rattle.chain_types.specs.Equal.{id_eq}
use Rattle.protocol_spec.specs.declared.pieces.Item.{Item}
use Rattle.protocol_spec.specs.declared.pieces.Placed.{Placed}
use Rattle.protocol_spec.specs.declared.pieces.Gave.{Gave}
use Rattle.protocol_spec.specs.declared.pieces.Gave.TheVariants as gave
use Rattle.protocol_spec.proofs.ListLemmas.{each_as, append_nil}
use Rattle.protocol_spec.proofs.Truth.{equal_numbers}
use Rattle.protocol_spec.proofs.Gifts.{EachNumber, at-number}
use Rattle.protocol_spec.specs.Chain.Words.{Each}
use Rattle.protocol_spec.specs.Chain.Tests.{kind_eq}
use Rattle.protocol_spec.specs.Chain.Keys.{money_of}
use Rattle.protocol_spec.specs.Block.Natives.{parameters, parameters_of, native_gives, kind_of, currency_of, amount_of, holding, Site, new_item, amount_limit, item_given, items_given, item_at, number_at, gives, owned_by_all, abort_if, other_currency, joined, coin_mint, coin_burn, counter_add, counter_require, vault_new, vault_deposit, vault_withdraw, share, counter_add_limited, names_vault, may_be_shared}
use Rattle.protocol_spec.specs.Block.Block.{Place, Value, pure, object, vector, Slot, Block, place_eq, value_in, result_slots, with_results}
use Rattle.protocol_spec.specs.Block.Commands.{Fault, Need, number, by_value, by_mut, by_ref, coins, paired, place_of, is_pure, is_right_kind, is_transfer, is_frozen_place, stays_in_place, given_as, given_all, spend_all, spend_taken, put_changed, put_back, placed_list, called_block, called, site}
use Rattle.block_law.specs.Money.{supply_of, caps_of}
use Rattle.block_law.specs.Names.{drawn_id, drawn_ids}
use Rattle.block_law.proofs.Counts.{hit, times}
use Rattle.block_law.proofs.Slots.{items_weight, values_weight, slots_weight, placed_weight, items-append, slots-append, placed-append, objects-weight, put-weight, Every, put-every, value-every, Lies, spend-weight, spend-other, spend-every}
use Rattle.block_law.proofs.Reading.{IsRead, AllRead, covers-last, apart-from, is-object, is-changed}
use Rattle.block_law.proofs.Amounts.{cond-part, part, part-plus, part-zero, IsPurse, coin-purse, vault-purse, IsCap, cap-is, IsPlain, counter-plain, IsPurseItem, IsOf, each-false, coins-money, coins-supply, coins-caps, amount}
use Rattle.block_law.proofs.Kept.{Good, good-holding, good-spent, every-grows, good-vector, Stands, put-stands, stands-results, every-results, results-weight, objects-sorted}
use Rattle.block_law.proofs.Steps.{Balanced, IsStep, drawn-next, drawn-same, ok-same, place-apart, spend-stands}

-- ---- what is balanced

-- contents that hold no money and are not a cap
pub record IsEmpty (k : Content) : Type 0 where
  pub money : (c : ℕ) → money_of c k ≡ 0
  pub supply : (c : ℕ) → supply_of c k ≡ 0
  pub caps : (c : ℕ) → caps_of c k ≡ 0

new-id : (s : Site) (x : ObjectId) (k : ℕ) (n : ℕ) → n ≡ s.made + k → hit (id_eq (drawn_id s.tx (s.made + k)) x) + times x (drawn_ids s.tx n) ≡ times x (drawn_ids s.tx (suc n))
new-id s x k n e =
    let next = drawn-next s.tx x (suc n) n refl in
    let this : hit (id_eq (drawn_id s.tx (s.made + k)) x) ≡ hit (id_eq (drawn_id s.tx n) x) = ap (λ m. hit (id_eq (drawn_id s.tx m) x)) (sym e) in
    omega (arith, next, this)

one-id : (s : Site) (x : ObjectId) → hit (id_eq (drawn_id s.tx (s.made + 0)) x) + times x (drawn_ids s.tx s.made) ≡ times x (drawn_ids s.tx (s.made + 1))
one-id s x =
    let new = new-id s x 0 s.made (omega arith) in
    let same = drawn-same s.tx x (s.made + 1) (suc s.made) (omega arith) in
    omega (arith, new, same)

two-ids : (s : Site) (x : ObjectId) → hit (id_eq (drawn_id s.tx (s.made + 0)) x) + (hit (id_eq (drawn_id s.tx (s.made + 1)) x) + times x (drawn_ids s.tx s.made)) ≡ times x (drawn_ids s.tx (s.made + 2))
two-ids s x =
    let first = one-id s x in
    let new = new-id s x 1 (s.made + 1) refl in
    let same = drawn-same s.tx x (s.made + 2) (suc (s.made + 1)) (omega arith) in
    omega (arith, first, new, same)

pub balanced-new : (s : Site) (k : Content) → IsEmpty k → Balanced s.tx s.made (s.made + 1) [] (new_item s 0 k ∷ [])
balanced-new s k none = record {
  moved = λ c. let m = none.money c in let p = none.supply c in omega (arith, m, p);
  same_caps = λ c. let p = none.caps c in omega (arith, p);
  drew = λ x. let new = one-id s x in omega (arith, new);
}

pub balanced-plain : (s : Site) (i : Item) (n : ℕ) → IsPlain i.content → Balanced s.tx s.made s.made (i ∷ []) (holding n i ∷ [])
balanced-plain s i n plain = record {
  moved = λ c. let a = plain.no_money c n in let b = plain.had_no_money c in let d = plain.no_supply c n in let e = plain.had_no_supply c in omega (arith, a, b, d, e);
  same_caps = λ c. let a = plain.no_cap c n in let b = plain.was_no_cap c in omega (arith, a, b);
  drew = λ x. omega arith;
}

pub balanced-mint : (s : Site) (cap : Item) (n : ℕ) → IsCap cap.content → Balanced s.tx s.made (s.made + 1) (cap ∷ []) (holding (amount cap + n) cap ∷ new_item s 0 (content.Coin (currency_of cap.content) n) ∷ [])
balanced-mint s cap n is = record {
  moved = λ c.
      let a = is.no_money c (amount cap + n) in
      let b = is.had_no_money c in
      let d = is.supplies c (amount cap + n) in
      let e = is.supplied c in
      let new = cond-part (currency_of cap.content == c) n in
      let parts = part-plus (currency_of cap.content == c) (amount cap) n in
      omega (arith, a, b, d, e, new, parts);
  same_caps = λ c. let a = is.same_cap c (amount cap + n) in omega (arith, a);
  drew = λ x. let new = one-id s x in omega (arith, new);
}

pub balanced-burn : (s : Site) (cap coin : Item) → IsCap cap.content → IsPurse coin.content → currency_of cap.content ≡ currency_of coin.content → amount coin ≤ amount cap → Balanced s.tx s.made s.made (cap ∷ coin ∷ []) (holding (amount cap - amount coin) cap ∷ [])
balanced-burn s cap coin is purse same enough = record {
  moved = λ c.
      let a = is.no_money c (amount cap - amount coin) in
      let b = is.had_no_money c in
      let d = is.supplies c (amount cap - amount coin) in
      let e = is.supplied c in
      let held = purse.holds c in
      let none = purse.had_no_supply c in
      let one : part (currency_of coin.content == c) (amount coin) ≡ part (currency_of cap.content == c) (amount coin) = ap (λ k. part (k == c) (amount coin)) (sym same) in
      let parts = part-plus (currency_of cap.content == c) (amount cap - amount coin) (amount coin) in
      let whole = ap (part (currency_of cap.content == c)) back in
      omega (arith, a, b, d, e, held, none, one, parts, whole);
  same_caps = λ c. let a = is.same_cap c (amount cap - amount coin) in let b = purse.was_no_cap c in omega (arith, a, b);
  drew = λ x. omega arith;
}
  where
    back : amount cap ≡ (amount cap - amount coin) + amount coin
    back = omega (arith, enough)

pub balanced-deposit : (s : Site) (vault coin : Item) → IsPurse vault.content → IsPurse coin.content → currency_of vault.content ≡ currency_of coin.content → Balanced s.tx s.made s.made (vault ∷ coin ∷ []) (holding (amount vault + amount coin) vault ∷ [])
balanced-deposit s vault coin purse given same = record {
  moved = λ c.
      let a = purse.filled c (amount vault + amount coin) in
      let b = purse.holds c in
      let d = purse.no_supply c (amount vault + amount coin) in
      let e = purse.had_no_supply c in
      let held = given.holds c in
      let none = given.had_no_supply c in
      let one : part (currency_of coin.content == c) (amount coin) ≡ part (currency_of vault.content == c) (amount coin) = ap (λ k. part (k == c) (amount coin)) (sym same) in
      let parts = part-plus (currency_of vault.content == c) (amount vault) (amount coin) in
      omega (arith, a, b, d, e, held, none, one, parts);
  same_caps = λ c. let a = purse.no_cap c (amount vault + amount coin) in let b = purse.was_no_cap c in let d = given.was_no_cap c in omega (arith, a, b, d);
  drew = λ x. omega arith;
}

pub balanced-withdraw : (s : Site) (vault : Item) (n : ℕ) → IsPurse vault.content → n ≤ amount vault → Balanced s.tx s.made (s.made + 1) (vault ∷ []) (holding (amount vault - n) vault ∷ new_item s 0 (content.Coin (currency_of vault.content) n) ∷ [])
balanced-withdraw s vault n purse enough = record {
  moved = λ c.
      let a = purse.filled c (amount vault - n) in
      let b = purse.holds c in
      let d = purse.no_supply c (amount vault - n) in
      let e = purse.had_no_supply c in
      let new = cond-part (currency_of vault.content == c) n in
      let parts = part-plus (currency_of vault.content == c) (amount vault - n) n in
      let whole = ap (part (currency_of vault.content == c)) back in
      omega (arith, a, b, d, e, new, parts, whole);
  same_caps = λ c. let a = purse.no_cap c (amount vault - n) in let b = purse.was_no_cap c in omega (arith, a, b);
  drew = λ x. let new = one-id s x in omega (arith, new);
}
  where
    back : amount vault ≡ (amount vault - n) + n
    back = omega (arith, enough)

pub balanced-vault : (s : Site) (currency : ℕ) (key : ObjectId) → Balanced s.tx s.made (s.made + 2) [] (new_item s 0 (content.Vault currency 0) ∷ new_item s 1 (content.VaultKey key) ∷ [])
balanced-vault s currency key = record {
  moved = λ c. let a = cond-part (currency == c) 0 in let b = part-zero (currency == c) in omega (arith, a, b);
  same_caps = λ c. refl;
  drew = λ x. let new = two-ids s x in omega (arith, new);
}

pub balanced-join : (s : Site) (first : Item) (others : List Item) → IsPurse first.content → Each IsPurseItem others → Each (IsOf (currency_of first.content)) others → Balanced s.tx s.made s.made (first ∷ others) (holding (amount first + sum_by amount others) first ∷ [])
balanced-join s first others purse purses same = record {
  moved = λ c.
      let a = purse.filled c (amount first + sum_by amount others) in
      let b = purse.holds c in
      let d = purse.no_supply c (amount first + sum_by amount others) in
      let e = purse.had_no_supply c in
      let had = coins-money c (currency_of first.content) others purses same in
      let none = coins-supply c others purses in
      let parts = part-plus (currency_of first.content == c) (amount first) (sum_by amount others) in
      omega (arith, a, b, d, e, had, none, parts);
  same_caps = λ c. let a = purse.no_cap c (amount first + sum_by amount others) in let b = purse.was_no_cap c in let none = coins-caps c others purses in omega (arith, a, b, none);
  drew = λ x. omega arith;
}

-- ---- the block that a call leaves

abbrev values_items : List Value → List Item
values_items [] = []
values_items (pure bytes ∷ values) = values_items values
values_items (object i ∷ values) = i ∷ values_items values
values_items (vector k is ∷ values) = is ++ values_items values

values-weigh : (w : Item → ℕ) (values : List Value) → values_weight w values ≡ items_weight w (values_items values)
values-weigh w [] = refl
values-weigh w (pure bytes ∷ values) = let rest = values-weigh w values in omega (arith, rest)
values-weigh w (object i ∷ values) = let rest = values-weigh w values in omega (arith, rest)
values-weigh w (vector k is ∷ values) = let rest = values-weigh w values in let both = items-append w is (values_items values) in omega (arith, rest, both)

abbrev left_items : Option Placed → List Item
left_items None = []
left_items (Some p) = p.item ∷ []

left-weighs : (w : Item → ℕ) (left : Option Placed) → placed_weight w (placed_list left) ≡ items_weight w (left_items left)
left-weighs w None = refl
left-weighs w (Some p) = refl

-- an object that a native changes: it lies in a place that may be changed, apart from what is taken
record IsChange (t : Transaction) (b : Block) (x : Argument) (args : List Argument) (item new : Item) : Type 0 where
  number : ℕ
  there : value_in (place_of x) b.slots ≡ Some (object item)
  others : Each (λ (a : Argument). place_eq (place_of a) (place_of x) ≡ false) args
  thawed : is_frozen_place t (place_of x) ≡ false
  is : new ≡ holding number item

-- what a call takes lies in these places
record Spends (t : Transaction) (b : Block) (cmd : Command) (needs : List (Argument × Need)) (args : List Argument) (values : List Value) : Type 0 where
  spends : spend_taken needs b ≡ spend_all args b
  lies : Lies b.slots args values
  moves : Each (λ (a : Argument). stays_in_place t cmd (place_of a) ≡ false) args

put-none : (needs : List (Argument × Need)) (b : Block) → put_changed needs None b ≡ b
put-none [] b = refl
put-none (x ∷ needs) b = refl

abort-not : (c : ℕ) (b after : Block) (needs : List (Argument × Need)) (x : Bool) (code : ℕ) (rest : Gave) → called c b needs (abort_if x code rest) ≡ Ok after → (x ≡ false) × (called c b needs rest ≡ Ok after)
abort-not c b after needs true code rest e = absurd (cc)
abort-not c b after needs false code rest e = (refl, e)

module _ (t : Transaction) (tx : Digest) (version c : ℕ) (first : List Slot) (b : Block) (each : Every (Good t first b.placed) b.slots) (cmd : Command) (kept : is_transfer cmd ≡ false) where
  finish : (inner : Block) (ins base results : List Item) (left : Option Placed) (made : ℕ)
      → ((w : Item → ℕ) → slots_weight w inner.slots + items_weight w ins ≡ slots_weight w b.slots + items_weight w base)
      → Every (Good t first b.placed) inner.slots → ((places : List Place) → Stands places b.slots → Stands places inner.slots)
      → Balanced tx b.made made ins (base ++ (results ++ left_items left))
      → IsStep t tx first b (with_results c (map object results) (record inner { placed = b.placed ++ placed_list left; made = made }))
  finish inner ins base results left made weighs good stands balanced = record {
    ins = ins;
    outs = base ++ (results ++ left_items left);
    weighs = λ w.
        let inner_weighs = weighs w in
        let slots = slots-append w inner.slots (result_slots c (map object results)) in
        let more = results-weight w c (map object results) in
        let items = objects-weight w results in
        let gone = placed-append w b.placed (placed_list left) in
        let last = left-weighs w left in
        let outs = items-append w base (results ++ left_items left) in
        let rest = items-append w results (left_items left) in
        omega (arith, inner_weighs, slots, more, items, gone, last, outs, rest);
    balanced = balanced;
    good = every-results t first (b.placed ++ placed_list left) inner.slots c (map object results) (objects-sorted results) (every-grows t first b.placed (placed_list left) inner.slots good);
    stands = λ places stand. stands-results places inner.slots c (map object results) (stands places stand);
  }

  spent-good : (args : List Argument) → Each (λ (a : Argument). stays_in_place t cmd (place_of a) ≡ false) args → Every (Good t first b.placed) (spend_all args b).slots
  spent-good args moves = spend-every (Good t first b.placed) args b (each_as (λ (a : Argument). stays_in_place t cmd (place_of a) ≡ false) (λ (a : Argument). Good t first b.placed (place_of a) None) args (λ a m. good-spent t cmd first b.placed (place_of a) kept m) moves) each

  unchanged : (needs : List (Argument × Need)) (args : List Argument) (values : List Value) (results : List Item) (left : Option Placed) (made : ℕ) → Spends t b cmd needs args values → Balanced tx b.made made (values_items values) (results ++ left_items left) → IsStep t tx first b (called_block c b needs results None left made)
  unchanged needs args values results left made s balanced =
      subst (λ (inner : Block). IsStep t tx first b (with_results c (map object results) (record inner { placed = b.placed ++ placed_list left; made = made }))) (sym (put-none needs (spend_taken needs b) ∙ s.spends))
      (finish (spend_all args b) (values_items values) [] results left made
      (λ w. let spent = spend-weight w args values b s.lies in let items = values-weigh w values in omega (arith, spent, items))
      (spent-good args s.moves)
      (λ places stand. spend-stands places args b stand)
      balanced)

  changed : (x : Argument × Need) (needs : List (Argument × Need)) (args : List Argument) (values : List Value) (results : List Item) (item new : Item) (left : Option Placed) (made : ℕ) → Spends t b cmd (x ∷ needs) args values → IsChange t b x.0 args item new → Balanced tx b.made made (item ∷ values_items values) (new ∷ (results ++ left_items left)) → IsStep t tx first b (called_block c b (x ∷ needs) results (Some new) left made)
  changed x needs args values results item new left made s change balanced =
      subst (λ (inner : Block). IsStep t tx first b (with_results c (map object results) (record (put_back x.0 new inner) { placed = b.placed ++ placed_list left; made = made }))) (sym s.spends)
      (finish (put_back x.0 new (spend_all args b)) (item ∷ values_items values) (new ∷ []) results left made
      (λ w.
      let put = put-weight w (place_of x.0) (Some (object new)) (object item) (spend_all args b).slots (spend-other (place_of x.0) args b change.others ∙ change.there) in
      let spent = spend-weight w args values b s.lies in
      let items = values-weigh w values in
      omega (arith, put, spent, items))
      (put-every (Good t first b.placed) (place_of x.0) (Some (object new)) (spend_all args b).slots (spent-good args s.moves)
      (subst (λ (i : Item). Good t first b.placed (place_of x.0) (Some (object i))) (sym change.is)
      (good-holding t first b.placed (place_of x.0) item change.number change.thawed (value-every (Good t first b.placed) (place_of x.0) (object item) b.slots each change.there))))
      (λ places stand. put-stands places (place_of x.0) (Some (object new)) (spend_all args b).slots (spend-stands places args b stand))
      balanced)

  -- ---- the arguments of a call

  abbrev s : Site
  s = site tx version b

  abbrev Gives : List (Argument × Need) → Gave → Block → Type 0
  Gives needs g after = called c b needs g ≡ Ok after

  -- an object that is changed in place
  record Found (x : Argument) (k : Kind) : Type 0 where
    item : Item
    there : value_in (place_of x) b.slots ≡ Some (object item)
    thawed : is_frozen_place t (place_of x) ≡ false
    fitting : kind_eq (kind_of item.content) k ≡ true

  found : (k : Kind) (earlier : List Argument) (x : Argument) → IsRead t b cmd earlier x (by_mut k) → Found x k
  found k earlier x read =
      let o = is-changed k read.value read.fitting in
      record { item = o.0; there = read.there ∙ ap Some o.1.0; thawed = read.thaws; fitting = o.1.1 }

  -- an object that is taken
  record Taken (x : Argument) (k : Option Kind) (earlier : List Argument) : Type 0 where
    item : Item
    there : value_in (place_of x) b.slots ≡ Some (object item)
    moves : stays_in_place t cmd (place_of x) ≡ false
    fitting : is_right_kind (by_value k) (object item) ≡ true
    apart : (y : Argument) → earlier ≡ y ∷ [] → place_eq (place_of y) (place_of x) ≡ false

  taken : (k : Option Kind) (earlier : List Argument) (x : Argument) → IsRead t b cmd earlier x (by_value k) → Taken x k earlier
  taken k earlier x read =
      let o = is-object k read.value read.fitting in
      record {
        item = o.0;
        there = read.there ∙ ap Some o.1;
        moves = read.moves;
        fitting = subst (λ (v : Value). is_right_kind (by_value k) v ≡ true) o.1 read.fitting;
        apart = λ y e. apart-from t b cmd earlier y x (by_value k) (subst (λ (l : List Argument). (test : Argument → Bool) → list_any test l ≡ false → test y ≡ false) (sym e) (covers-last y [])) read (ap is_pure o.1);
      }

  nothing : (needs : List (Argument × Need)) → spend_taken needs b ≡ b → Spends t b cmd needs [] []
  nothing needs e = record { spends = e; lies = tt; moves = tt }

  change-of : (x : Argument) (k : Kind) (f : Found x k) (n : ℕ) → IsChange t b x [] f.item (holding n f.item)
  change-of x k f n = record { number = n; there = f.there; others = tt; thawed = f.thawed; is = refl }

  change-apart : (x y : Argument) (k : Kind) (f : Found x k) (n : ℕ) → place_eq (place_of x) (place_of y) ≡ false → IsChange t b x (y ∷ []) f.item (holding n f.item)
  change-apart x y k f n apart = record { number = n; there = f.there; others = (place-apart (place_of x) (place_of y) apart, tt); thawed = f.thawed; is = refl }

  -- ---- the natives

  new-step : (needs : List (Argument × Need)) (k : Content) (after : Block) → spend_taken needs b ≡ b → IsEmpty k → Gives needs (gives s (k ∷ []) None) after → IsStep t tx first b after
  new-step needs k after e none gave = subst (IsStep t tx first b) (ok-same Fault (called_block c b needs (new_item s 0 k ∷ []) None None (b.made + 1)) after gave)
      (unchanged needs [] [] (new_item s 0 k ∷ []) None (b.made + 1) (nothing needs e) (balanced-new s k none))

  mint-step : (x y : Argument) (n : ℕ) (after : Block) → AllRead t b cmd [] ((x, by_mut kind.Cap) ∷ (y, number) ∷ []) → Gives ((x, by_mut kind.Cap) ∷ (y, number) ∷ []) (coin_mint s (item_given (Some (given_as (by_mut kind.Cap) (value_in (place_of x) b.slots)))) n) after → IsStep t tx first b after
  mint-step x y n after read gave = subst (IsStep t tx first b) (ok-same Fault (called_block c b needs results (Some new) None (b.made + 1)) after rest)
      (changed (x, by_mut kind.Cap) ((y, number) ∷ []) [] [] results f.item new None (b.made + 1) (nothing needs refl) (change-of x kind.Cap f (amount f.item + n)) (balanced-mint s f.item n (cap-is f.item.content f.fitting)))
    where
      needs : List (Argument × Need)
      needs = (x, by_mut kind.Cap) ∷ (y, number) ∷ []

      f : Found x kind.Cap
      f = found kind.Cap [] x read.0

      new : Item
      new = holding (amount f.item + n) f.item

      results : List Item
      results = new_item s 0 (content.Coin (currency_of f.item.content) n) ∷ []

      rest : called c b needs (gives s (content.Coin (currency_of f.item.content) n ∷ []) (Some new)) ≡ Ok after
      rest = (abort-not c b after needs (nat_le amount_limit (amount f.item + n)) 1 (gives s (content.Coin (currency_of f.item.content) n ∷ []) (Some new))
          (subst (λ (v : Option Value). called c b needs (coin_mint s (item_given (Some (given_as (by_mut kind.Cap) v))) n) ≡ Ok after) f.there gave)).1

  burn-step : (x y : Argument) (after : Block) → AllRead t b cmd [] ((x, by_mut kind.Cap) ∷ (y, by_value (Some kind.Coin)) ∷ []) → Gives ((x, by_mut kind.Cap) ∷ (y, by_value (Some kind.Coin)) ∷ []) (coin_burn s (item_given (Some (given_as (by_mut kind.Cap) (value_in (place_of x) b.slots)))) (item_given (Some (given_as (by_value (Some kind.Coin)) (value_in (place_of y) b.slots))))) after → IsStep t tx first b after
  burn-step x y after read gave = subst (IsStep t tx first b) (ok-same Fault (called_block c b needs [] (Some new) None b.made) after second.1)
      (changed (x, by_mut kind.Cap) ((y, by_value (Some kind.Coin)) ∷ []) (y ∷ []) (object k.item ∷ []) [] f.item new None b.made
      (record { spends = refl; lies = (k.there, (tt, tt)); moves = (k.moves, tt) })
      (change-apart x y kind.Cap f (amount f.item - amount k.item) (k.apart x refl))
      (balanced-burn s f.item k.item (cap-is f.item.content f.fitting) (coin-purse k.item.content k.fitting) (equal_numbers (currency_of f.item.content) (currency_of k.item.content) one.0) (ltb-false (amount f.item) (amount k.item) second.0)))
    where
      needs : List (Argument × Need)
      needs = (x, by_mut kind.Cap) ∷ (y, by_value (Some kind.Coin)) ∷ []

      f : Found x kind.Cap
      f = found kind.Cap [] x read.0

      k : Taken y (Some kind.Coin) (x ∷ [])
      k = taken (Some kind.Coin) (x ∷ []) y read.1.0

      new : Item
      new = holding (amount f.item - amount k.item) f.item

      one : (other_currency f.item k.item ≡ false) × (called c b needs (abort_if (nat_lt (amount f.item) (amount k.item)) 2 (gives s [] (Some new))) ≡ Ok after)
      one = abort-not c b after needs (other_currency f.item k.item) 1 (abort_if (nat_lt (amount f.item) (amount k.item)) 2 (gives s [] (Some new)))
          (subst (λ (v : Option Value). called c b needs (coin_burn s f.item (item_given (Some (given_as (by_value (Some kind.Coin)) v)))) ≡ Ok after) k.there
          (subst (λ (v : Option Value). called c b needs (coin_burn s (item_given (Some (given_as (by_mut kind.Cap) v))) (item_given (Some (given_as (by_value (Some kind.Coin)) (value_in (place_of y) b.slots))))) ≡ Ok after) f.there gave))

      second : (nat_lt (amount f.item) (amount k.item) ≡ false) × (called c b needs (gives s [] (Some new)) ≡ Ok after)
      second = abort-not c b after needs (nat_lt (amount f.item) (amount k.item)) 2 (gives s [] (Some new)) one.1

  deposit-step : (x y : Argument) (after : Block) → AllRead t b cmd [] ((x, by_mut kind.Vault) ∷ (y, by_value (Some kind.Coin)) ∷ []) → Gives ((x, by_mut kind.Vault) ∷ (y, by_value (Some kind.Coin)) ∷ []) (vault_deposit s (item_given (Some (given_as (by_mut kind.Vault) (value_in (place_of x) b.slots)))) (item_given (Some (given_as (by_value (Some kind.Coin)) (value_in (place_of y) b.slots))))) after → IsStep t tx first b after
  deposit-step x y after read gave = subst (IsStep t tx first b) (ok-same Fault (called_block c b needs [] (Some new) None b.made) after second.1)
      (changed (x, by_mut kind.Vault) ((y, by_value (Some kind.Coin)) ∷ []) (y ∷ []) (object k.item ∷ []) [] f.item new None b.made
      (record { spends = refl; lies = (k.there, (tt, tt)); moves = (k.moves, tt) })
      (change-apart x y kind.Vault f (amount f.item + amount k.item) (k.apart x refl))
      (balanced-deposit s f.item k.item (vault-purse f.item.content f.fitting) (coin-purse k.item.content k.fitting) (equal_numbers (currency_of f.item.content) (currency_of k.item.content) one.0)))
    where
      needs : List (Argument × Need)
      needs = (x, by_mut kind.Vault) ∷ (y, by_value (Some kind.Coin)) ∷ []

      f : Found x kind.Vault
      f = found kind.Vault [] x read.0

      k : Taken y (Some kind.Coin) (x ∷ [])
      k = taken (Some kind.Coin) (x ∷ []) y read.1.0

      new : Item
      new = holding (amount f.item + amount k.item) f.item

      one : (other_currency f.item k.item ≡ false) × (called c b needs (abort_if (nat_le amount_limit (amount f.item + amount k.item)) 2 (gives s [] (Some new))) ≡ Ok after)
      one = abort-not c b after needs (other_currency f.item k.item) 1 (abort_if (nat_le amount_limit (amount f.item + amount k.item)) 2 (gives s [] (Some new)))
          (subst (λ (v : Option Value). called c b needs (vault_deposit s f.item (item_given (Some (given_as (by_value (Some kind.Coin)) v)))) ≡ Ok after) k.there
          (subst (λ (v : Option Value). called c b needs (vault_deposit s (item_given (Some (given_as (by_mut kind.Vault) v))) (item_given (Some (given_as (by_value (Some kind.Coin)) (value_in (place_of y) b.slots))))) ≡ Ok after) f.there gave))

      second : (nat_le amount_limit (amount f.item + amount k.item) ≡ false) × (called c b needs (gives s [] (Some new)) ≡ Ok after)
      second = abort-not c b after needs (nat_le amount_limit (amount f.item + amount k.item)) 2 (gives s [] (Some new)) one.1

  withdraw-step : (x y z : Argument) (key : Item) (n : ℕ) (after : Block) → AllRead t b cmd [] ((x, by_mut kind.Vault) ∷ (y, by_ref kind.VaultKey) ∷ (z, number) ∷ []) → Gives ((x, by_mut kind.Vault) ∷ (y, by_ref kind.VaultKey) ∷ (z, number) ∷ []) (vault_withdraw s (item_given (Some (given_as (by_mut kind.Vault) (value_in (place_of x) b.slots)))) key n) after → IsStep t tx first b after
  withdraw-step x y z key n after read gave = subst (IsStep t tx first b) (ok-same Fault (called_block c b needs results (Some new) None (b.made + 1)) after second.1)
      (changed (x, by_mut kind.Vault) ((y, by_ref kind.VaultKey) ∷ (z, number) ∷ []) [] [] results f.item new None (b.made + 1) (nothing needs refl) (change-of x kind.Vault f (amount f.item - n))
      (balanced-withdraw s f.item n (vault-purse f.item.content f.fitting) (ltb-false (amount f.item) n second.0)))
    where
      needs : List (Argument × Need)
      needs = (x, by_mut kind.Vault) ∷ (y, by_ref kind.VaultKey) ∷ (z, number) ∷ []

      f : Found x kind.Vault
      f = found kind.Vault [] x read.0

      new : Item
      new = holding (amount f.item - n) f.item

      results : List Item
      results = new_item s 0 (content.Coin (currency_of f.item.content) n) ∷ []

      last : Gave
      last = gives s (content.Coin (currency_of f.item.content) n ∷ []) (Some new)

      one : (not (names_vault f.item.id key.content) ≡ false) × (called c b needs (abort_if (nat_lt (amount f.item) n) 2 last) ≡ Ok after)
      one = abort-not c b after needs (not (names_vault f.item.id key.content)) 1 (abort_if (nat_lt (amount f.item) n) 2 last)
          (subst (λ (v : Option Value). called c b needs (vault_withdraw s (item_given (Some (given_as (by_mut kind.Vault) v))) key n) ≡ Ok after) f.there gave)

      second : (nat_lt (amount f.item) n ≡ false) × (called c b needs last ≡ Ok after)
      second = abort-not c b after needs (nat_lt (amount f.item) n) 2 last one.1

  add-step : (x : Argument) (needs : List (Argument × Need)) (n : ℕ) (after : Block) → spend_taken needs b ≡ b → IsRead t b cmd [] x (by_mut kind.Counter) → Gives ((x, by_mut kind.Counter) ∷ needs) (counter_add s (item_given (Some (given_as (by_mut kind.Counter) (value_in (place_of x) b.slots)))) n) after → IsStep t tx first b after
  add-step x needs n after none read gave = subst (IsStep t tx first b) (ok-same Fault (called_block c b ((x, by_mut kind.Counter) ∷ needs) [] (Some new) None b.made) after one.1)
      (changed (x, by_mut kind.Counter) needs [] [] [] f.item new None b.made (nothing ((x, by_mut kind.Counter) ∷ needs) none) (change-of x kind.Counter f (amount f.item + n)) (balanced-plain s f.item (amount f.item + n) (counter-plain f.item.content f.fitting)))
    where
      f : Found x kind.Counter
      f = found kind.Counter [] x read

      new : Item
      new = holding (amount f.item + n) f.item

      one : (nat_le amount_limit (amount f.item + n) ≡ false) × (called c b ((x, by_mut kind.Counter) ∷ needs) (gives s [] (Some new)) ≡ Ok after)
      one = abort-not c b after ((x, by_mut kind.Counter) ∷ needs) (nat_le amount_limit (amount f.item + n)) 1 (gives s [] (Some new))
          (subst (λ (v : Option Value). called c b ((x, by_mut kind.Counter) ∷ needs) (counter_add s (item_given (Some (given_as (by_mut kind.Counter) v))) n) ≡ Ok after) f.there gave)

  -- a limit only makes it abort more often
  limited-step : (x : Argument) (needs : List (Argument × Need)) (n : ℕ) (limit : Item) (after : Block) → spend_taken needs b ≡ b → IsRead t b cmd [] x (by_mut kind.Counter) → Gives ((x, by_mut kind.Counter) ∷ needs) (counter_add_limited s (item_given (Some (given_as (by_mut kind.Counter) (value_in (place_of x) b.slots)))) n limit) after → IsStep t tx first b after
  limited-step x needs n limit after none read gave = add-step x needs n after none read (go (nat_le amount_limit (amount counter + n)) one.0 (abort-not c b after ((x, by_mut kind.Counter) ∷ needs) (nat_lt (amount_of limit.content) (amount counter + n)) 2 last one.1).1)
    where
      counter : Item
      counter = item_given (Some (given_as (by_mut kind.Counter) (value_in (place_of x) b.slots)))

      last : Gave
      last = gives s [] (Some (holding (amount counter + n) counter))

      one : (nat_le amount_limit (amount counter + n) ≡ false) × (called c b ((x, by_mut kind.Counter) ∷ needs) (abort_if (nat_lt (amount_of limit.content) (amount counter + n)) 2 last) ≡ Ok after)
      one = abort-not c b after ((x, by_mut kind.Counter) ∷ needs) (nat_le amount_limit (amount counter + n)) 1 (abort_if (nat_lt (amount_of limit.content) (amount counter + n)) 2 last) gave

      go : (z : Bool) → z ≡ false → called c b ((x, by_mut kind.Counter) ∷ needs) last ≡ Ok after → called c b ((x, by_mut kind.Counter) ∷ needs) (abort_if z 1 last) ≡ Ok after
      go true e gave = absurd (cc)
      go false e gave = gave

  require-step : (needs : List (Argument × Need)) (counter : Item) (least : ℕ) (after : Block) → spend_taken needs b ≡ b → Gives needs (counter_require s counter least) after → IsStep t tx first b after
  require-step needs counter least after none gave = subst (IsStep t tx first b) (ok-same Fault (called_block c b needs [] None None b.made) after (abort-not c b after needs (nat_lt (amount counter) least) 1 (gives s [] None) gave).1)
      (unchanged needs [] [] [] None b.made (nothing needs none) (record { moved = λ k. refl; same_caps = λ k. refl; drew = λ x. omega arith }))

  vault-step : (needs : List (Argument × Need)) (currency : ℕ) (after : Block) → spend_taken needs b ≡ b → Gives needs (vault_new s currency) after → IsStep t tx first b after
  vault-step needs currency after none gave = subst (IsStep t tx first b) (ok-same Fault (called_block c b needs results None None (b.made + 2)) after gave)
      (unchanged needs [] [] results None (b.made + 2) (nothing needs none) (balanced-vault s currency (drawn_id s.tx s.made)))
    where
      results : List Item
      results = new_item s 0 (content.Vault currency 0) ∷ new_item s 1 (content.VaultKey (drawn_id s.tx s.made)) ∷ []

  own-step : (x : Argument) (who : Owner) (after : Block) (k : Taken x None []) → Gives ((x, by_value None) ∷ []) (owned_by_all s k.item who) after → IsStep t tx first b after
  own-step x who after k gave = subst (IsStep t tx first b) (ok-same Fault (called_block c b ((x, by_value None) ∷ []) [] None (Some (record { item = k.item; owner = who })) b.made) after gave)
      (unchanged ((x, by_value None) ∷ []) (x ∷ []) (object k.item ∷ []) [] (Some (record { item = k.item; owner = who })) b.made
      (record { spends = refl; lies = (k.there, (tt, tt)); moves = (k.moves, tt) })
      (record { moved = λ n. refl; same_caps = λ n. refl; drew = λ y. omega arith }))

  taken-item : (x : Argument) (after : Block) (g : Item → Gave) (k : Taken x None []) → Gives ((x, by_value None) ∷ []) (g (item_given (Some (given_as (by_value None) (value_in (place_of x) b.slots))))) after → Gives ((x, by_value None) ∷ []) (g k.item) after
  taken-item x after g k gave = subst (λ (v : Option Value). called c b ((x, by_value None) ∷ []) (g (item_given (Some (given_as (by_value None) v)))) ≡ Ok after) k.there gave

  share-step : (x : Argument) (after : Block) → AllRead t b cmd [] ((x, by_value None) ∷ []) → Gives ((x, by_value None) ∷ []) (share s (item_given (Some (given_as (by_value None) (value_in (place_of x) b.slots))))) after → IsStep t tx first b after
  share-step x after read gave = own-step x (owner.Shared version) after k
      (abort-not c b after ((x, by_value None) ∷ []) (not (may_be_shared k.item.content)) 2 (owned_by_all s k.item (owner.Shared version))
      (abort-not c b after ((x, by_value None) ∷ []) (not k.item.fresh) 1 (abort_if (not (may_be_shared k.item.content)) 2 (owned_by_all s k.item (owner.Shared version))) (taken-item x after (share s) k gave)).1).1
    where
      k : Taken x None []
      k = taken None [] x read.0

  freeze-step : (x : Argument) (after : Block) → AllRead t b cmd [] ((x, by_value None) ∷ []) → Gives ((x, by_value None) ∷ []) (owned_by_all s (item_given (Some (given_as (by_value None) (value_in (place_of x) b.slots)))) owner.Immutable) after → IsStep t tx first b after
  freeze-step x after read gave = own-step x owner.Immutable after (taken None [] x read.0) (taken-item x after (λ i. owned_by_all s i owner.Immutable) (taken None [] x read.0) gave)

  -- ---- joining a vector of coins

  coin-kind : (k : Kind) → kind_eq k kind.Coin ≡ true → k ≡ kind.Coin
  coin-kind kind.Coin e = refl
  coin-kind kind.Cap e = absurd (cc)
  coin-kind kind.Counter e = absurd (cc)
  coin-kind kind.Vault e = absurd (cc)
  coin-kind kind.VaultKey e = absurd (cc)
  coin-kind kind.Limit e = absurd (cc)

  is-coins : (v : Value) → is_right_kind coins v ≡ true → (is : List Item) × (v ≡ vector kind.Coin is)
  is-coins (pure bytes) e = absurd (cc)
  is-coins (object i) e = absurd (cc)
  is-coins (vector k is) e = (is, ap (λ (l : Kind). vector l is) (coin-kind k e))

  joined-done : (x : Argument) (items : List Item) (after : Block) → value_in (place_of x) b.slots ≡ Some (vector kind.Coin items) → stays_in_place t cmd (place_of x) ≡ false → Each IsPurseItem items → Gives ((x, coins) ∷ []) (joined s items) after → IsStep t tx first b after
  joined-done x [] after there moves purses ends = absurd (cc)
  joined-done x (i ∷ others) after there moves purses ends = subst (IsStep t tx first b) (ok-same Fault (called_block c b needs (new ∷ []) None None b.made) after second)
      (unchanged needs (x ∷ []) (vector kind.Coin (i ∷ others) ∷ []) (new ∷ []) None b.made
      (record { spends = refl; lies = (there, (tt, tt)); moves = (moves, tt) })
      (subst (λ (ins : List Item). Balanced tx b.made b.made ins (new ∷ [])) (sym (append_nil (i ∷ others)))
      (balanced-join s i others purses.0 purses.1 (each_as (λ (j : Item). other_currency i j ≡ false) (IsOf (currency_of i.content)) others (λ j d. sym (equal_numbers (currency_of i.content) (currency_of j.content) d)) (each-false (other_currency i) others one.0)))))
    where
      needs : List (Argument × Need)
      needs = (x, coins) ∷ []

      total : ℕ
      total = amount i + sum_by amount others

      new : Item
      new = holding total i

      last : Gave
      last = gave.Done (new ∷ []) None None s.made

      one : (list_any (other_currency i) others ≡ false) × (called c b needs (abort_if (nat_le amount_limit total) 3 last) ≡ Ok after)
      one = abort-not c b after needs (list_any (other_currency i) others) 2 (abort_if (nat_le amount_limit total) 3 last) ends

      second : called c b needs last ≡ Ok after
      second = (abort-not c b after needs (nat_le amount_limit total) 3 last one.1).1

  join-step : (x : Argument) (after : Block) → AllRead t b cmd [] ((x, coins) ∷ []) → Gives ((x, coins) ∷ []) (joined s (items_given (Some (given_as coins (value_in (place_of x) b.slots))))) after → IsStep t tx first b after
  join-step x after read gave = joined-done x o.0 after there read.0.moves
      (each_as (λ (i : Item). kind_eq (kind_of i.content) kind.Coin ≡ true) IsPurseItem o.0 (λ i e. coin-purse i.content e) (good-vector t first b.placed (place_of x) kind.Coin o.0 (value-every (Good t first b.placed) (place_of x) (vector kind.Coin o.0) b.slots each there)))
      (subst (λ (v : Option Value). called c b ((x, coins) ∷ []) (joined s (items_given (Some (given_as coins v)))) ≡ Ok after) there gave)
    where
      o : (is : List Item) × (read.0.value ≡ vector kind.Coin is)
      o = is-coins read.0.value read.0.fitting

      there : value_in (place_of x) b.slots ≡ Some (vector kind.Coin o.0)
      there = read.0.there ∙ ap Some o.1

  -- ---- the call

  abbrev Goes : ℕ → Block → List Argument → Type 0
  Goes native after args = AllRead t b cmd [] (paired args (parameters_of native)) → Gives (paired args (parameters_of native)) (native_gives native s (given_all b (paired args (parameters_of native)))) after → IsStep t tx first b after

  with-one : (native : ℕ) (after : Block) (args : List Argument) → (length args == 1) ≡ true → ((x : Argument) → Goes native after (x ∷ [])) → Goes native after args
  with-one native after [] e goes = absurd (cc)
  with-one native after (x ∷ []) e goes = goes x
  with-one native after (x ∷ y ∷ args) e goes = let h = eqb-true (length (x ∷ y ∷ args)) 1 e in absurd (omega (arith, h))

  with-two : (native : ℕ) (after : Block) (args : List Argument) → (length args == 2) ≡ true → ((x y : Argument) → Goes native after (x ∷ y ∷ [])) → Goes native after args
  with-two native after [] e goes = absurd (cc)
  with-two native after (x ∷ []) e goes = let h = eqb-true (length (x ∷ [])) 2 e in absurd (omega (arith, h))
  with-two native after (x ∷ y ∷ []) e goes = goes x y
  with-two native after (x ∷ y ∷ z ∷ args) e goes = let h = eqb-true (length (x ∷ y ∷ z ∷ args)) 2 e in absurd (omega (arith, h))

  with-three : (native : ℕ) (after : Block) (args : List Argument) → (length args == 3) ≡ true → ((x y z : Argument) → Goes native after (x ∷ y ∷ z ∷ [])) → Goes native after args
  with-three native after [] e goes = absurd (cc)
  with-three native after (x ∷ []) e goes = let h = eqb-true (length (x ∷ [])) 3 e in absurd (omega (arith, h))
  with-three native after (x ∷ y ∷ []) e goes = let h = eqb-true (length (x ∷ y ∷ [])) 3 e in absurd (omega (arith, h))
  with-three native after (x ∷ y ∷ z ∷ []) e goes = goes x y z
  with-three native after (x ∷ y ∷ z ∷ u ∷ args) e goes = let h = eqb-true (length (x ∷ y ∷ z ∷ u ∷ args)) 3 e in absurd (omega (arith, h))

  zero-coin : (currency : ℕ) → IsEmpty (content.Coin currency 0)
  zero-coin currency = record {
    money = λ k. let a = cond-part (currency == k) 0 in let z = part-zero (currency == k) in omega (arith, a, z);
    supply = λ k. refl;
    caps = λ k. refl;
  }

  abbrev IsCall : ℕ → Type 0
  IsCall native = (args : List Argument) (after : Block) → (length args == length (parameters_of native)) ≡ true → Goes native after args

  each-call : EachNumber IsCall parameters
  unfolding native_gives
  each-call = (
    λ args after e. with-one 0 after args e (λ x read gave. new-step ((x, number) ∷ []) (content.Coin (number_at (given_all b ((x, number) ∷ [])) 0) 0) after refl (zero-coin (number_at (given_all b ((x, number) ∷ [])) 0)) gave),
    (
      λ args after e. with-two 1 after args e (λ x y read gave. mint-step x y (number_at (given_all b ((x, by_mut kind.Cap) ∷ (y, number) ∷ [])) 1) after read gave),
      (
        λ args after e. with-two 2 after args e (λ x y read gave. burn-step x y after read gave),
        (
          λ args after e. with-one 3 after args e (λ x read gave. join-step x after read gave),
          (
            λ args after e. with-one 4 after args e (λ x read gave. new-step ((x, number) ∷ []) (content.Counter (number_at (given_all b ((x, number) ∷ [])) 0)) after refl (record { money = λ k. refl; supply = λ k. refl; caps = λ k. refl }) gave),
            (
              λ args after e. with-two 5 after args e (λ x y read gave. add-step x ((y, number) ∷ []) (number_at (given_all b ((x, by_mut kind.Counter) ∷ (y, number) ∷ [])) 1) after refl read.0 gave),
              (
                λ args after e. with-two 6 after args e (λ x y read gave. require-step ((x, by_ref kind.Counter) ∷ (y, number) ∷ []) (item_at (given_all b ((x, by_ref kind.Counter) ∷ (y, number) ∷ [])) 0) (number_at (given_all b ((x, by_ref kind.Counter) ∷ (y, number) ∷ [])) 1) after refl gave),
                (
                  λ args after e. with-one 7 after args e (λ x read gave. vault-step ((x, number) ∷ []) (number_at (given_all b ((x, number) ∷ [])) 0) after refl gave),
                  (
                    λ args after e. with-two 8 after args e (λ x y read gave. deposit-step x y after read gave),
                    (
                      λ args after e. with-three 9 after args e (λ x y z read gave. withdraw-step x y z (item_at (given_all b ((x, by_mut kind.Vault) ∷ (y, by_ref kind.VaultKey) ∷ (z, number) ∷ [])) 1) (number_at (given_all b ((x, by_mut kind.Vault) ∷ (y, by_ref kind.VaultKey) ∷ (z, number) ∷ [])) 2) after read gave),
                      (
                        λ args after e. with-one 10 after args e (λ x read gave. share-step x after read gave),
                        (
                          λ args after e. with-one 11 after args e (λ x read gave. freeze-step x after read gave),
                          (
                            λ args after e. with-one 12 after args e (λ x read gave. new-step ((x, number) ∷ []) (content.Limit (number_at (given_all b ((x, number) ∷ [])) 0)) after refl (record { money = λ k. refl; supply = λ k. refl; caps = λ k. refl }) gave),
                            (
                              λ args after e. with-three 13 after args e (λ x y z read gave. limited-step x ((y, number) ∷ (z, by_ref kind.Limit) ∷ []) (number_at (given_all b ((x, by_mut kind.Counter) ∷ (y, number) ∷ (z, by_ref kind.Limit) ∷ [])) 1) (item_at (given_all b ((x, by_mut kind.Counter) ∷ (y, number) ∷ (z, by_ref kind.Limit) ∷ [])) 2) after refl read.0 gave),
                              λ n args after e read gave. absurd (cc),
                            ),
                          ),
                        ),
                      ),
                    ),
                  ),
                ),
              ),
            ),
          ),
        ),
      ),
    ),
  )

  pub call-step : (native : ℕ) (args : List Argument) (after : Block) → (length args == length (parameters_of native)) ≡ true → Goes native after args
  call-step native = at-number IsCall parameters each-call native
