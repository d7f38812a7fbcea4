-- What contents of each kind hold, and what they hold with another amount.
use Rattle.std.proofs.Common.{refl, ap, sym, subst}
use Rattle.std.specs.Prelude.{◌≡◌, ◌+◌, ℕ, Bool, true, false, cond, ◌==◌, List, [], ◌∷◌, fold, sum_by}
use Rattle.std.specs.List.{list_any}
use native.Mathlib.Omega.{arith}
use Rattle.chain_types.specs.declared.objects.Kind.TheVariants as kind
use Rattle.chain_types.specs.declared.objects.Content.{Content}
use Rattle.chain_types.specs.declared.objects.Content.TheVariants as content
use Rattle.protocol_spec.specs.declared.pieces.Item.{Item}
use Rattle.protocol_spec.proofs.Truth.{or_false_left, or_false_right}
use Rattle.protocol_spec.specs.Chain.Words.{Each}
use Rattle.protocol_spec.specs.Chain.Tests.{kind_eq}
use Rattle.protocol_spec.specs.Chain.Keys.{money_of}
use Rattle.protocol_spec.specs.Block.Natives.{kind_of, currency_of, amount_of, with_amount}
use Rattle.block_law.specs.Money.{supply_of, caps_of}
use Rattle.block_law.proofs.Slots.{items_weight}

-- ---- an amount that counts, or none

abbrev pub part : Bool → ℕ → ℕ
part true n = n
part false n = 0

pub part-plus : (b : Bool) (m n : ℕ) → part b (m + n) ≡ part b m + part b n
part-plus true m n = refl
part-plus false m n = refl

pub part-zero : (b : Bool) → part b 0 ≡ 0
part-zero true = refl
part-zero false = refl

-- ---- sums from the left

fold-from : {X : Type 0} (f : X → ℕ) (a : ℕ) (xs : List X) → fold (λ a x. a + f x) a xs ≡ a + sum_by f xs
fold-from f a [] = omega arith
fold-from f a (x ∷ xs) = let more = fold-from f (a + f x) xs in let rest = fold-from f (0 + f x) xs in omega (arith, more, rest)

pub sum-cons : {X : Type 0} (f : X → ℕ) (x : X) (xs : List X) → sum_by f (x ∷ xs) ≡ f x + sum_by f xs
sum-cons f x xs = let e = fold-from f (0 + f x) xs in omega (arith, e)

-- ---- the weights

abbrev pub money : ℕ → Item → ℕ
money c i = money_of c i.content

abbrev pub supply : ℕ → Item → ℕ
supply c i = supply_of c i.content

abbrev pub caps : ℕ → Item → ℕ
caps c i = caps_of c i.content

-- ---- contents by kind

-- a coin or a vault
pub record IsPurse (k : Content) : Type 0 where
  pub filled : (c n : ℕ) → money_of c (with_amount n k) ≡ part (currency_of k == c) n
  pub holds : (c : ℕ) → money_of c k ≡ part (currency_of k == c) (amount_of k)
  pub no_supply : (c n : ℕ) → supply_of c (with_amount n k) ≡ 0
  pub had_no_supply : (c : ℕ) → supply_of c k ≡ 0
  pub no_cap : (c n : ℕ) → caps_of c (with_amount n k) ≡ 0
  pub was_no_cap : (c : ℕ) → caps_of c k ≡ 0

pub cond-part : (b : Bool) (n : ℕ) → cond b n 0 ≡ part b n
cond-part true n = refl
cond-part false n = refl

pub coin-purse : (k : Content) → kind_eq (kind_of k) kind.Coin ≡ true → IsPurse k
coin-purse (content.Coin currency balance) e = record { filled = λ c n. cond-part (currency == c) n; holds = λ c. cond-part (currency == c) balance; no_supply = λ c n. refl; had_no_supply = λ c. refl; no_cap = λ c n. refl; was_no_cap = λ c. refl }
coin-purse (content.Cap currency supply) e = absurd (cc)
coin-purse (content.Counter value) e = absurd (cc)
coin-purse (content.Vault currency balance) e = absurd (cc)
coin-purse (content.VaultKey vault) e = absurd (cc)
coin-purse (content.Limit value) e = absurd (cc)

pub vault-purse : (k : Content) → kind_eq (kind_of k) kind.Vault ≡ true → IsPurse k
vault-purse (content.Vault currency balance) e = record { filled = λ c n. cond-part (currency == c) n; holds = λ c. cond-part (currency == c) balance; no_supply = λ c n. refl; had_no_supply = λ c. refl; no_cap = λ c n. refl; was_no_cap = λ c. refl }
vault-purse (content.Cap currency supply) e = absurd (cc)
vault-purse (content.Counter value) e = absurd (cc)
vault-purse (content.Coin currency balance) e = absurd (cc)
vault-purse (content.VaultKey vault) e = absurd (cc)
vault-purse (content.Limit value) e = absurd (cc)

pub record IsCap (k : Content) : Type 0 where
  pub no_money : (c n : ℕ) → money_of c (with_amount n k) ≡ 0
  pub had_no_money : (c : ℕ) → money_of c k ≡ 0
  pub supplies : (c n : ℕ) → supply_of c (with_amount n k) ≡ part (currency_of k == c) n
  pub supplied : (c : ℕ) → supply_of c k ≡ part (currency_of k == c) (amount_of k)
  pub same_cap : (c n : ℕ) → caps_of c (with_amount n k) ≡ caps_of c k

pub cap-is : (k : Content) → kind_eq (kind_of k) kind.Cap ≡ true → IsCap k
cap-is (content.Cap currency supply) e = record { no_money = λ c n. refl; had_no_money = λ c. refl; supplies = λ c n. cond-part (currency == c) n; supplied = λ c. cond-part (currency == c) supply; same_cap = λ c n. refl }
cap-is (content.Coin currency balance) e = absurd (cc)
cap-is (content.Counter value) e = absurd (cc)
cap-is (content.Vault currency balance) e = absurd (cc)
cap-is (content.VaultKey vault) e = absurd (cc)
cap-is (content.Limit value) e = absurd (cc)

pub record IsPlain (k : Content) : Type 0 where
  pub no_money : (c n : ℕ) → money_of c (with_amount n k) ≡ 0
  pub had_no_money : (c : ℕ) → money_of c k ≡ 0
  pub no_supply : (c n : ℕ) → supply_of c (with_amount n k) ≡ 0
  pub had_no_supply : (c : ℕ) → supply_of c k ≡ 0
  pub no_cap : (c n : ℕ) → caps_of c (with_amount n k) ≡ 0
  pub was_no_cap : (c : ℕ) → caps_of c k ≡ 0

pub counter-plain : (k : Content) → kind_eq (kind_of k) kind.Counter ≡ true → IsPlain k
counter-plain (content.Counter value) e = record { no_money = λ c n. refl; had_no_money = λ c. refl; no_supply = λ c n. refl; had_no_supply = λ c. refl; no_cap = λ c n. refl; was_no_cap = λ c. refl }
counter-plain (content.Coin currency balance) e = absurd (cc)
counter-plain (content.Cap currency supply) e = absurd (cc)
counter-plain (content.Vault currency balance) e = absurd (cc)
counter-plain (content.VaultKey vault) e = absurd (cc)
counter-plain (content.Limit value) e = absurd (cc)

-- ---- many coins of one currency

abbrev pub amount : Item → ℕ
amount i = amount_of i.content

abbrev pub IsPurseItem : Item → Type 0
IsPurseItem i = IsPurse i.content

abbrev pub IsOf : ℕ → Item → Type 0
IsOf currency i = currency_of i.content ≡ currency

pub each-false : {A : Type 0} (test : A → Bool) (xs : List A) → list_any test xs ≡ false → Each (λ (x : A). test x ≡ false) xs
each-false test [] e = tt
each-false test (x ∷ xs) e = (or_false_left (test x) (list_any test xs) e, each-false test xs (or_false_right (test x) (list_any test xs) e))

pub coins-money : (c currency : ℕ) (items : List Item) → Each IsPurseItem items → Each (IsOf currency) items → items_weight (money c) items ≡ part (currency == c) (sum_by amount items)
coins-money c currency [] each same = sym (part-zero (currency == c))
coins-money c currency (i ∷ items) each same =
    let rest = coins-money c currency items each.1 same.1 in
    let one : money c i ≡ part (currency == c) (amount i) = subst (λ z. money c i ≡ part (z == c) (amount i)) same.0 (each.0.holds c) in
    let total = ap (part (currency == c)) (sum-cons amount i items) in
    let split = part-plus (currency == c) (amount i) (sum_by amount items) in
    omega (arith, rest, one, total, split)

pub coins-supply : (c : ℕ) (items : List Item) → Each IsPurseItem items → items_weight (supply c) items ≡ 0
coins-supply c [] each = refl
coins-supply c (i ∷ items) each = let rest = coins-supply c items each.1 in let one = each.0.had_no_supply c in omega (arith, rest, one)

pub coins-caps : (c : ℕ) (items : List Item) → Each IsPurseItem items → items_weight (caps c) items ≡ 0
coins-caps c [] each = refl
coins-caps c (i ∷ items) each = let rest = coins-caps c items each.1 in let one = each.0.was_no_cap c in omega (arith, rest, one)

-- ---- other amounts

pub amount-twice : (m n : ℕ) (k : Content) → with_amount m (with_amount n k) ≡ with_amount m k
amount-twice m n (content.Coin currency balance) = refl
amount-twice m n (content.Cap currency supply) = refl
amount-twice m n (content.Counter value) = refl
amount-twice m n (content.Vault currency balance) = refl
amount-twice m n (content.VaultKey vault) = refl
amount-twice m n (content.Limit value) = refl

pub amount-same : (k : Content) → k ≡ with_amount (amount_of k) k
amount-same (content.Coin currency balance) = refl
amount-same (content.Cap currency supply) = refl
amount-same (content.Counter value) = refl
amount-same (content.Vault currency balance) = refl
amount-same (content.VaultKey vault) = refl
amount-same (content.Limit value) = refl
