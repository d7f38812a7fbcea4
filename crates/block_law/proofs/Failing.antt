-- A failed block leaves what it found, less the cost.
use Rattle.std.proofs.Common.{refl, ap}
use Rattle.std.proofs.lemmas.Bool.{leb-true, ltb-false, eqb-true}
use Rattle.std.specs.Prelude.{◌≡◌, ◌≢◌, ◌≤◌, ℕ, zero, suc, Bool, true, false, ◌&&◌, nat_le, nat_lt, List, [], ◌∷◌, Option, Some, None, Result, Ok, Err}
use native.Mathlib.Omega.{arith}
use Rattle.chain_types.specs.declared.objects.Object.{Object}
use Rattle.chain_types.specs.declared.objects.Content.{Content}
use Rattle.chain_types.specs.declared.objects.Content.TheVariants as content
use Rattle.chain_types.specs.declared.transactions.Transaction.{Transaction}
use Rattle.effects_core.specs.declared.effects.Status.TheVariants as status
use Rattle.chain_types.specs.Digests.{transaction_digest}
use Rattle.protocol_spec.specs.Chain.Words.{first_some, where_true}
use Rattle.protocol_spec.specs.Chain.Keys.{fits, fit_inputs, version_of, version_limit, objects_of, is_gas_coin, balance_of}
use Rattle.protocol_spec.specs.Chain.Shape.{shape_fault, shape_cases, cost}
use Rattle.protocol_spec.proofs.ListLemmas.{and-first, and-second}
use Rattle.protocol_spec.specs.Block.Block.{Block}
use Rattle.protocol_spec.specs.Block.Execution.{Failure, execution, executed_by, outcome}
use Rattle.block_law.specs.Failing.{PaysGas}

abbrev later : {A : Type 0} → ℕ → List A → List A
later zero xs = xs
later (suc n) [] = []
later (suc n) (x ∷ xs) = later n xs

later-none : {A : Type 0} (n : ℕ) (cases : List (Option A)) → first_some cases ≡ None → first_some (later n cases) ≡ None
later-none zero cases e = e
later-none (suc n) [] e = refl
later-none (suc n) (None ∷ cases) e = later-none n cases e
later-none (suc n) (Some x ∷ cases) e = absurd (cc)

-- a transaction of valid shape can pay its cost from its budget
pub affords : (t : Transaction) → shape_fault t ≡ None → cost t ≤ t.budget
unfolding shape_fault
affords t e = go (nat_lt t.budget (cost t)) refl (later-none 9 (shape_cases t) e)
  where
    go : (b : Bool) → nat_lt t.budget (cost t) ≡ b → first_some (where_true b 10 ∷ later 10 (shape_cases t)) ≡ None → cost t ≤ t.budget
    go true b e = absurd (cc)
    go false b e = ltb-false t.budget (cost t) b

-- the coin that pays gas
pub coin-is : (k : Content) (least : ℕ) → is_gas_coin k ≡ true → nat_le least (balance_of k) ≡ true → (balance : ℕ) × (k ≡ content.Coin 0 balance) × (least ≤ balance)
coin-is (content.Coin currency balance) least e enough = (balance, ap (λ (c : ℕ). content.Coin c balance) (eqb-true currency 0 e), leb-true least balance enough)
coin-is (content.Cap currency supply) least e enough = absurd (cc)
coin-is (content.Counter value) least e enough = absurd (cc)
coin-is (content.Vault currency balance) least e enough = absurd (cc)
coin-is (content.VaultKey vault) least e enough = absurd (cc)
coin-is (content.Limit value) least e enough = absurd (cc)

-- the gas coin of objects that fit holds the budget
pub gas-is : (t : Transaction) (coin : Object) (others : List Object) → fits t (coin ∷ others) ≡ true → (balance : ℕ) × (coin.content ≡ content.Coin 0 balance) × (t.budget ≤ balance)
unfolding fits
gas-is t coin others fit = coin-is coin.content t.budget (and-first a b both) (and-second a b both)
  where
    a : Bool
    a = is_gas_coin coin.content

    b : Bool
    b = nat_le t.budget (balance_of coin.content)

    both : (is_gas_coin coin.content && nat_le t.budget (balance_of coin.content)) ≡ true
    both = and-second (fit_inputs t (objects_of t) (coin ∷ others)) (is_gas_coin coin.content && nat_le t.budget (balance_of coin.content))
        (and-first (fit_inputs t (objects_of t) (coin ∷ others) && (is_gas_coin coin.content && nat_le t.budget (balance_of coin.content))) (nat_lt (version_of (coin ∷ others)) version_limit) fit)

pub pays_gas : (t : Transaction) (coin : Object) (others : List Object) → shape_fault t ≡ None → fits t (coin ∷ others) ≡ true → (execution t (coin ∷ others)).effects.status ≢ status.Done → PaysGas t coin others (execution t (coin ∷ others))
unfolding execution
pays_gas t coin others shape fit failed = go (outcome t (transaction_digest t) (coin ∷ others)) (gas-is t coin others fit) (affords t shape) failed
  where
    go : (r : Result Block Failure) → (balance : ℕ) × (coin.content ≡ content.Coin 0 balance) × (t.budget ≤ balance) → cost t ≤ t.budget → (executed_by t (transaction_digest t) (coin ∷ others) r).effects.status ≢ status.Done → PaysGas t coin others (executed_by t (transaction_digest t) (coin ∷ others) r)
    go (Ok b) gas enough failed = absurd (failed refl)
    go (Err failure) gas enough failed = record {
      balance = gas.0;
      held = gas.1;
      affordable = omega (arith, gas.2, enough);
      price = refl;
      created = refl;
      deleted = refl;
      objects = rw gas.1 refl;
    }
