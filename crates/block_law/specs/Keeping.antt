-- What a transaction keeps of each currency.
use Rattle.std.specs.Prelude.{◌≡◌, ◌<◌, ◌+◌, ℕ, false, true, List, [], ◌∷◌, map, None}
use Rattle.chain_types.specs.declared.objects.Object.{Object}
use Rattle.chain_types.specs.declared.objects.Content.TheVariants as content
use Rattle.chain_types.specs.declared.transactions.Transaction.{Transaction}
use Rattle.chain_types.specs.Equal.{id_eq}
use Rattle.protocol_spec.specs.Chain.Words.{repeats}
use Rattle.protocol_spec.specs.Chain.Keys.{fits, money_of, currency_sum}
use Rattle.protocol_spec.specs.Chain.Shape.{shape_fault}
use Rattle.protocol_spec.specs.Block.Natives.{amount_limit, amount_of}
use Rattle.protocol_spec.specs.Block.Block.{Place}
use Rattle.protocol_spec.specs.Block.Execution.{execution, written_places}
use Rattle.block_law.specs.Money.{supply_sum, cap_count}
use Rattle.block_law.specs.Names.{touched_ids}

-- the objects that a transaction may write, as they were: the gas coin, the owned inputs and the mutable shared ones
abbrev pub objects_before : Transaction → List Object → List Object
objects_before t objects = map (λ (x : Place × Object). x.1) (written_places t objects)

-- the gas that is charged, as money of a currency: that of the gas coin has number 0
abbrev pub gas_in : ℕ → ℕ → ℕ
gas_in currency price = money_of currency (content.Coin 0 price)

-- the gas coin, which is the first object, holds an amount: less than 2 ^ 64, as each object of the code does
abbrev pub GasIsAmount : List Object → Type 0
GasIsAmount [] = Unit {0}
GasIsAmount (coin ∷ others) = amount_of coin.content < amount_limit

-- a transaction of valid shape, objects that fit it, and no drawn id that is another or a named one
pub record MayRun (t : Transaction) (objects : List Object) : Type 0 where
  pub shape : shape_fault t ≡ None
  pub fit : fits t objects ≡ true
  pub held : GasIsAmount objects
  pub apart : repeats id_eq (touched_ids t (execution t objects).effects) ≡ false

-- for each currency, what coins and vaults hold moves with the supplies of its caps, and with the gas
abbrev pub MoneyMovesWithSupplies : Type 0
MoneyMovesWithSupplies =
    (t : Transaction) (objects : List Object) → MayRun t objects → (currency : ℕ) →
    currency_sum (execution t objects).objects currency + gas_in currency (execution t objects).effects.gas + supply_sum (objects_before t objects) currency
    ≡ currency_sum (objects_before t objects) currency + supply_sum (execution t objects).objects currency

-- of each currency there are as many caps as before
abbrev pub CapsAreKept : Type 0
CapsAreKept =
    (t : Transaction) (objects : List Object) → MayRun t objects → (currency : ℕ) →
    cap_count (execution t objects).objects currency ≡ cap_count (objects_before t objects) currency

-- of the currency that pays gas, which has no cap, nothing is made or destroyed but the gas
abbrev pub GasCurrencyIsKept : Type 0
GasCurrencyIsKept =
    (t : Transaction) (objects : List Object) → MayRun t objects →
    cap_count (objects_before t objects) 0 ≡ 0 →
    currency_sum (execution t objects).objects 0 + (execution t objects).effects.gas ≡ currency_sum (objects_before t objects) 0
