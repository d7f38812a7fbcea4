-- What sequential execution keeps of each currency.
use Rattle.std.specs.Prelude.{◌≡◌, ◌≢◌, ◌+◌, ℕ, true, List, [], ◌∷◌, Option, Some, None}
use Rattle.std.specs.FinMap.{get, values}
use Rattle.chain_types.specs.declared.objects.ObjectId.{ObjectId}
use Rattle.chain_types.specs.declared.objects.Object.{Object}
use Rattle.chain_types.specs.declared.transactions.Transaction.{Transaction}
use Rattle.effects_core.specs.declared.effects.Effects.{Effects}
use Rattle.protocol_spec.specs.Chain.Words.{Each}
use Rattle.protocol_spec.specs.Chain.Keys.{fits, currency_sum}
use Rattle.protocol_spec.specs.Block.Execution.{execution}
use Rattle.protocol_spec.specs.Member.Sequential.{Objects, read_by, Folded, fold_one, fold_all}
use Rattle.block_law.specs.Money.{cap_count, supply_sum}
use Rattle.block_law.specs.Names.{drawn_ids}
use Rattle.block_law.specs.Keeping.{gas_in, MayRun}

-- what the objects of a map hold of a currency, and what its caps there say that there is of it
abbrev pub held_in : Objects → ℕ → ℕ
held_in m currency = currency_sum (values m) currency

abbrev pub supplied_in : Objects → ℕ → ℕ
supplied_in m currency = supply_sum (values m) currency

-- the gas of all executions, as money of a currency
abbrev pub gas_of : ℕ → List (Option Effects) → ℕ
gas_of currency [] = 0
gas_of currency (None ∷ effects) = gas_of currency effects
gas_of currency (Some e ∷ effects) = gas_in currency e.gas + gas_of currency effects

-- a transaction may run, and the ids that it draws are new in the map
pub record MayFollow (m : Objects) (t : Transaction) (objects : List Object) : Type 0 where
  pub may : MayRun t objects
  pub new : Each (λ (id : ObjectId). get m id ≡ None) (drawn_ids (execution t objects).effects.tx (execution t objects).effects.created)

-- each transaction that is executed may run where it stands
abbrev pub Follow : Folded → List Transaction → Type 0
Follow f [] = Unit {0}
Follow f (t ∷ txs) = ((objects : List Object) → read_by f.map t ≡ Some objects → fits t objects ≡ true → MayFollow f.map t objects) × Follow (fold_one f t) txs

abbrev pub opened_with : Objects → Folded
opened_with m = record { map = m; effects = [] }

-- for each currency, what all objects hold moves with the supplies of its caps, and with the gas
abbrev pub MoneyMovesInSequence : Type 0
MoneyMovesInSequence =
    (m : Objects) (txs : List Transaction) → Follow (opened_with m) txs → (currency : ℕ) →
    held_in (fold_all m txs).map currency + gas_of currency (fold_all m txs).effects + supplied_in m currency
    ≡ held_in m currency + supplied_in (fold_all m txs).map currency

-- if there is as much of a currency other than that of gas as its caps say, there still is
abbrev pub BackedCurrenciesStayBacked : Type 0
BackedCurrenciesStayBacked =
    (m : Objects) (txs : List Transaction) → Follow (opened_with m) txs → (currency : ℕ) → currency ≢ 0 →
    held_in m currency ≡ supplied_in m currency →
    held_in (fold_all m txs).map currency ≡ supplied_in (fold_all m txs).map currency

-- if the currency of gas has no cap, all that goes of it is gas
abbrev pub OnlyGasGoes : Type 0
OnlyGasGoes =
    (m : Objects) (txs : List Transaction) → Follow (opened_with m) txs →
    cap_count (values m) 0 ≡ 0 →
    held_in (fold_all m txs).map 0 + gas_of 0 (fold_all m txs).effects ≡ held_in m 0

-- of each currency there are as many caps as before
abbrev pub CapsStayInSequence : Type 0
CapsStayInSequence =
    (m : Objects) (txs : List Transaction) → Follow (opened_with m) txs → (currency : ℕ) →
    cap_count (values (fold_all m txs).map) currency ≡ cap_count (values m) currency
