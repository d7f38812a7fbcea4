-- What objects hold is an amount: a number below 2 ^ 64, as each value of the code is.
use Rattle.std.specs.Prelude.{ℕ, ◌<◌, List}
use Rattle.chain_types.specs.declared.objects.Object.{Object}
use Rattle.chain_types.specs.declared.objects.Content.{Content}
use Rattle.chain_types.specs.declared.objects.Content.TheVariants as content
use Rattle.chain_types.specs.declared.transactions.Input.{Input}
use Rattle.chain_types.specs.declared.transactions.Input.TheVariants as inputs
use Rattle.chain_types.specs.declared.transactions.Transaction.{Transaction}
use Rattle.protocol_spec.specs.Chain.Words.{Each}
use Rattle.protocol_spec.specs.Block.Natives.{amount_limit, amount_of}
use Rattle.protocol_spec.specs.Block.Execution.{execution}

-- the money of a content: the balance of a coin or a vault, the supply of a cap
abbrev pub money_held : Content → ℕ
money_held (content.Coin currency balance) = balance
money_held (content.Cap currency supply) = supply
money_held (content.Counter value) = 0
money_held (content.Vault currency balance) = balance
money_held (content.VaultKey vault) = 0
money_held (content.Limit value) = 0

-- the money of an object is an amount
abbrev pub HoldsAmount : Object → Type 0
HoldsAmount o = money_held o.content < amount_limit

-- whatever number an object holds is an amount: its money, or the value of a counter or a limit
abbrev pub IsAmount : Object → Type 0
IsAmount o = amount_of o.content < amount_limit

-- pure bytes are bytes
abbrev pub HasBytes : Input → Type 0
HasBytes (inputs.Pure bytes) = Each (λ (b : ℕ). b < 256) bytes
HasBytes (inputs.Owned r) = Unit {0}
HasBytes (inputs.Immutable r) = Unit {0}
HasBytes (inputs.Shared id initial mutable) = Unit {0}

-- if what a transaction reads holds amounts, so does what it writes, in success and in failure
abbrev pub MoneyStaysAmounts : Type 0
MoneyStaysAmounts = (t : Transaction) (objects : List Object) → Each HoldsAmount objects → Each HoldsAmount (execution t objects).objects

-- if all numbers in the objects that a transaction reads are amounts, and its pure inputs are bytes, so are all
-- numbers in what it writes
abbrev pub AmountsStayAmounts : Type 0
AmountsStayAmounts = (t : Transaction) (objects : List Object) → Each HasBytes t.inputs → Each IsAmount objects → Each IsAmount (execution t objects).objects
