-- Sums of a currency over objects. Source: Sui documentation (coins, balances); that a vault's money counts
-- as a coin's does is this profile's choice.
use Rattle.std.specs.Prelude.{ℕ, ◌==◌, List, sum_by, if◌then◌else◌}
use Rattle.chain_types.specs.declared.objects.Object.{Object}
use Rattle.chain_types.specs.declared.objects.Content.{Content}
use Rattle.chain_types.specs.declared.objects.Content.TheVariants as content

-- what a content holds of a currency, as a coin or in a vault
abbrev pub money_of : ℕ → Content → ℕ
money_of wanted (content.Coin currency balance) = if currency == wanted then balance else 0
money_of wanted (content.Cap currency supply) = 0
money_of wanted (content.Counter value) = 0
money_of wanted (content.Vault currency balance) = if currency == wanted then balance else 0
money_of wanted (content.VaultKey vault) = 0
money_of wanted (content.Limit value) = 0

-- the sum of a currency over these objects
unfoldable pub currency_sum : List Object → ℕ → ℕ
currency_sum objects currency = sum_by (λ (o : Object). money_of currency o.content) objects
