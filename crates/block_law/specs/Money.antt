-- What contents hold of a currency, and what its caps say that there is of it.
use Rattle.std.specs.Prelude.{ℕ, ◌==◌, List, sum_by, if◌then◌else◌}
use Rattle.chain_types.specs.declared.objects.Object.{Object}
use Rattle.chain_types.specs.declared.objects.Content.{Content}
use Rattle.chain_types.specs.declared.objects.Content.TheVariants as content

-- the supply of a currency that a cap keeps
abbrev pub supply_of : ℕ → Content → ℕ
supply_of wanted (content.Coin currency balance) = 0
supply_of wanted (content.Cap currency supply) = if currency == wanted then supply else 0
supply_of wanted (content.Counter value) = 0
supply_of wanted (content.Vault currency balance) = 0
supply_of wanted (content.VaultKey vault) = 0
supply_of wanted (content.Limit value) = 0

-- 1 for a cap of the currency
abbrev pub caps_of : ℕ → Content → ℕ
caps_of wanted (content.Coin currency balance) = 0
caps_of wanted (content.Cap currency supply) = if currency == wanted then 1 else 0
caps_of wanted (content.Counter value) = 0
caps_of wanted (content.Vault currency balance) = 0
caps_of wanted (content.VaultKey vault) = 0
caps_of wanted (content.Limit value) = 0

-- the sum of the supplies of a currency over these objects, and how many caps of it there are
abbrev pub supply_sum : List Object → ℕ → ℕ
supply_sum objects currency = sum_by (λ (o : Object). supply_of currency o.content) objects

abbrev pub cap_count : List Object → ℕ → ℕ
cap_count objects currency = sum_by (λ (o : Object). caps_of currency o.content) objects
