-- Contents that hold amounts: of money only, or of values too.
use Rattle.std.proofs.Common.{arith}
use Rattle.std.specs.Prelude.{◌≡◌, ◌<◌, ◌-◌, ℕ, zero, suc, Bool, true, false, List, [], ◌∷◌, slice_index}
use Rattle.std.specs.Int.{w64, from_le_bytes}
use Rattle.chain_types.specs.declared.objects.Kind.TheVariants as kind
use Rattle.chain_types.specs.declared.objects.Content.{Content}
use Rattle.chain_types.specs.declared.objects.Content.TheVariants as content
use Rattle.protocol_spec.specs.Chain.Words.{Each}
use Rattle.protocol_spec.specs.Chain.Tests.{kind_eq}
use Rattle.protocol_spec.specs.Block.Natives.{kind_of, amount_of, with_amount, amount_limit}
use Rattle.headline_law.specs.Amounts.{money_held}

-- what must be below the limit: all amounts, or money only
abbrev pub held : Bool → Content → ℕ
held true k = amount_of k
held false k = money_held k

abbrev pub Low : Bool → Content → Type 0
Low all k = held all k < amount_limit

-- a number that an object may take as its value
abbrev pub LowNumber : Bool → ℕ → Type 0
LowNumber all n = Low all (content.Counter n)

pub with-low : (all : Bool) (n : ℕ) (k : Content) → n < amount_limit → Low all (with_amount n k)
with-low true n (content.Coin currency balance) less = less
with-low true n (content.Cap currency supply) less = less
with-low true n (content.Counter value) less = less
with-low true n (content.Vault currency balance) less = less
with-low true n (content.VaultKey vault) less = omega arith
with-low true n (content.Limit value) less = less
with-low false n (content.Coin currency balance) less = less
with-low false n (content.Cap currency supply) less = less
with-low false n (content.Counter value) less = omega arith
with-low false n (content.Vault currency balance) less = less
with-low false n (content.VaultKey vault) less = omega arith
with-low false n (content.Limit value) less = omega arith

-- less of it
pub less-low : (all : Bool) (n : ℕ) (k : Content) → Low all k → Low all (with_amount (amount_of k - n) k)
less-low true n (content.Coin currency balance) low = omega (arith, low)
less-low true n (content.Cap currency supply) low = omega (arith, low)
less-low true n (content.Counter value) low = omega (arith, low)
less-low true n (content.Vault currency balance) low = omega (arith, low)
less-low true n (content.VaultKey vault) low = omega arith
less-low true n (content.Limit value) low = omega (arith, low)
less-low false n (content.Coin currency balance) low = omega (arith, low)
less-low false n (content.Cap currency supply) low = omega (arith, low)
less-low false n (content.Counter value) low = omega arith
less-low false n (content.Vault currency balance) low = omega (arith, low)
less-low false n (content.VaultKey vault) low = omega arith
less-low false n (content.Limit value) low = omega arith

-- what holds an amount
pub small-low : (all : Bool) (k : Content) → amount_of k < amount_limit → Low all k
small-low true k less = less
small-low false (content.Coin currency balance) less = less
small-low false (content.Cap currency supply) less = less
small-low false (content.Counter value) less = omega arith
small-low false (content.Vault currency balance) less = less
small-low false (content.VaultKey vault) less = omega arith
small-low false (content.Limit value) less = omega arith

-- the amount of a coin or a vault is its money
pub coin-amount : (all : Bool) (k : Content) → kind_eq (kind_of k) kind.Coin ≡ true → Low all k → amount_of k < amount_limit
coin-amount true k is low = low
coin-amount false (content.Coin currency balance) is low = low
coin-amount false (content.Cap currency supply) is low = absurd (cc)
coin-amount false (content.Counter value) is low = absurd (cc)
coin-amount false (content.Vault currency balance) is low = absurd (cc)
coin-amount false (content.VaultKey vault) is low = absurd (cc)
coin-amount false (content.Limit value) is low = absurd (cc)

pub vault-amount : (all : Bool) (k : Content) → kind_eq (kind_of k) kind.Vault ≡ true → Low all k → amount_of k < amount_limit
vault-amount true k is low = low
vault-amount false (content.Vault currency balance) is low = low
vault-amount false (content.Coin currency balance) is low = absurd (cc)
vault-amount false (content.Cap currency supply) is low = absurd (cc)
vault-amount false (content.Counter value) is low = absurd (cc)
vault-amount false (content.VaultKey vault) is low = absurd (cc)
vault-amount false (content.Limit value) is low = absurd (cc)

pub coin-low : (all : Bool) (currency n : ℕ) → n < amount_limit → Low all (content.Coin currency n)
coin-low all currency n less = with-low all n (content.Coin currency n) less

pub zero-low : (all : Bool) → LowNumber all 0
zero-low true = omega arith
zero-low false = omega arith

-- ---- numbers from bytes

byte-low : (bytes : List ℕ) → Each (λ (b : ℕ). b < 256) bytes → (i : ℕ) → slice_index bytes i < 256
byte-low [] each i = omega arith
byte-low (b ∷ bytes) each zero = each.0
byte-low (b ∷ bytes) each (suc i) = byte-low bytes each.1 i

pub bytes-low : (bytes : List ℕ) → Each (λ (b : ℕ). b < 256) bytes → from_le_bytes w64 bytes < amount_limit
bytes-low bytes each =
    let b0 = byte-low bytes each 0 in
    let b1 = byte-low bytes each 1 in
    let b2 = byte-low bytes each 2 in
    let b3 = byte-low bytes each 3 in
    let b4 = byte-low bytes each 4 in
    let b5 = byte-low bytes each 5 in
    let b6 = byte-low bytes each 6 in
    let b7 = byte-low bytes each 7 in
    omega (arith, b0, b1, b2, b3, b4, b5, b6, b7)

pub number-low : (all : Bool) (n : ℕ) → n < amount_limit → LowNumber all n
number-low true n less = less
number-low false n less = omega arith

-- as a limit too
pub limit-low : (all : Bool) (n : ℕ) → LowNumber all n → Low all (content.Limit n)
limit-low true n low = low
limit-low false n low = low
