-- What the opening objects of the epochs hold of each currency.
use Rattle.std.specs.Prelude.{◌≡◌, ◌≢◌, ◌<◌, ◌+◌, ℕ, suc, List, slice_get, Some}
use Rattle.chain_messages.specs.declared.messages.Entry.{Entry}
use Rattle.schedule_text.specs.declared.words.Setup.{Setup}
use Rattle.schedule_text.specs.declared.words.Setup.TheVariants as line
use Rattle.schedule_text.specs.declared.words.Event.{Event}
use Rattle.protocol_spec.specs.Chain.Words.{Each}
use Rattle.protocol_spec.specs.Chain.Keys.{currency_sum}
use Rattle.protocol_spec.specs.Member.Sequential.{map_of, fold_all}
use Rattle.world_spec.specs.Setting.{Trust, Setting, setting_of}
use Rattle.world_spec.specs.World.{Seat, member_in}
use Rattle.world_spec.specs.Openings.{checkpointed, sequence_of, opening_at}
use Rattle.world_spec.specs.Run.{world_after}
use Rattle.world_spec.specs.Assumptions.{IsHonestRun}
use Rattle.block_law.specs.Money.{cap_count, supply_sum}
use Rattle.block_law.specs.Kept.{gas_of}
use Rattle.block_law.specs.Orderly.{AreApart}
use Rattle.safety_law.specs.Opened.{GasHoldsIn}

-- the gas of the checkpointed transactions of an epoch, as one thread executes them
abbrev pub epoch_gas : Setting → List (List Entry) → ℕ → ℕ
epoch_gas s sequences epoch =
    gas_of 0 (fold_all (map_of (opening_at s sequences epoch)) (checkpointed (sequence_of s sequences epoch (opening_at s sequences epoch)))).effects

-- in each epoch before this one, every gas coin that pays holds an amount
abbrev pub GasHeldBefore : Setting → List (List Entry) → ℕ → Type 0
GasHeldBefore s sequences n = (epoch : ℕ) → epoch < n → GasHoldsIn (opening_at s sequences epoch) (sequence_of s sequences epoch (opening_at s sequences epoch))

-- in each epoch that a member has left, all that went of the currency that pays gas is that gas; it has no cap
abbrev pub OnlyGasLeaves : Type 0
OnlyGasLeaves = (s : Setting) (events : List Event) → IsHonestRun s events → AreApart s.opening → cap_count s.opening 0 ≡ 0
    → (m : ℕ) (seat : Seat) → slice_get (world_after s events).seats m ≡ Some seat → GasHeldBefore s (world_after s events).sequences (member_in s seat).epoch → (epoch : ℕ) → epoch < (member_in s seat).epoch
    → currency_sum (opening_at s (world_after s events).sequences (suc epoch)) 0 + epoch_gas s (world_after s events).sequences epoch
    ≡ currency_sum (opening_at s (world_after s events).sequences epoch) 0

-- of each other currency the opening objects of every member hold as much as their caps say
abbrev pub CurrenciesAreBacked : Type 0
CurrenciesAreBacked = (s : Setting) (events : List Event) → IsHonestRun s events → AreApart s.opening
    → (currency : ℕ) → currency ≢ 0 → currency_sum s.opening currency ≡ supply_sum s.opening currency
    → (m : ℕ) (seat : Seat) → slice_get (world_after s events).seats m ≡ Some seat → GasHeldBefore s (world_after s events).sequences (member_in s seat).epoch
    → currency_sum (member_in s seat).opening currency ≡ supply_sum (member_in s seat).opening currency

-- ---- set-ups

-- the set-up of every schedule is backed: of each currency other than gas its objects hold as much as their caps say
abbrev pub SetUpIsBacked : Type 0
SetUpIsBacked = (trust : Trust) (lines : List Setup) (currency : ℕ) → currency ≢ 0
    → currency_sum (setting_of trust lines).opening currency ≡ supply_sum (setting_of trust lines).opening currency

-- a line for a cap names a currency other than that of gas
abbrev pub NamesOther : Setup → Type 0
NamesOther (line.Member stake honest) = Unit {0}
NamesOther (line.Coin name who balance) = Unit {0}
NamesOther (line.Counter name value) = Unit {0}
NamesOther (line.Cap name who currency) = currency ≢ 0
NamesOther (line.Writers n) = Unit {0}

-- a set-up whose lines name no cap of the currency of gas has no such cap
abbrev pub SetUpHasNoGasCap : Type 0
SetUpHasNoGasCap = (trust : Trust) (lines : List Setup) → Each NamesOther lines → cap_count (setting_of trust lines).opening 0 ≡ 0
