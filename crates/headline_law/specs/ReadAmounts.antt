-- Sums in the run of every schedule that a text says, under only the run assumptions. Source: this profile.
use Rattle.std.specs.Prelude.{◌≡◌, ◌≢◌, ◌<◌, ◌+◌, ℕ, suc, List, slice_get, Some, Ok}
use Rattle.schedule_text.specs.declared.words.Schedule.{Schedule}
use Rattle.schedule_text.specs.Schedule.{schedule_of}
use Rattle.protocol_spec.specs.Chain.Words.{Each}
use Rattle.protocol_spec.specs.Chain.Keys.{currency_sum}
use Rattle.world_spec.specs.Setting.{Trust, setting_of}
use Rattle.world_spec.specs.World.{Seat, member_in}
use Rattle.world_spec.specs.Openings.{opening_at}
use Rattle.world_spec.specs.Run.{world_after}
use Rattle.world_spec.specs.Assumptions.{IsHonestRun}
use Rattle.block_law.specs.Money.{cap_count, supply_sum}
use Rattle.safety_law.specs.Sums.{epoch_gas}
use Rattle.headline_law.specs.Amounts.{IsAmount}

-- all numbers in the set-up objects of a schedule that a text says are amounts
abbrev pub ReadSetUpsAreAmounts : Type 0
ReadSetUpsAreAmounts = (text : List ℕ) (t : Schedule) → schedule_of text ≡ Ok t → (trust : Trust) → Each IsAmount (setting_of trust t.setup).opening

-- the set-up of a schedule that a text says has no cap of the currency of gas
abbrev pub ReadSetUpsHaveNoGasCap : Type 0
ReadSetUpsHaveNoGasCap = (text : List ℕ) (t : Schedule) → schedule_of text ≡ Ok t → (trust : Trust) → cap_count (setting_of trust t.setup).opening 0 ≡ 0

-- in each epoch that a member has left, all that went of the currency that pays gas is the gas of the epoch
abbrev pub ReadGasAloneLeaves : Type 0
ReadGasAloneLeaves = (text : List ℕ) (t : Schedule) → schedule_of text ≡ Ok t → (trust : Trust) → IsHonestRun (setting_of trust t.setup) t.events
    → (m : ℕ) (seat : Seat) → slice_get (world_after (setting_of trust t.setup) t.events).seats m ≡ Some seat → (epoch : ℕ) → epoch < (member_in (setting_of trust t.setup) seat).epoch
    → currency_sum (opening_at (setting_of trust t.setup) (world_after (setting_of trust t.setup) t.events).sequences (suc epoch)) 0
    + epoch_gas (setting_of trust t.setup) (world_after (setting_of trust t.setup) t.events).sequences epoch
    ≡ currency_sum (opening_at (setting_of trust t.setup) (world_after (setting_of trust t.setup) t.events).sequences epoch) 0

-- of each other currency the opening objects of every member hold as much as their caps say
abbrev pub ReadCurrenciesAreBacked : Type 0
ReadCurrenciesAreBacked = (text : List ℕ) (t : Schedule) → schedule_of text ≡ Ok t → (trust : Trust) → IsHonestRun (setting_of trust t.setup) t.events
    → (currency : ℕ) → currency ≢ 0 → (m : ℕ) (seat : Seat) → slice_get (world_after (setting_of trust t.setup) t.events).seats m ≡ Some seat
    → currency_sum (member_in (setting_of trust t.setup) seat).opening currency ≡ supply_sum (member_in (setting_of trust t.setup) seat).opening currency
