-- The money of objects is an amount (below 2 ^ 64) in every epoch, if it is in the set-up.
use Rattle.std.specs.Prelude.{◌≡◌, ℕ, List, slice_get, Some}
use Rattle.std.specs.FinMap.{values}
use Rattle.chain_types.specs.declared.objects.Object.{Object}
use Rattle.chain_types.specs.declared.transactions.Transaction.{Transaction}
use Rattle.chain_messages.specs.declared.messages.Entry.{Entry}
use Rattle.schedule_text.specs.declared.words.Event.{Event}
use Rattle.protocol_spec.specs.Chain.Words.{Each}
use Rattle.protocol_spec.specs.Member.Sequential.{map_of, fold_all}
use Rattle.world_spec.specs.Setting.{Setting}
use Rattle.world_spec.specs.World.{Seat, member_in}
use Rattle.world_spec.specs.Openings.{opening_at}
use Rattle.world_spec.specs.Run.{world_after}
use Rattle.world_spec.specs.Assumptions.{IsHonestRun}
use Rattle.block_law.specs.Orderly.{AreApart}
use Rattle.safety_law.specs.Sums.{GasHeldBefore}
use Rattle.headline_law.specs.Amounts.{HoldsAmount}

-- one thread that executes any transactions in order leaves amounts, if it started from amounts
abbrev pub ThreadsKeepAmounts : Type 0
ThreadsKeepAmounts = (opening : List Object) (txs : List Transaction) → Each HoldsAmount opening → Each HoldsAmount (values (fold_all (map_of opening) txs).map)

-- every epoch opens with amounts if the set-up does, whatever the sequences are
abbrev pub OpeningsHoldAmounts : Type 0
OpeningsHoldAmounts = (s : Setting) → Each HoldsAmount s.opening → (sequences : List (List Entry)) (epoch : ℕ) → Each HoldsAmount (opening_at s sequences epoch)

-- under the run assumptions, each gas coin that paid in an epoch that a member has left held an amount
abbrev pub GasWasHeld : Type 0
GasWasHeld = (s : Setting) (events : List Event) → IsHonestRun s events → AreApart s.opening → Each HoldsAmount s.opening
    → (m : ℕ) (seat : Seat) → slice_get (world_after s events).seats m ≡ Some seat → GasHeldBefore s (world_after s events).sequences (member_in s seat).epoch
