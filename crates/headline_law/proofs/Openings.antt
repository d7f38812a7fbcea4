-- Every epoch opens with amounts, so each gas coin that paid held one.
use Rattle.std.specs.Prelude.{◌≡◌, ℕ, zero, suc, List, slice_get, Some}
use Rattle.chain_messages.specs.declared.messages.Entry.{Entry}
use Rattle.schedule_text.specs.declared.words.Event.{Event}
use Rattle.protocol_spec.specs.Chain.Words.{Each}
use Rattle.world_spec.specs.Setting.{Setting}
use Rattle.world_spec.specs.World.{Seat, member_in}
use Rattle.world_spec.specs.Openings.{checkpointed, sequence_of, opening_at}
use Rattle.world_spec.specs.Run.{world_after}
use Rattle.world_spec.specs.Assumptions.{IsHonestRun}
use Rattle.block_law.specs.Orderly.{AreApart}
use Rattle.safety_law.specs.Sums.{GasHeldBefore}
use Rattle.safety_law.proofs.Opened.{every-opening}
use Rattle.headline_law.specs.Amounts.{HoldsAmount}
use Rattle.headline_law.proofs.Thread.{thread-amounts, gas-holds}

pub openings-hold : (s : Setting) → Each HoldsAmount s.opening → (sequences : List (List Entry)) (epoch : ℕ) → Each HoldsAmount (opening_at s sequences epoch)
unfolding opening_at
openings-hold s each sequences zero = each
openings-hold s each sequences (suc epoch) =
    thread-amounts (opening_at s sequences epoch) (checkpointed (sequence_of s sequences epoch (opening_at s sequences epoch))) (openings-hold s each sequences epoch)

pub gas-was-held : (s : Setting) (events : List Event) → IsHonestRun s events → AreApart s.opening → Each HoldsAmount s.opening
    → (m : ℕ) (seat : Seat) → slice_get (world_after s events).seats m ≡ Some seat → GasHeldBefore s (world_after s events).sequences (member_in s seat).epoch
gas-was-held s events honest distinct each m seat at =
    let left = every-opening s events honest distinct m seat at in
    let sequences = (world_after s events).sequences in
    λ epoch less. gas-holds (opening_at s sequences epoch) (checkpointed (sequence_of s sequences epoch (opening_at s sequences epoch))) (openings-hold s each sequences epoch) (left.past epoch less).executed
