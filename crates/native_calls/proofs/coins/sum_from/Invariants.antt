use Rattle.std.proofs.Common.{◌≡◌, ◌+◌, ◌<◌, ◌^◌, sum_by, length}
use Rattle.protocol_spec.specs.declared.pieces.Item.{Item}
use Rattle.protocol_spec.specs.Block.Natives.{amount_of}
use Rattle.native_calls.proofs.coins.sum_from.Given as goal

-- what was added, with what is left, is the whole
abbrev pub invariant-loop-rest : goal.invariant-loop-rest
invariant-loop-rest l = record {
  same : l.sum + sum_by (λ (i : Item). amount_of i.content) l.rest ≡ l.start + sum_by (λ (i : Item). amount_of i.content) l.coins;
  fits : l.sum < 2 ^ 64;
}

abbrev pub decreases-loop-rest : goal.decreases-loop-rest
decreases-loop-rest l = length l.rest
