-- The execution of a long block.
use Rattle.std.specs.Prelude.{◌≡◌, ℕ, List, [], ◌∷◌, length, replicate}
use Rattle.chain_types.specs.declared.objects.Object.{Object}
use Rattle.chain_types.specs.declared.objects.Content.{Content}
use Rattle.chain_types.specs.declared.objects.Content.TheVariants as content
use Rattle.chain_types.specs.declared.objects.Owner.TheVariants as owner
use Rattle.chain_types.specs.declared.transactions.Input.TheVariants as inputs
use Rattle.effects_core.specs.declared.effects.Status.{Status}
use Rattle.effects_core.specs.declared.effects.Status.TheVariants as status
use Rattle.protocol_spec.specs.declared.pieces.Executed.{Executed}
use Rattle.protocol_spec.specs.Block.Execution.{execution}
use Rattle.rows_law.specs.SomeTransaction.{some_id, transaction_of}
use Rattle.rows_law.specs.BlocksHaveLimits.{pairs, zero_number}

-- how it ended, the gas, the ids drawn, how many objects are written, and the gas coin
pub record Told : Type 0 where
  pub status : Status
  pub gas : ℕ
  pub created : ℕ
  pub written : ℕ
  pub coin : List Content

abbrev pub first_of_all : List Object → List Content
first_of_all [] = []
first_of_all (o ∷ os) = o.content ∷ []

abbrev pub told : Executed → Told
told x = record { status = x.effects.status; gas = x.effects.gas; created = x.effects.created; written = length x.effects.written; coin = first_of_all x.objects }

abbrev pub coin : Object
coin = record { id = some_id 1; version = 1; owner = owner.Address (record { 0 = record { 0 = replicate 32 3 } }); content = content.Coin 0 1000000 }

-- 64 new counters, each frozen
abbrev pub ALongBlockRuns : Type 0
ALongBlockRuns =
    told (execution (transaction_of 200000 (inputs.Pure zero_number ∷ []) (pairs 0 64)) (coin ∷ []))
    ≡ record { status = status.Done; gas = 13800; created = 64; written = 65; coin = content.Coin 0 986200 ∷ [] }
