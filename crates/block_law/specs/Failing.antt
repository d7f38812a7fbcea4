-- What a failed block leaves.
use Rattle.std.specs.Prelude.{◌≡◌, ◌≢◌, ◌≤◌, ◌-◌, ℕ, true, List, [], ◌∷◌, map, None}
use Rattle.chain_types.specs.declared.objects.Object.{Object}
use Rattle.chain_types.specs.declared.objects.Content.TheVariants as content
use Rattle.chain_types.specs.declared.transactions.Transaction.{Transaction}
use Rattle.effects_core.specs.declared.effects.Status.TheVariants as status
use Rattle.protocol_spec.specs.declared.pieces.Executed.{Executed}
use Rattle.protocol_spec.specs.Chain.Keys.{fits, version_of}
use Rattle.protocol_spec.specs.Chain.Shape.{shape_fault, cost}
use Rattle.protocol_spec.specs.Block.Block.{Place}
use Rattle.protocol_spec.specs.Block.Execution.{execution, written_inputs}

-- an object at another version
abbrev pub at_version : ℕ → (Place × Object) → Object
at_version version x = record x.1 { version = version }

-- a gas coin at another version, with the cost taken off its balance
abbrev pub paid : ℕ → ℕ → ℕ → Object → Object
paid version balance price coin = record coin { version = version; content = content.Coin 0 (balance - price) }

-- a failed block: its effects have a failure, draw no id and delete nothing; the gas coin pays, and the other inputs
-- that may be written differ only in their version
pub record PaysGas (t : Transaction) (coin : Object) (others : List Object) (x : Executed) : Type 0 where
  pub balance : ℕ
  pub held : coin.content ≡ content.Coin 0 balance
  pub affordable : cost t ≤ balance
  pub price : x.effects.gas ≡ cost t
  pub created : x.effects.created ≡ 0
  pub deleted : x.effects.deleted ≡ []
  pub objects : x.objects ≡ paid (version_of (coin ∷ others)) balance (cost t) coin ∷ map (at_version (version_of (coin ∷ others))) (written_inputs 0 t.inputs others)

-- every failed block is of this kind, for every transaction of valid shape and all objects that fit it
abbrev pub AFailedBlockPaysGas : Type 0
AFailedBlockPaysGas =
    (t : Transaction) (coin : Object) (others : List Object) →
    shape_fault t ≡ None → fits t (coin ∷ others) ≡ true →
    (execution t (coin ∷ others)).effects.status ≢ status.Done →
    PaysGas t coin others (execution t (coin ∷ others))
