-- What checkpoints and their transactions leave, from the objects of the set-up on. Source: Sui Lutris (a node that
-- executes what is checkpointed).
use Rattle.std.specs.Prelude.{List, flat_map, map, Option, Some}
use Rattle.digest_core.specs.declared.Digest.{Digest}
use Rattle.chain_types.specs.declared.objects.Object.{Object}
use Rattle.chain_types.specs.declared.transactions.Transaction.{Transaction}
use Rattle.checkpoint_core.specs.declared.checkpoints.Checkpoint.{Checkpoint}
use Rattle.checkpoint_core.specs.declared.checkpoints.Item.{Item}
use Rattle.effects_core.specs.declared.effects.Effects.{Effects}
use Rattle.protocol_spec.specs.Member.Sequential.{Objects, fold_all, map_of}

-- a checkpoint, with the transactions that were handed in with it
pub record Handed : Type 0 where
  pub checkpoint : Checkpoint
  pub txs : List Transaction

-- the transactions of these checkpoints, in order
abbrev pub joined : List Handed → List Transaction
joined handed = flat_map (λ (h : Handed). h.txs) handed

-- the objects that the sequential execution leaves: one thread that begins with the opening objects and executes them all
unfoldable pub followed : List Object → List Handed → Objects
followed opening handed = (fold_all (map_of opening) (joined handed)).map

-- the effects of each transaction in that execution, in order; none if a transaction has no effects
unfoldable pub followed_effects : List Object → List Handed → List (Option Effects)
followed_effects opening handed = (fold_all (map_of opening) (joined handed)).effects

-- the effects digest that the checkpoints list for each transaction, in order
abbrev pub told_effects : List Handed → List (Option Digest)
told_effects handed = map (λ (i : Item). Some i.effects) (flat_map (λ (h : Handed). h.checkpoint.items) handed)
