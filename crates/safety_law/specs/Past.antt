-- The checkpoints of all epochs before a given one, as one thread gives them. Source: Sui Lutris.
use Rattle.std.specs.Prelude.{ℕ, zero, suc, List, [], ◌∷◌, ◌++◌, map, flat_map, zip, take, drop, length}
use Rattle.chain_types.specs.declared.objects.Object.{Object}
use Rattle.checkpoint_core.specs.declared.checkpoints.Item.{Item}
use Rattle.checkpoint_core.specs.declared.checkpoints.Checkpoint.{Checkpoint}
use Rattle.chain_messages.specs.declared.messages.Entry.{Entry}
use Rattle.protocol_spec.specs.Chain.Words.{last_of}
use Rattle.protocol_spec.specs.Member.Sequence.{Cut}
use Rattle.protocol_spec.specs.Member.Sequential.{map_of, fold_all}
use Rattle.protocol_spec.specs.Member.Checkpoints.{digest_before}
use Rattle.world_spec.specs.Setting.{Setting}
use Rattle.world_spec.specs.Openings.{txs_in, sequence_of, opening_at}
use Rattle.safety_law.specs.Thread.{item_with}
use Rattle.safety_law.specs.Checkpointed.{admitted_in}

-- the items of one thread that executes, in order, the transactions of these cuts on these objects
abbrev pub items_of_thread : List Object → List Cut → List Item
items_of_thread opening cuts = map item_with (zip (flat_map admitted_in cuts) (fold_all (map_of opening) (flat_map txs_in cuts)).effects)

-- the checkpoints of these cuts, after those before: each takes as many of the items as its cut has transactions
abbrev pub checkpoints_with : ℕ → List Item → List Checkpoint → List Cut → List Checkpoint
checkpoints_with epoch items before [] = before
checkpoints_with epoch items before (c ∷ cs) = checkpoints_with epoch (drop (length c.txs) items) (before ++ record {
  epoch = epoch;
  number = length before;
  parent = digest_before (last_of before);
  items = take (length c.txs) items;
  last = c.last;
} ∷ []) cs

abbrev pub checkpoints_of_thread : ℕ → List Object → List Cut → List Checkpoint → List Checkpoint
checkpoints_of_thread epoch opening cuts before = checkpoints_with epoch (items_of_thread opening cuts) before cuts

-- all checkpoints of the epochs before this one, as the world's sequences give them
unfoldable pub past_at : Setting → List (List Entry) → ℕ → List Checkpoint
past_at s sequences zero = []
past_at s sequences (suc epoch) = checkpoints_of_thread epoch (opening_at s sequences epoch) (sequence_of s sequences epoch (opening_at s sequences epoch)).cuts (past_at s sequences epoch)
