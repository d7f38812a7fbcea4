-- The objects with which each epoch opens: what executing the checkpointed transactions in
-- order on one thread leaves. Source: Sui Lutris.
use Rattle.std.specs.Prelude.{ℕ, zero, suc, List, map, flat_map}
use Rattle.std.specs.FinMap.{values}
use Rattle.chain_types.specs.declared.objects.Object.{Object}
use Rattle.chain_types.specs.declared.transactions.Transaction.{Transaction}
use Rattle.chain_messages.specs.declared.messages.Entry.{Entry}
use Rattle.chain_messages.specs.Messages as messages
use Rattle.protocol_spec.specs.Member.Admission.{Admitted}
use Rattle.protocol_spec.specs.Member.Sequence.{Cut, Sequence, seen}
use Rattle.protocol_spec.specs.Member.Sequential.{map_of, fold_all}
use Rattle.world_spec.specs.Setting.{Setting}
use Rattle.world_spec.specs.World.{entries_at}

abbrev pub txs_in : Cut → List Transaction
txs_in c = map (λ (a : Admitted). a.cert.tx) c.txs

-- the transactions of the checkpoints of an epoch, in order
abbrev pub checkpointed : Sequence → List Transaction
checkpointed q = flat_map txs_in q.cuts

-- what the sequence of an epoch gives to a member that opened it with these objects
abbrev pub sequence_of : Setting → List (List Entry) → ℕ → List Object → Sequence
sequence_of s sequences epoch opening = seen s.rules opening epoch (map messages.entry.spell (entries_at sequences epoch))

-- the opening objects of an epoch
unfoldable pub opening_at : Setting → List (List Entry) → ℕ → List Object
opening_at s sequences zero = s.opening
opening_at s sequences (suc epoch) = values (fold_all (map_of (opening_at s sequences epoch)) (checkpointed (sequence_of s sequences epoch (opening_at s sequences epoch)))).map
