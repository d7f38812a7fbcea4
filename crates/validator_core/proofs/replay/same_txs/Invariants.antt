use Rattle.std.proofs.Common.{◌≡◌, length, map}
use Rattle.chain_types.specs.Equal.{digest_eq}
use Rattle.journal_core.specs.declared.records.RanItem.{RanItem}
use Rattle.protocol_spec.specs.Chain.Tests.{list_eq}
use Rattle.validator_core.proofs.replay.same_txs.Given as goal

-- what is left answers as all does
abbrev pub invariant-loop-txs : goal.invariant-loop-txs
invariant-loop-txs l = list_eq digest_eq l.txs (map (λ (i : RanItem). i.tx) l.items) ≡ list_eq digest_eq l.fn.txs (map (λ (i : RanItem). i.tx) l.fn.items)

abbrev pub decreases-loop-txs : goal.decreases-loop-txs
decreases-loop-txs l = length l.txs
