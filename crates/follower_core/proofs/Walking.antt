-- One step of the walk over the transactions of a checkpoint.
use Rattle.std.proofs.Common.{arith, ◌≡◌, ◌+◌, ℕ, suc, All, List, [], ◌∷◌, length}
use Rattle.chain_types.specs.declared.transactions.Transaction.{Transaction}
use Rattle.chain_types.specs.Transactions.{transaction}
use Rattle.checkpoint_core.specs.declared.checkpoints.Item.{Item}
use Rattle.protocol_spec.specs.Chain.Words.{Each}
use Rattle.follower_core.specs.Courses.{behind_all, first_bad}
use Rattle.follower_core.specs.Ledgers.{Ledger}

-- what is left, from this place on, gives what all give, and nothing is kept yet
pub record Walks (start : Ledger) (items : List Item) (txs : List Transaction) (now : Ledger) (place : ℕ) (left : List Item) (rest : List Transaction) : Type 0 where
  pub kept : now.kept ≡ start.kept
  pub same : first_bad now.present place left rest ≡ first_bad start.present 0 items txs
  pub leads : behind_all now.present rest ≡ behind_all start.present txs
  pub size : length rest ≡ length left
  pub count : place + length left ≡ length items
  pub short : Each transaction.short rest

pub each_short : (txs : List Transaction) → All transaction.short txs → Each transaction.short txs
each_short [] all = tt
each_short (t ∷ ts) all = (all 0 t (omega arith), each_short ts (λ k d less. all (suc k) d (omega (arith, less))))
