-- The tables of a chain: what they stand for, what keeps them consistent, and how building adds to them.
use Rattle.std.specs.Prelude.{◌≡◌, ℕ, ◌+◌, ◌≤◌, Bool, List, [], ◌∷◌, ◌++◌, map, take, drop, length, if◌then◌else◌}
use Rattle.std.specs.List.{list_all}
use Rattle.digest_core.specs.declared.Digest.{Digest}
use Rattle.checkpoint_core.specs.declared.checkpoints.Item.{Item}
use Rattle.checkpoint_core.specs.declared.checkpoints.Checkpoint.{Checkpoint}
use Rattle.checkpoint_core.specs.Checkpoints.{digest_of_checkpoint, transactions_in}
use Rattle.protocol_spec.specs.Chain.Words.{last_of}
use Rattle.protocol_spec.specs.Member.Versions.{Execution}
use Rattle.protocol_spec.specs.Member.Checkpoints.{digest_before}
use Rattle.epoch_turn.specs.declared.due.Due.{Due}
use Rattle.epoch_turn.specs.declared.due.CutMark.{CutMark}
use Rattle.epoch_turn.specs.declared.growth.Tip.{Tip}
use Rattle.epoch_turn.specs.declared.growth.Growth.{Growth}
use Rattle.epoch_turn.specs.declared.rows.Rows.{Rows}
use Rattle.epoch_turn.specs.Chains.{Chaining}
use Rattle.epoch_turn.specs.Dues.{is_due_done, due_item, size_of}

-- the tip is that of a chain of these checkpoints
pub record Ends (items : List Checkpoint) (tip : Tip) : Type 0 where
  pub number : tip.number ≡ length items
  pub digest : tip.digest ≡ digest_before (last_of items)
  pub transactions : tip.transactions ≡ transactions_in items

-- what the tables stand for
abbrev pub shown : Rows → Chaining
shown t = record { past = take t.opened t.items.items; built = t.items.items; due = t.due.items; marks = t.marks.items; done = t.done }

-- the tables are consistent: the first `opened` checkpoints are of the epochs before, the others are those of the
-- first `tip.cuts` cuts of this epoch, which have `tip.taken` transactions
pub record IsKept (t : Rows) : Type 0 where
  pub ends : Ends t.items.items t.tip
  pub split : t.opened + t.tip.cuts ≡ length t.items.items
  pub few : t.tip.cuts ≤ length t.marks.items
  pub begins : t.tip.taken ≡ size_of (take t.tip.cuts t.marks.items)
  pub sized : t.cut ≡ size_of t.marks.items
  pub room : t.cut ≤ length t.due.items
  pub ahead : t.done ≤ length t.due.items

-- ---- steps of building

-- loop: the items so far, and after them those of these transactions
abbrev pub items_after : List Execution → List Item → List Due → List Item
items_after executed items [] = items
items_after executed items (d ∷ ds) = items_after executed (items ++ due_item executed d ∷ []) ds

-- the checkpoint of these transactions after the tip
abbrev pub next_checkpoint : ℕ → List Execution → Tip → List Due → Bool → Checkpoint
next_checkpoint epoch executed tip txs last = record {
  epoch = epoch;
  number = tip.number;
  parent = tip.digest;
  items = map (due_item executed) txs;
  last = last;
}

-- the tip after one more checkpoint, with this many transactions and this digest
abbrev pub tip_after : Tip → ℕ → Digest → Tip
tip_after tip size digest = record {
  number = tip.number + 1;
  digest = digest;
  transactions = tip.transactions + size;
  cuts = tip.cuts + 1;
  taken = tip.taken + size;
}

abbrev pub grown_by : Growth → ℕ → Checkpoint → Growth
grown_by g size c = record { fresh = g.fresh ++ c ∷ []; tip = tip_after g.tip size (digest_of_checkpoint c) }

abbrev pub grown : ℕ → List Execution → Growth → List Due → Bool → Growth
grown epoch executed g txs last = grown_by g (length txs) (next_checkpoint epoch executed g.tip txs last)

-- the growth so far with the checkpoints of these cuts, up to the first that is not done
abbrev pub grown_all : ℕ → List Execution → Growth → List Due → List CutMark → Growth
grown_all epoch executed g due [] = g
grown_all epoch executed g due (m ∷ ms) =
    if list_all (is_due_done executed) (take m.size due)
    then grown_all epoch executed (grown epoch executed g (take m.size due) m.last) (drop m.size due) ms
    else g

-- what `advance` adds to the tables: the checkpoints of the cuts that have none yet
abbrev pub growth_of : ℕ → List Execution → Rows → Growth
growth_of epoch executed t = grown_all epoch executed (record { fresh = []; tip = t.tip }) (drop t.tip.taken t.due.items) (drop t.tip.cuts t.marks.items)

-- the growth was added to the tables, and this many transactions at the start are noted as done
pub record Takes (g : Growth) (done : ℕ) (old new : Rows) : Type 0 where
  pub items : new.items.items ≡ old.items.items ++ g.fresh
  pub opened : new.opened ≡ old.opened
  pub tip : new.tip ≡ g.tip
  pub due : new.due.items ≡ old.due.items
  pub marks : new.marks.items ≡ old.marks.items
  pub cut : new.cut ≡ old.cut
  pub found : new.done ≡ done

-- the tables are as before
pub record Keeps (old new : Rows) : Type 0 where
  pub items : new.items.items ≡ old.items.items
  pub opened : new.opened ≡ old.opened
  pub tip : new.tip ≡ old.tip
  pub due : new.due.items ≡ old.due.items
  pub marks : new.marks.items ≡ old.marks.items
  pub cut : new.cut ≡ old.cut
  pub found : new.done ≡ old.done
