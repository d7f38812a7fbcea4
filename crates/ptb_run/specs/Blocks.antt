-- The code's state of a block as the definition's.
use Rattle.std.specs.Prelude.{ℕ, List, ◌++◌, length, Option}
use Rattle.protocol_spec.specs.Block.Block as block
use Rattle.ptb_run.specs.declared.value.Value.{Value}
use Rattle.ptb_run.specs.declared.block.Block.{Block}
use Rattle.ptb_run.specs.Slots.{result_row, slots_of}

unfoldable pub block_of : Block → block.Block
block_of b = record { slots = slots_of b.slots; placed = b.placed; made = b.made }

-- how many commands have run: each has added a row of results, which may be empty
unfoldable pub rows_of : Block → ℕ
rows_of b = length b.slots.results.items

-- the block with this row as the results of this command
abbrev pub with_row : ℕ → List (Option Value) → block.Block → block.Block
with_row c row b = record b { slots = b.slots ++ result_row c 0 row }
