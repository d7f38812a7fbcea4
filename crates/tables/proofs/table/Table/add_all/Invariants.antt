use Rattle.std.proofs.Common.{◌≡◌, ◌≤◌, ◌++◌, length}
use Rattle.std.specs.Vec.Iter.{into_iter_items}
use Rattle.tables.proofs.table.Table.add_all.Given as goal

-- what is left goes after the rows, and there is room for it
abbrev pub invariant-loop-row : goal.invariant-loop-row
invariant-loop-row g l = record {
  same : l.self.rows ++ into_iter_items l.row-iterator ≡ l.fn.self.rows ++ l.fn.rows.items;
  room : length (into_iter_items l.row-iterator) ≤ l.self.room;
}
