use Rattle.std.proofs.Common.{◌≡◌, drop}
use Rattle.world_lines.specs.Drawn.{all_rows}
use Rattle.world_lines.proofs.drawn.add_lines.Given as goal

-- the lines that are left add what is missing
abbrev pub invariant-loop-ids : goal.invariant-loop-ids
invariant-loop-ids l = all_rows l.rows.items (drop l.ids-index l.lines) ≡ all_rows l.fn.rows.items l.lines
