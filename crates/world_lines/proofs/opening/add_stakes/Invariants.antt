use Rattle.std.proofs.Common.{◌≡◌, drop}
use Rattle.std.specs.Prelude.{fold}
use Rattle.world_lines.specs.Openings.{with_stake}
use Rattle.world_lines.proofs.opening.add_stakes.Given as goal

-- the lines that are left add what is missing
abbrev pub invariant-loop-line : goal.invariant-loop-line
invariant-loop-line l = fold with_stake l.stakes.items (drop l.line-index l.setup) ≡ fold with_stake l.fn.stakes.items l.setup
