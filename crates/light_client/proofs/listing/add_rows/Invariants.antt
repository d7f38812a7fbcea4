use Rattle.std.proofs.Common.{◌≡◌, ◌++◌, length}
use Rattle.std.specs.Prelude.{map}
use Rattle.light_client.specs.Listing.{row_at}
use Rattle.light_client.proofs.listing.add_rows.Given as goal

-- the rows so far, and those of what is left, are those of all
abbrev pub invariant-loop-rest : goal.invariant-loop-rest
invariant-loop-rest l = l.rows ++ map (row_at l.at l.statement) l.rest ≡ l.fn.rows ++ map (row_at l.at l.statement) l.seals

abbrev pub decreases-loop-rest : goal.decreases-loop-rest
decreases-loop-rest l = length l.rest
