use Rattle.std.proofs.Common.{◌≡◌, ◌+◌, length}
use Rattle.std.specs.List.{list_any}
use Rattle.light_client.specs.Accepted.{names_seal}
use Rattle.light_client.proofs.accepted.place_of.Given as goal

-- what is left has such a row as all have one, and its place is that of the list
abbrev pub invariant-loop-rest : goal.invariant-loop-rest
invariant-loop-rest l = record {
  same : list_any (names_seal l.statements l.signer l.bytes l.seal) l.rest ≡ list_any (names_seal l.statements l.signer l.bytes l.seal) l.rows;
  place : l.place + length l.rest ≡ length l.rows;
}

abbrev pub decreases-loop-rest : goal.decreases-loop-rest
decreases-loop-rest l = length l.rest
