use Rattle.std.proofs.Common.{◌≡◌, map, take}
use Rattle.committee_core.specs.Desk.{signed_bytes}
use Rattle.committee_core.proofs.desk.signed_requests.Given as goal

abbrev pub invariant-loop-place : goal.invariant-loop-place
invariant-loop-place l = l.requests ≡ map signed_bytes (take l.place l.world.known.txs)
