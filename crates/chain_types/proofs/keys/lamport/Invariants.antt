use Rattle.std.proofs.Common.{◌≡◌, ◌<◌, ◌^◌, ◌-◌, max, take}
use Rattle.std.specs.Prelude.{fold}
use Rattle.chain_types.proofs.keys.lamport.Given as goal

abbrev pub invariant-loop-version : goal.invariant-loop-version
invariant-loop-version l = (l.greatest ≡ fold max 0 (take l.version-index l.versions)) × (l.greatest < 2 ^ 64 - 1)
