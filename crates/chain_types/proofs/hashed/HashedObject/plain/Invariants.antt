use Rattle.std.proofs.Common.{◌≡◌, take}
use Rattle.chain_types.proofs.hashed.HashedObject.plain.Given as goal

abbrev pub invariant-loop-one : goal.invariant-loop-one
invariant-loop-one l = l.objects ≡ take l.one-index l.hashed
