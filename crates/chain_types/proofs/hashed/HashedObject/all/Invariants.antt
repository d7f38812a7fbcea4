use Rattle.std.proofs.Common.{◌≡◌, take}
use Rattle.chain_types.proofs.hashed.HashedObject.all.Given as goal

abbrev pub invariant-loop-object : goal.invariant-loop-object
invariant-loop-object l = l.hashed ≡ take l.object-index l.objects
