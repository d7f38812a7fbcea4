use Rattle.std.proofs.Common.{◌≡◌, ◌++◌, length, map}
use Rattle.protocol_spec.specs.Block.Execution.{written_of}
use Rattle.ptb_run.proofs.hashed.listed.Given as goal

-- what was passed, and then what is left; of that the effects' list is left
abbrev pub invariant-loop-rest : goal.invariant-loop-rest
invariant-loop-rest l = record {
  same : l.hashed ++ l.rest ≡ l.objects;
  listed : l.left ≡ map written_of l.rest;
}

abbrev pub decreases-loop-rest : goal.decreases-loop-rest
decreases-loop-rest l = length l.rest
