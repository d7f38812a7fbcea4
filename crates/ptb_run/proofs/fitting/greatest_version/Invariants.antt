use Rattle.std.proofs.Common.{◌≡◌, max, length, fold, map}
use Rattle.ptb_run.specs.Versions.{greatest_version, version_in}
use Rattle.ptb_run.proofs.fitting.greatest_version.Given as goal

-- what is left is counted from the greatest so far
abbrev pub invariant-loop-rest : goal.invariant-loop-rest
invariant-loop-rest l = fold max l.greatest (map version_in l.rest) ≡ greatest_version l.objects

abbrev pub decreases-loop-rest : goal.decreases-loop-rest
decreases-loop-rest l = length l.rest
