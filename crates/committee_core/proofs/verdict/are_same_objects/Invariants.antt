use Rattle.std.proofs.Common.{◌≡◌, length}
use Rattle.committee_core.proofs.verdict.are_same_objects.Given as goal

-- what is left of both is one exactly if both are
abbrev pub invariant-loop-rest : goal.invariant-loop-rest
invariant-loop-rest l = record {
  forth : l.rest ≡ l.others → l.one ≡ l.other;
  back : l.one ≡ l.other → l.rest ≡ l.others;
}

abbrev pub decreases-loop-rest : goal.decreases-loop-rest
decreases-loop-rest l = length l.rest
