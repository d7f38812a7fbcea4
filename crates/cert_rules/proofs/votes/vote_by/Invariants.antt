use Rattle.std.proofs.Common.{◌≡◌, length}
use Rattle.cert_rules.specs.Collect.{vote_by}
use Rattle.cert_rules.proofs.votes.vote_by.Given as goal

-- each vote that was passed is another member's
abbrev pub invariant-loop-rest : goal.invariant-loop-rest
invariant-loop-rest l = vote_by l.rest l.member ≡ vote_by l.votes l.member

abbrev pub decreases-loop-rest : goal.decreases-loop-rest
decreases-loop-rest l = length l.rest
