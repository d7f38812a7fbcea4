use Rattle.std.proofs.Common.{◌≡◌, length}
use Rattle.protocol_spec.specs.Chain.Words.{first_of}
use Rattle.protocol_spec.specs.Member.Votes.{consumed}
use Rattle.vote_rules.specs.Cases.{ballot_of}
use Rattle.vote_rules.proofs.case.first_consumed.Given as goal

-- no key that was passed was consumed
abbrev pub invariant-loop-rest : goal.invariant-loop-rest
invariant-loop-rest l = first_of (consumed (ballot_of l.store)) l.rest ≡ first_of (consumed (ballot_of l.store)) l.keys

abbrev pub decreases-loop-rest : goal.decreases-loop-rest
decreases-loop-rest l = length l.rest
