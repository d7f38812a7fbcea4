use Rattle.std.proofs.Common.{◌≡◌, map, take}
use Rattle.protocol_spec.specs.Chain.Words.{Each}
use Rattle.cert_rules.specs.Collect.{IsVoteFor, voters}
use Rattle.rules_tests.proofs.clients.votes_of.Given as goal

abbrev pub invariant-loop-member : goal.invariant-loop-member
invariant-loop-member l = record { votes : Each (IsVoteFor l.tx) l.votes; voters : voters l.votes ≡ map (λ n. n.0) (take l.member-index l.named) }
