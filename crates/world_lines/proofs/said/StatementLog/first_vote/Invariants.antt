use Rattle.std.proofs.Common.{◌≡◌, ◌+◌, length}
use Rattle.std.specs.List.{enumerate_from}
use Rattle.protocol_spec.specs.Chain.Words.{first_of}
use Rattle.world_lines.specs.SaidVotes.{first_vote, vote_if}
use Rattle.world_lines.proofs.said.StatementLog.first_vote.Given as goal

-- no honest member that was passed has a vote
abbrev pub invariant-loop-rest : goal.invariant-loop-rest
invariant-loop-rest l = record {
  length : l.member + length l.rest ≡ length l.honest;
  same : first_of (vote_if l.self l.epoch l.tx) (enumerate_from l.member l.rest) ≡ first_vote l.self l.epoch l.tx l.honest;
}

abbrev pub decreases-loop-rest : goal.decreases-loop-rest
decreases-loop-rest l = length l.rest
