use Rattle.std.proofs.Common.{◌≡◌, ◌+◌, length}
use Rattle.world_spec.specs.Terms.{rules_for}
use Rattle.validator_core.specs.Limits.{terms_at}
use Rattle.world_spec.specs.Starts.{started_from}
use Rattle.validator_core.proofs.start.take_all.Given as goal

-- the records that are left give what all give
abbrev pub invariant-loop-rest : goal.invariant-loop-rest
invariant-loop-rest g l = record {
  same : started_from (rules_for (terms_at l.fn.state l.committee) (g.S.Checker.accepts l.sealer)) l.state.member l.place l.rest ≡ started_from (rules_for (terms_at l.fn.state l.committee) (g.S.Checker.accepts l.sealer)) l.fn.state.member 0 l.kept;
  limit : l.state.writers ≡ l.fn.state.writers;
  count : l.place + length l.rest ≡ length l.kept;
}

abbrev pub decreases-loop-rest : goal.decreases-loop-rest
decreases-loop-rest g l = length l.rest
