use Rattle.std.proofs.Common.{subst, sym}
use Rattle.epoch_turn.specs.Chains.{IsBehind}
use Rattle.epoch_turn.proofs.chain.CheckpointBuilder.end.Goals as goal

pub returns-clause-behind : goal.returns-clause-behind
returns-clause-behind c epoch executed behind = c.cut.ensures.behind epoch executed (subst (IsBehind epoch executed) (sym c.self.view_is) behind)
