use Rattle.std.proofs.Common.{subst, sym, Option}
use Rattle.digest_core.specs.declared.Digest.{Digest}
use Rattle.epoch_turn.specs.Chains.{Chaining, FindsFirst}
use Rattle.epoch_turn.specs.Kept.{shown}
use Rattle.epoch_turn.proofs.Told.{finds_first}
use Rattle.epoch_turn.proofs.chain.CheckpointBuilder.waits.Goals as goal

pub returns-clause-first : goal.returns-clause-first
returns-clause-first c =
    subst (λ (v : Chaining). FindsFirst c.waits.result v) c.self.view_is
    (subst (λ (o : Option Digest). FindsFirst o (shown c.self.inside.rows)) (sym c.waits.ensures) (finds_first (shown c.self.inside.rows)))
