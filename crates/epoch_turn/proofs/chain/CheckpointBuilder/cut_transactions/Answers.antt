use Rattle.std.proofs.Common.{◌∙◌, ap, subst, sym}
use Rattle.std.proofs.lemmas.Result.{IfOk-weaker}
use Rattle.epoch_turn.specs.Chains.{AreCut, cut_of_chain}
use Rattle.epoch_turn.proofs.Told.{are_cut}
use Rattle.epoch_turn.proofs.chain.CheckpointBuilder.cut_transactions.Goals as goal

pub returns-clause-cut : goal.returns-clause-cut
returns-clause-cut c = IfOk-weaker c.cut_transactions.result _ _
    (λ txs same. subst (AreCut c.args.self.now) (sym (same ∙ ap cut_of_chain c.self.view_is)) (are_cut c.args.self.now)) c.cut_transactions.ensures
