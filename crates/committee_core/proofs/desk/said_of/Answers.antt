use Rattle.std.proofs.Common.{ap, sym, ◌∙◌}
use Rattle.std.specs.List.{list_all}
use Rattle.world_core.specs.Trusts.{trust_by}
use Rattle.committee_core.specs.Desk.{is_tx}
use Rattle.committee_core.proofs.Voting.{of_one, said_other, said_txs}
use Rattle.committee_core.proofs.desk.said_of.Goals as goal

pub returns-then-not-only_tx : goal.returns-then-not-only_tx
returns-then-not-only_tx g c =
    said_other c.said_line.result (trust_by (g.S.MakesSeals.made c.args.sealer) (g.S.Checker.accepts c.args.sealer)) c.args.callers c.args.schedule c.as_slice-then-not-only_tx.result.now c.as_slice-then-not-only_tx.ensures
    (sym (c.if-not-only_tx.ensures ∙ ap (list_all is_tx) c.as_slice.ensures.value)) c.said_line.ensures

pub returns-in-Ok : goal.returns-in-Ok
returns-in-Ok g c =
    let txs = sym (c.if-not-only_tx.ensures ∙ ap (list_all is_tx) c.as_slice.ensures.value) in
    said_txs c.said_in-said.result (trust_by (g.S.MakesSeals.made c.args.sealer) (g.S.Checker.accepts c.args.sealer)) c.args.callers c.args.schedule txs
    (of_one _ _ _ c.said_in-said.result c.args.schedule txs c.in-Ok.ensures c.said_in-said.ensures)
