use Rattle.std.proofs.Common.{◌∙◌, arith}
use Rattle.dag_pool.proofs.worker.from_others.Goals as goal

pub loop-place-preserved : goal.loop-place-preserved
loop-place-preserved g c =
    let before = c.loop-place.invariant in
    let kept = c.in_ok-try_stolen.ensures.kept in
    let turned = c.in_ok-try_stolen.ensures.turned in
    let mine = rw c.if-branch.false at turned.mine in record {
      ready = turned.ready;
      kept = record { of = kept.of; share = kept.share ∙ before.kept.share };
      thieves = c.steal-stolen.ensures ∙ before.thieves;
      mine = omega (arith, mine, before.mine);
    }
