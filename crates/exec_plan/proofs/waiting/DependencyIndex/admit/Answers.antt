use Rattle.std.proofs.Common.{List, subst, sym, ℕ}
use Rattle.exec_plan.specs.Waits.{IsFiled}
use Rattle.exec_plan.proofs.Filing.{woken}
use Rattle.exec_plan.proofs.waiting.DependencyIndex.admit.Goals as goal

pub file_now-requires : goal.file_now-requires
file_now-requires c =
    subst (λ (places : List ℕ). IsFiled c.args.store.now c.args.admission.now.admission places c.args.held.now c.wake.new.self) (sym c.as_slice.ensures.value)
    (woken c.args.store.now c.args.admission.now.admission c.args.txs.now c.args.held.now c.args.self.now c.wake.new.self c.in_ok-woken.woken c.requires c.in_ok-woken.ensures.next
    c.in_ok-woken.ensures.behind c.in_ok-woken.ensures.woken)
