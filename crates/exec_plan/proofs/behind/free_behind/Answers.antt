use Rattle.std.proofs.Common.{[], List, subst, sym, ℕ}
use Rattle.exec_plan.specs.Behind.{Frees}
use Rattle.exec_plan.proofs.Filing.{front_freed, none_freed}
use Rattle.exec_plan.proofs.behind.free_behind.Goals as goal

pub loop-rest-init : goal.loop-rest-init
loop-rest-init c =
    subst (λ (freed : List ℕ). Frees c.args.behind.now.entries c.args.behind.now.entries freed c.args.txs.now c.args.txs.now) (sym c.new-freed.ensures)
    (none_freed c.args.behind.now.entries c.args.txs.now)

pub loop-rest-preserved : goal.loop-rest-preserved
loop-rest-preserved c =
    front_freed c.args.behind.now.entries c.loop-rest.behind.entries c.free_one.new.behind.entries c.loop-rest.freed c.free_one.new.freed (record { 0 = [] }) c.loop-rest.rest.now c.args.txs.now
    c.in-len1-up.len_at_least c.loop-rest.invariant c.in_ok-free_one.ensures.freed c.in_ok-free_one.ensures.others
