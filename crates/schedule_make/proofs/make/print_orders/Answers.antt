use Rattle.schedule_make.specs.Make.{order_text}
use Rattle.schedule_make.proofs.Range.{one_more}
use Rattle.schedule_make.proofs.make.print_orders.Goals as goal

pub loop-k-preserved : goal.loop-k-preserved
loop-k-preserved c =
    one_more order_text c.args.out.now c.loop-k.out c.print_order.new.out c.loop-k.k c.loop-k.invariant c.in_ok-print_order.ensures
