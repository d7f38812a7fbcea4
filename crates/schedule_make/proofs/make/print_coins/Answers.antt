use Rattle.schedule_make.specs.Make.{coin_text}
use Rattle.schedule_make.proofs.Range.{one_more}
use Rattle.schedule_make.proofs.make.print_coins.Goals as goal

pub loop-k-preserved : goal.loop-k-preserved
loop-k-preserved c =
    one_more coin_text c.args.out.now c.loop-k.out c.print_coin.new.out c.loop-k.k c.loop-k.invariant c.in_ok-print_coin.ensures
