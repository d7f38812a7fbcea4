use Rattle.std.proofs.Common.{◌≡◌, length}
use Rattle.ptb_run.specs.Rows.{placed_after}
use Rattle.ptb_run.specs.Slots.{slots_of}
use Rattle.ptb_run.proofs.block.place_all.Given as goal

abbrev pub invariant-loop-rest : goal.invariant-loop-rest
invariant-loop-rest l = placed_after (slots_of l.slots) l.placed l.owner l.rest ≡ placed_after (slots_of l.slots) l.initial.placed l.owner l.args

abbrev pub decreases-loop-rest : goal.decreases-loop-rest
decreases-loop-rest l = length l.rest
