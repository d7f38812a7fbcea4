use Rattle.std.proofs.Common.{◌≡◌, drop}
use Rattle.ptb_run.specs.Causes.{is_named}
use Rattle.ptb_run.proofs.causes.is_named.Given as goal

abbrev pub invariant-loop-one : goal.invariant-loop-one
invariant-loop-one l = is_named (drop l.one-index l.earlier) l.spot ≡ is_named l.earlier l.spot
