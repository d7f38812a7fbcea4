use Rattle.std.proofs.Common.{◌≡◌, length, filter, map}
use Rattle.chain_types.specs.Digests.{is_object}
use Rattle.protocol_spec.specs.Chain.Keys.{fit_inputs}
use Rattle.ptb_run.proofs.fitting.fit_inputs.Given as goal

-- what is left fits as the whole does
abbrev pub invariant-loop-left : goal.invariant-loop-left
invariant-loop-left g l =
    fit_inputs l.tx (filter is_object l.left) (map g.T.Digested.seen l.rest) ≡ fit_inputs l.tx (filter is_object l.inputs) (map g.T.Digested.seen l.objects)

abbrev pub decreases-loop-left : goal.decreases-loop-left
decreases-loop-left g l = length l.left
