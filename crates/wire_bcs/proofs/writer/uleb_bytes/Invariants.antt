use Rattle.wire_bcs.specs.Uleb.{uleb}
use Rattle.wire_bcs.proofs.Ulebs.{Begun}
use Rattle.wire_bcs.proofs.writer.uleb_bytes.Given as goal

abbrev pub invariant-loop-index : goal.invariant-loop-index
invariant-loop-index l = Begun l.index l.bytes l.rest (uleb l.number)
