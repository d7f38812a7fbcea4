use Rattle.std.proofs.Common.{◌≤◌, length}
use Rattle.outside.specs.Streams.{Owes}
use Rattle.outside.proofs.streams.write_all.Given as goal

abbrev pub invariant-loop-rest : goal.invariant-loop-rest
invariant-loop-rest g l = record {
  owes : Owes (g.K.Sink.held l.fn.sink) (g.K.Sink.held l.sink) l.rest l.bytes;
  later : g.K.Sink.faults l.fn.sink ≤ g.K.Sink.faults l.sink;
}

abbrev pub decreases-loop-rest : goal.decreases-loop-rest
decreases-loop-rest g l = length l.rest
