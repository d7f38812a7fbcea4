use Rattle.std.proofs.Common.{◌≡◌, ◌≤◌, [], List, length, true}
use Rattle.disk_log.specs.Keeping.{told_lists}
use Rattle.validator_process.specs.Growing.{HasMore, IsWhole}
use Rattle.validator_process.specs.Serving.{Exchange, Serves, around}
use Rattle.validator_process.proofs.serving.serve.Given as goal

abbrev pub invariant-loop : goal.invariant-loop
invariant-loop g l = record {
  served : (xs : List Exchange) × Serves (g.S.Checker.accepts l.fn.sealer) xs (around [] (g.I.Source.left l.fn.source) (g.K.Sink.held l.fn.sink) (told_lists (g.F.Disk.history l.fn.log.disk) l.fn.log.end (length l.fn.log.counts)) l.fn.validator) (around l.reader (g.I.Source.left l.source) (g.K.Sink.held l.sink) (told_lists (g.F.Disk.history l.log.disk) l.log.end (length l.log.counts)) l.validator);
  member : l.validator.member ≡ l.fn.member;
  up : l.validator.up ≡ true;
  whole : IsWhole (g.F.Disk.history l.log.disk) l.log.end l.log.shut;
  more : HasMore (g.F.Disk.history l.fn.log.disk) (g.F.Disk.history l.log.disk) l.fn.log.end l.log.end (g.F.Disk.failed l.log.disk);
  width : length l.log.counts ≡ length l.fn.log.counts;
  read_later : g.I.Source.faults l.fn.source ≤ g.I.Source.faults l.source;
  later : g.F.Disk.failed l.fn.log.disk ≤ g.F.Disk.failed l.log.disk;
  said_later : g.K.Sink.faults l.fn.sink ≤ g.K.Sink.faults l.sink;
}
