use Rattle.std.proofs.Common.{◌≡◌, length}
use Rattle.sui_validator.specs.Journals.{IsCount, Stays}
use Rattle.sui_validator.proofs.Reading.{AreFirst}
use Rattle.sui_validator.proofs.records.records_of.Given as goal

-- the first records are read, and the journal is as it was
abbrev pub invariant-loop-place : goal.invariant-loop-place
invariant-loop-place g l = record {
  first : AreFirst (g.J.Journal.records l.fn.journal) l.place l.kept;
  same : Stays (g.J.Journal.records l.fn.journal) (g.J.Journal.records l.journal);
  told : IsCount (g.J.Journal.records l.fn.journal) l.count;
  size : g.J.Journal.size l.journal ≡ l.count;
  read : length l.kept ≡ l.place;
}
