use Rattle.std.proofs.Common.{◌≡◌, ◌≤◌}
use Rattle.outside.specs.Lists.{IsCountOf, KeepsJournals}
use Rattle.world_core.proofs.Reading.{AreFirst}
use Rattle.world_core.proofs.starts.records_of.Given as goal

-- the first records are read, and the keeper is as it was
abbrev pub invariant-loop-place : goal.invariant-loop-place
invariant-loop-place g l = record {
  first : AreFirst (g.D.Keeper.lists l.fn.keeper) l.member l.place l.kept;
  same : KeepsJournals (g.D.Keeper.lists l.fn.keeper) (g.D.Keeper.lists l.keeper);
  told : IsCountOf (g.D.Keeper.lists l.fn.keeper) l.member l.count;
  size : g.D.Keeper.size l.keeper l.member ≡ l.count;
  width : g.D.Keeper.width l.keeper ≡ g.D.Keeper.width l.fn.keeper;
  later : g.D.Keeper.failed l.fn.keeper ≤ g.D.Keeper.failed l.keeper;
}
