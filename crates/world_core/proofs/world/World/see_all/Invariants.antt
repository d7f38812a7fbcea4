use Rattle.std.proofs.Common.{◌≡◌, ◌≤◌}
use Rattle.world_core.specs.Sees.{HasSeen}
use Rattle.world_core.specs.Trusts.{trust_by}
use Rattle.world_core.proofs.world.World.see_all.Given as goal

-- what was handed in, and what is left, make up all
abbrev pub invariant-loop-left : goal.invariant-loop-left
invariant-loop-left g l = record {
  seen : HasSeen (trust_by (g.S.MakesSeals.made l.fn.sealer) (g.S.Checker.accepts l.fn.sealer)) l.member l.count l.fn.self l.self (g.D.Keeper.lists l.fn.keeper) (g.D.Keeper.lists l.keeper) l.fn.lines l.lines l.left;
  width : g.D.Keeper.width l.keeper ≡ g.D.Keeper.width l.fn.keeper;
  later : g.D.Keeper.failed l.fn.keeper ≤ g.D.Keeper.failed l.keeper;
}

abbrev pub decreases-loop-left : goal.decreases-loop-left
decreases-loop-left g l = l.left
