use Rattle.std.proofs.Common.{◌≡◌, ◌≤◌, length, take}
use Rattle.world_core.specs.Trusts.{trust_by}
use Rattle.committee_core.specs.Journals.{ReadsBack}
use Rattle.committee_core.specs.Report.{setting_in}
use Rattle.committee_core.proofs.Behind.{Behind}
use Rattle.committee_core.proofs.run.run_events.Given as goal

abbrev pub invariant-loop-event : goal.invariant-loop-event
invariant-loop-event g l = record {
  behind : ReadsBack (g.D.Keeper.lists l.fn.keeper) (take (length l.yielded) l.fn.schedule.events)
      → Behind (trust_by (g.S.MakesSeals.made l.fn.sealer) (g.S.Checker.accepts l.fn.sealer)) (setting_in (trust_by (g.S.MakesSeals.made l.fn.sealer) (g.S.Checker.accepts l.fn.sealer)) l.fn.schedule)
      (g.D.Keeper.lists l.fn.keeper) (g.K.Sink.held l.fn.sink) (take (length l.yielded) l.fn.schedule.events) l.world (g.D.Keeper.lists l.keeper) (g.K.Sink.held l.sink);
  stay : length l.world.posts ≡ length l.fn.world.posts;
  width : g.D.Keeper.width l.keeper ≡ g.D.Keeper.width l.fn.keeper;
  later : g.K.Sink.faults l.fn.sink ≤ g.K.Sink.faults l.sink;
  kept_later : g.D.Keeper.failed l.fn.keeper ≤ g.D.Keeper.failed l.keeper;
}
