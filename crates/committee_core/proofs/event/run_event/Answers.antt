use Rattle.std.proofs.Common.{Ok}
use Rattle.world_core.specs.Trusts.{trust_by}
use Rattle.committee_core.specs.Steps.{unwritten}
use Rattle.committee_core.proofs.Taken.{taken_as}
use Rattle.committee_core.proofs.event.run_event.Goals as goal

pub returns-in-Err-Failed-clause-cut : goal.returns-in-Err-Failed-clause-cut
returns-in-Err-Failed-clause-cut g c =
    let trust = trust_by (g.S.MakesSeals.made c.args.sealer.now) (g.S.Checker.accepts c.args.sealer.now) in
    unwritten (record {
      now = c.step.new.self;
      given = c.in-Ok.lines;
      taken = taken_as (Ok c.in-Ok.lines) trust c.args.event.now c.args.world.now c.step.new.self (g.D.Keeper.lists c.args.keeper.now) (g.D.Keeper.lists c.step.new.keeper) c.in-Ok.ensures.step c.in-Ok.ensures.keepable;
      written = c.write_lines.ensures.some;
    })

pub returns-in-Ok-clause-cut : goal.returns-in-Ok-clause-cut
returns-in-Ok-clause-cut g c =
    let trust = trust_by (g.S.MakesSeals.made c.args.sealer.now) (g.S.Checker.accepts c.args.sealer.now) in
    unwritten (record {
      now = c.step.new.self;
      given = c.in-Ok.lines;
      taken = taken_as (Ok c.in-Ok.lines) trust c.args.event.now c.args.world.now c.step.new.self (g.D.Keeper.lists c.args.keeper.now) (g.D.Keeper.lists c.step.new.keeper) c.in-Ok.ensures.step c.in-Ok.ensures.keepable;
      written = c.write_lines.ensures.some;
    })
