use Rattle.std.proofs.Common.{◌∙◌, sym}
use Rattle.world_core.specs.Trusts.{trust_by}
use Rattle.world_core.proofs.Seeing.{last_kept, last_lines, last_scene, seen_broken, seen_cut}
use Rattle.world_core.proofs.Stated.{seen_grown}
use Rattle.world_core.proofs.world.World.see_all.Goals as goal

pub returns-in-Err-clause-kept : goal.returns-in-Err-clause-kept
returns-in-Err-clause-kept g c =
    seen_cut (trust_by (g.S.MakesSeals.made c.args.sealer.now) (g.S.Checker.accepts c.args.sealer.now)) c.args.member c.args.count c.args.self.now (g.D.Keeper.lists c.args.keeper.now) c.args.lines.now
    c.loop-left.self c.see_next.new.self (g.D.Keeper.lists c.loop-left.keeper) (g.D.Keeper.lists c.see_next.new.keeper) c.loop-left.lines c.see_next.new.lines c.loop-left.left c.loop-left-test.true c.loop-left.invariant.seen
    c.in-Err.ensures.kept

pub returns-in-Err-clause-cut : goal.returns-in-Err-clause-cut
returns-in-Err-clause-cut g c =
    seen_broken (trust_by (g.S.MakesSeals.made c.args.sealer.now) (g.S.Checker.accepts c.args.sealer.now)) c.args.member c.args.count c.args.self.now (g.D.Keeper.lists c.args.keeper.now) c.args.lines.now
    c.loop-left.self c.see_next.new.self (g.D.Keeper.lists c.loop-left.keeper) (g.D.Keeper.lists c.see_next.new.keeper) c.loop-left.lines c.see_next.new.lines c.loop-left.left c.loop-left-test.true c.loop-left.invariant.seen
    c.in-Err.ensures.cut

pub returns-then-not-goes-clause-world : goal.returns-then-not-goes-clause-world
returns-then-not-goes-clause-world g c =
    last_scene (trust_by (g.S.MakesSeals.made c.args.sealer.now) (g.S.Checker.accepts c.args.sealer.now)) c.args.member c.args.count c.args.self.now (g.D.Keeper.lists c.args.keeper.now) c.args.lines.now
    c.loop-left.self c.see_next.new.self (g.D.Keeper.lists c.loop-left.keeper) (g.D.Keeper.lists c.see_next.new.keeper) c.loop-left.lines c.see_next.new.lines c.loop-left.left c.loop-left-test.true c.loop-left.invariant.seen
    c.in-Ok.ensures.world (sym c.if-not-goes.true ∙ c.in-Ok.ensures.goes)

pub returns-then-not-goes-clause-kept : goal.returns-then-not-goes-clause-kept
returns-then-not-goes-clause-kept g c =
    last_kept (trust_by (g.S.MakesSeals.made c.args.sealer.now) (g.S.Checker.accepts c.args.sealer.now)) c.args.member c.args.count c.args.self.now (g.D.Keeper.lists c.args.keeper.now) c.args.lines.now
    c.loop-left.self c.see_next.new.self (g.D.Keeper.lists c.loop-left.keeper) (g.D.Keeper.lists c.see_next.new.keeper) c.loop-left.lines c.see_next.new.lines c.loop-left.left c.loop-left-test.true c.loop-left.invariant.seen
    c.in-Ok.ensures.world (sym c.if-not-goes.true ∙ c.in-Ok.ensures.goes) c.in-Ok.ensures.kept

pub returns-in-Err-clause-books : goal.returns-in-Err-clause-books
returns-in-Err-clause-books g c = c.in-Err.ensures.books ∙ c.loop-left.invariant.seen.books

pub returns-then-not-goes-clause-books : goal.returns-then-not-goes-clause-books
returns-then-not-goes-clause-books g c = c.in-Ok.ensures.books ∙ c.loop-left.invariant.seen.books

pub returns-clause-books : goal.returns-clause-books
returns-clause-books g c =
    c.loop-left.invariant.seen.books

pub returns-then-not-goes-clause-lines : goal.returns-then-not-goes-clause-lines
returns-then-not-goes-clause-lines g c =
    last_lines (trust_by (g.S.MakesSeals.made c.args.sealer.now) (g.S.Checker.accepts c.args.sealer.now)) c.args.member c.args.count c.args.self.now (g.D.Keeper.lists c.args.keeper.now) c.args.lines.now
    c.loop-left.self c.see_next.new.self (g.D.Keeper.lists c.loop-left.keeper) (g.D.Keeper.lists c.see_next.new.keeper) c.loop-left.lines c.see_next.new.lines c.loop-left.left c.loop-left-test.true c.loop-left.invariant.seen
    c.in-Ok.ensures.world (sym c.if-not-goes.true ∙ c.in-Ok.ensures.goes) c.in-Ok.ensures.lines

pub returns-in-Err-clause-said : goal.returns-in-Err-clause-said
returns-in-Err-clause-said g c =
    seen_grown (trust_by (g.S.MakesSeals.made c.args.sealer.now) (g.S.Checker.accepts c.args.sealer.now)) c.args.member c.args.count c.args.self.now c.loop-left.self (g.D.Keeper.lists c.args.keeper.now) (g.D.Keeper.lists c.loop-left.keeper) c.args.lines.now c.loop-left.lines c.loop-left.left
    c.see_next.new.self.said c.loop-left-test.true c.loop-left.invariant.seen c.in-Err.ensures.said
