use Rattle.std.proofs.Common.{Bool, sym, subst, arith}
use Rattle.process_lines.specs.declared.line_reader.Got.{Got}
use Rattle.process_lines.specs.Lines.{Fills, Reads, Takes}
use Rattle.process_lines.proofs.Cuts.{line_ends, line_goes, line_more, line_never}
use Rattle.process_lines.proofs.line_reader.LineReader.next.Goals as goal

pub returns-then-branch-clause-reads : goal.returns-then-branch-clause-reads
returns-then-branch-clause-reads g c =
    let left = g.S.Source.left c.args.source.now in
    let now = g.S.Source.left c.loop.source in
    subst (λ (got : Got). Reads c.args.self.now c.take.new.self left now got) (sym c.whole.ensures)
    (line_ends c.args.self.now c.loop.self left now c.take.new.self c.loop.part c.take.new.part c.loop.invariant.along
    (subst (λ (b : Bool). Takes c.loop.self c.take.new.self c.loop.part c.take.new.part b) c.if-branch.true c.in_ok-take.ensures))

pub returns-then-not-branch-clause-reads : goal.returns-then-not-branch-clause-reads
returns-then-not-branch-clause-reads g c =
    let left = g.S.Source.left c.args.source.now in
    let now = g.S.Source.left c.loop.source in
    let then = g.S.Source.left c.fill.new.source in
    let along = line_goes c.args.self.now c.loop.self left now c.take.new.self c.loop.part c.take.new.part c.loop.invariant.along
    (subst (λ (b : Bool). Takes c.loop.self c.take.new.self c.loop.part c.take.new.part b) c.if-branch.false c.in_ok-take.ensures) in
    let filled = subst (λ (b : Bool). Fills c.fill.new.self now then b) c.if-not-branch.true c.in_ok-fill.ensures.fills in
    line_never c.args.self.now left now then c.take.new.part along filled.1 filled.2

pub loop-preserved : goal.loop-preserved
loop-preserved g c =
    let left = g.S.Source.left c.args.source.now in
    let now = g.S.Source.left c.loop.source in
    let then = g.S.Source.left c.fill.new.source in
    let along = line_goes c.args.self.now c.loop.self left now c.take.new.self c.loop.part c.take.new.part c.loop.invariant.along
    (subst (λ (b : Bool). Takes c.loop.self c.take.new.self c.loop.part c.take.new.part b) c.if-branch.false c.in_ok-take.ensures) in
    record {
      along = line_more c.args.self.now c.fill.new.self left now then c.take.new.part along
          (subst (λ (b : Bool). Fills c.fill.new.self now then b) c.if-not-branch.false c.in_ok-fill.ensures.fills);
      later = omega (arith, c.loop.invariant.later, c.in_ok-fill.ensures.later);
    }
