use Rattle.std.proofs.Common.{ℕ, subst, sym}
use Rattle.std.proofs.lemmas.Bool.{eqb-true}
use Rattle.outside.specs.Lists.{Appended}
use Rattle.sui_validator.specs.Journals.{as_lists}
use Rattle.sui_validator.proofs.Alone.{adds_alone}
use Rattle.sui_validator.proofs.sole.SoleKeeper.append.Goals as goal

pub returns-then-is_own-clause-lists : goal.returns-then-is_own-clause-lists
returns-then-is_own-clause-lists g c =
    let own = eqb-true c.args.member c.args.self.now.member (sym c.if-is_own.ensures) in
    subst (λ (m : ℕ). Appended (as_lists c.args.self.now.member (g.J.Journal.records c.args.self.now.journal)) (as_lists c.args.self.now.member (g.J.Journal.records c.append.new.self)) m c.args.bytes.now c.append.result) (sym own)
    (adds_alone c.args.self.now.member (g.J.Journal.records c.args.self.now.journal) (g.J.Journal.records c.append.new.self) c.args.bytes.now c.append.result c.append.ensures.records)
