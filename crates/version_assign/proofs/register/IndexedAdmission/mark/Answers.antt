use Rattle.std.proofs.Common.{ap, ◌∙◌}
use Rattle.version_assign.specs.Books.{shown}
use Rattle.version_assign.specs.Calls.{settled}
use Rattle.version_assign.proofs.Entering.{mark_is}
use Rattle.version_assign.proofs.register.IndexedAdmission.mark.Goals as goal

pub returns-clause-passed : goal.returns-clause-passed
returns-clause-passed c = c.settle_listed.ensures.settled ∙ ap settled c.cut.ensures.cut ∙ mark_is (shown c.args.self.now.book)
