use Rattle.std.proofs.Common.{ap, ◌∙◌}
use Rattle.version_assign.proofs.Registering.{filed_same}
use Rattle.version_assign.proofs.Taking.{skips}
use Rattle.version_assign.proofs.register.IndexedAdmission.settle_all.Goals as goal

pub returns-clause-kept : goal.returns-clause-kept
returns-clause-kept c =
    let s = skips c.settle.new.self.book c.skip.new.self c.settle.ensures.kept.kept c.skip.ensures in
    record { kept = s.0; filed = filed_same c.settle.new.self.book c.skip.new.self c.settle.new.self.waits s.1 (ap (λ v. v.items) c.skip.ensures.rows) c.settle.ensures.kept.filed }

pub returns-clause-settled : goal.returns-clause-settled
returns-clause-settled c = (skips c.settle.new.self.book c.skip.new.self c.settle.ensures.kept.kept c.skip.ensures).1 ∙ c.settle.ensures.settled
