use Rattle.std.proofs.lemmas.Result.{on_ok_weaker}
use Rattle.exec_plan.proofs.Filing.{all_kept, on_err, one_more}
use Rattle.exec_plan.proofs.waiting.DependencyIndex.hold_behind.Goals as goal

pub returns-clause-ok : goal.returns-clause-ok
returns-clause-ok c =
    on_ok_weaker c.file.result
    (λ filed. one_more c.args.past.now c.args.admission.now.admission c.args.held.now c.args.new.now c.args.self.now c.file.new.self c.file.ensures.kept c.requires filed) c.file.ensures.filed

pub returns-clause-err : goal.returns-clause-err
returns-clause-err c = on_err c.file.result (all_kept c.args.past.now c.args.admission.now.admission c.args.held.now c.args.self.now c.file.new.self c.file.ensures.kept c.requires)
