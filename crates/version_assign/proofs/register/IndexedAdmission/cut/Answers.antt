use Rattle.version_assign.specs.Waiting.{admits_in}
use Rattle.version_assign.proofs.Clearing.{cuts}
use Rattle.version_assign.proofs.Registering.{cut_filed}
use Rattle.version_assign.proofs.register.IndexedAdmission.cut.Goals as goal

pub open_since-requires : goal.open_since-requires
open_since-requires c = (cuts c.args.self.now.book c.pass.new.self c.requires.kept c.pass.ensures).0.lines

pub returns-clause-kept : goal.returns-clause-kept
returns-clause-kept c = record {
  kept = (cuts c.args.self.now.book c.pass.new.self c.requires.kept c.pass.ensures).0;
  filed = c.open_since.ensures.at (admits_in c.pass.new.self) (cut_filed c.args.self.now.book c.pass.new.self c.args.self.now.waits c.pass.ensures c.requires.filed);
}
