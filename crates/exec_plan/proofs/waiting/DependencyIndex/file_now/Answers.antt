use Rattle.std.proofs.Common.{subst, sym}
use Rattle.version_store.specs.Stores.{Stored}
use Rattle.exec_plan.specs.Waits.{IsFiled}
use Rattle.exec_plan.proofs.waiting.DependencyIndex.file_now.Goals as goal

pub file_each-requires : goal.file_each-requires
file_each-requires c = subst (λ (s : Stored). IsFiled s c.args.admission.now.admission c.args.places.now c.args.held.now c.args.self.now) (sym c.of.ensures) c.requires
