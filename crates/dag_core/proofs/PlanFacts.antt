-- What a plan's own facts say of its values.
use Rattle.std.proofs.Common.{◌≡◌, List, length}
use Rattle.dag_core.specs.declared.job.Job.{Ghosts}
use Rattle.dag_core.specs.declared.plan.Plan.{Plan}
use Rattle.dag_core.proofs.Fixed.{IsPlan}

pub is_plan : {J V O : Type 0} {g : Ghosts J V O} (plan : Plan J V O g) → ((j : J) (xs : List V) → length xs ≡ g.takes j → length (g.values j xs) ≡ g.gives j) → IsPlan g.takes g.gives g.values plan.edges plan.jobs
is_plan plan sized = record { forward = plan.forward; takes_in = plan.takes; gives_out = plan.gives; sized = sized }
