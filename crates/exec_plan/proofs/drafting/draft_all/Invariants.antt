use Rattle.std.proofs.Common.{◌≡◌, length}
use Rattle.version_store.specs.Stores.{held_in}
use Rattle.exec_plan.specs.Drafts.{drafted_after, nothing_drafted, picked}
use Rattle.exec_plan.proofs.drafting.draft_all.Given as goal

-- what is left, drafted after those so far, makes up all
abbrev pub invariant-loop-rest : goal.invariant-loop-rest
invariant-loop-rest l =
    drafted_after (held_in l.store) l.admission.admission l.draft (picked l.held l.rest) ≡ drafted_after (held_in l.store) l.admission.admission nothing_drafted (picked l.held l.places)

abbrev pub decreases-loop-rest : goal.decreases-loop-rest
decreases-loop-rest l = length l.rest
