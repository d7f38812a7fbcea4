use Rattle.std.proofs.Common.{◌≡◌, ◌++◌, length, map}
use Rattle.exec_plan.specs.Tasks.{edge_of}
use Rattle.exec_plan.proofs.drafting.add_edges.Given as goal

-- what was passed, and then the rest
abbrev pub invariant-loop-rest : goal.invariant-loop-rest
invariant-loop-rest l = l.edges ++ map edge_of l.rest ≡ l.fn.edges ++ map edge_of l.links

abbrev pub decreases-loop-rest : goal.decreases-loop-rest
decreases-loop-rest l = length l.rest
