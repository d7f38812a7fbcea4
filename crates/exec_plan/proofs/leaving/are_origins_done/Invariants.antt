use Rattle.std.proofs.Common.{◌≡◌, length}
use Rattle.std.specs.List.{list_all}
use Rattle.protocol_spec.specs.Member.Rounds.{is_origin_done}
use Rattle.exec_plan.proofs.leaving.are_origins_done.Given as goal

-- the origins that were passed are done
abbrev pub invariant-loop-rest : goal.invariant-loop-rest
invariant-loop-rest l = list_all (is_origin_done l.store.executed) l.rest ≡ list_all (is_origin_done l.store.executed) l.origins

abbrev pub decreases-loop-rest : goal.decreases-loop-rest
decreases-loop-rest l = length l.rest
